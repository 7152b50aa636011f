-- Laws by which the loops of crossing off go on, from one place to the next and from one row to the next.
-- Rests on specs/Crossing.
use mathlib.Core.Path.{◌≡◌, refl, sym, ◌∙◌}
use mathlib.Core.Bool.{Bool, true, false, ◌&&◌, not, and_assoc, and-true, and-false}
use mathlib.Core.List.{List, [], ◌∷◌}
use Prim.Native.Nat.{ℕ, zero, suc, ◌+◌, ◌≤◌, ◌<◌}
use native.Mathlib.Decide.{ℕ_discrete}
use native.Mathlib.Numerals.{add-one}
use lib.Dec.{eqb}
use lib.ListN.{length, get_or, set, drop, drop_of_length-le, get_or-eq_default}
use lib.Seq.{drop-cons}
use borrow.Author.Tests.{eq-eqb, ne_eqb}
use Rattle.model.specs.declared.Queue.{Queue}
use Rattle.model.specs.Test.{zeros, is_listed}
use Rattle.crossing.specs.Crossing.{crosses, crossed, crosses_all}

-- ---- zeros. Past the end of a list every place reads as 0
zeros_next : (q : List ℕ) (i : ℕ) → zeros (drop i q) ≡ (eqb (get_or q i 0) 0 && zeros (drop (suc i) q))
unfolding zeros
zeros_next [] zero = refl
zeros_next [] (suc i) = refl
zeros_next (x ∷ q) zero = refl
zeros_next (x ∷ q) (suc i) = zeros_next q i

module _ (q : List ℕ) (i : ℕ) where
  -- what was seen and what is left say it of the whole, one place further on
  pub zeros_on : (clear r : Bool) → r ≡ (clear && zeros (drop i q)) → r ≡ ((clear && eqb (get_or q i 0) 0) && zeros (drop (i + 1) q))
  zeros_on clear r e =
      let f : r ≡ (clear && (eqb (get_or q i 0) 0 && zeros (drop (suc i) q))) = rw (zeros_next q i) at e in
      rw add-one (f ∙ sym (and_assoc clear (eqb (get_or q i 0) 0) (zeros (drop (suc i) q))))

  -- and at the end what was seen
  pub zeros_end : (clear : Bool) → length q ≤ i → (clear && zeros (drop i q)) ≡ clear
  unfolding zeros
  zeros_end clear h = rw (drop_of_length-le q h) (and-true clear)

-- ---- one row. What is said of `crosses` and of `crossed` from place i on
module _ (l : ℕ) (w : List ℕ) where
  -- a number past the wants list wants nothing
  pub far_listed : (t : ℕ) → length w ≤ t → is_listed l (get_or w t 0) ≡ false
  far_listed t h = rw (get_or-eq_default w 0 h) (elim (ℕ_discrete l 0) [
    | yes e ↦ rw (eq-eqb l 0 e)
    | no n ↦ rw (ne_eqb 0 l (λ k. n (sym k))) (and-false (not (eqb l 0)))
  ])

  module _ (q : List ℕ) (i : ℕ) where
    abbrev t : ℕ
    t = get_or q i 0

    pub crosses_done : length q ≤ i → (crosses l (drop i q) w ≡ true) × (crossed l (drop i q) w ≡ w)
    unfolding crosses crossed
    crosses_done h = (rw (drop_of_length-le q h), rw (drop_of_length-le q h))

    pub crosses_ends : i < length q → t ≡ 0 → (crosses l (drop i q) w ≡ zeros (drop i q)) × (crossed l (drop i q) w ≡ w)
    unfolding crosses crossed zeros
    crosses_ends h e = (rw (drop-cons q i 0 h, eq-eqb t 0 e), rw (drop-cons q i 0 h, eq-eqb t 0 e))

    pub crosses_fails : i < length q → (t ≡ 0 → ⊥) → is_listed l (get_or w t 0) ≡ false → (crosses l (drop i q) w ≡ false) × (crossed l (drop i q) w ≡ w)
    unfolding crosses crossed
    crosses_fails h n e = (rw (drop-cons q i 0 h, ne_eqb t 0 n, e), rw (drop-cons q i 0 h, ne_eqb t 0 n, e))

    pub crosses_on : i < length q → (t ≡ 0 → ⊥) → is_listed l (get_or w t 0) ≡ true
        → (crosses l (drop i q) w ≡ crosses l (drop (i + 1) q) (set w t 0)) × (crossed l (drop i q) w ≡ crossed l (drop (i + 1) q) (set w t 0))
    unfolding crosses crossed
    crosses_on h n e = (rw (add-one, drop-cons q i 0 h, ne_eqb t 0 n, e), rw (add-one, drop-cons q i 0 h, ne_eqb t 0 n, e))

-- ---- the table
module _ (ls : List Queue) (l : ℕ) (d : Queue) (w : List ℕ) where
  abbrev q : List ℕ
  q = (get_or ls l d).places

  rows_on : l < length ls → crosses_all l (drop l ls) w ≡ (crosses l q w && crosses_all (l + 1) (drop (l + 1) ls) (crossed l q w))
  unfolding crosses_all
  rows_on h = rw (add-one, drop-cons ls l d h)

  pub rows_fail : l < length ls → crosses l q w ≡ false → crosses_all l (drop l ls) w ≡ false
  rows_fail h e = rows_on h ∙ rw e

  pub rows_crossed : l < length ls → crosses l q w ≡ true → crosses_all l (drop l ls) w ≡ crosses_all (l + 1) (drop (l + 1) ls) (crossed l q w)
  rows_crossed h e = rows_on h ∙ rw e

pub rows_done : (ls : List Queue) (l : ℕ) (w : List ℕ) → length ls ≤ l → crosses_all l (drop l ls) w ≡ zeros w
unfolding crosses_all
rows_done ls l w h = rw (drop_of_length-le ls h)
