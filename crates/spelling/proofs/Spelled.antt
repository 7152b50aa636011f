-- Two spellings byte by byte: the same bytes begin them, and the same digits, up to where a word stands in the one and digits in the other.
-- It rests on the word's first byte being f (102) and its digits' first being 4 (52).
use Prim.Native.Nat.{ℕ, suc, ◌+◌}
use mathlib.Core.Path.{◌≡◌, refl, sym, ap, ◌∙◌}
use mathlib.Core.Bool.{Bool, true, false, cond, not, ◌&&◌, false≢true}
use mathlib.Core.List.{List, [], ◌∷◌, ◌++◌}
use native.Mathlib.Omega.{arith}
use lib.Dec.{T as So, leb, eqb}
use lib.ListN.{length, get_or, drop}
use lib.Seq.{drop-drop, get_or-drop}
use borrow.Author.Tests.{ne_eqb}
use Rattle.std.specs.Prelude.{Option, Some, None, IfSome}
use Rattle.text.specs.declared.number.Number.{Number}
use Rattle.text.specs.Number.{is_digit, digits, value_after, numeral, number_of}
use Rattle.text.specs.Bytes.{bytes, begins}
use Rattle.text.proofs.Reading.{cond_by}
use Rattle.services.proofs.Numbers.{both_left, both_right}
use Rattle.spelling.specs.Statement.{in_digits, Spelled, done, same, word}

-- ---- the first byte
abbrev pub NoWord : List ℕ → Type 0
NoWord s = get_or s 0 0 ≡ 102 → ⊥

pub head_same : {s t : List ℕ} → Spelled s t → NoWord s → get_or t 0 0 ≡ get_or s 0 0
head_same done h = refl
head_same (same b p) h = refl
head_same (word p) h = absurd (h refl)

pub tail_same : {s t : List ℕ} → Spelled s t → NoWord s → Spelled (drop 1 s) (drop 1 t)
tail_same done h = done
tail_same (same b p) h = p
tail_same (word p) h = absurd (h refl)

pub not_empty : (b : ℕ) (s : List ℕ) → eqb (length (b ∷ s)) 0 ≡ false
not_empty b s = ne_eqb (suc (length s)) 0 (λ e. omega (arith, e))

pub empty_same : {s t : List ℕ} → Spelled s t → eqb (length t) 0 ≡ eqb (length s) 0
empty_same done = refl
empty_same (same {s} {t} b p) = not_empty b t ∙ sym (not_empty b s)
empty_same (word {s} {t} p) = not_empty 52 (drop 1 in_digits ++ t) ∙ sym (not_empty 102 (bytes "orever" ++ s))

-- ---- a text without those two bytes
unfoldable pub clean : List ℕ → Bool
clean [] = true
clean (a ∷ u) = not (eqb 102 a) && (not (eqb 52 a) && clean u)

is_not : (b : Bool) → So (not b) → b ≡ false
is_not true h = absurd h
is_not false h = refl

pub begins_same : {s t : List ℕ} (u : List ℕ) → So (clean u) → Spelled s t → begins t u ≡ begins s u
unfolding begins clean
begins_same [] c p = refl
begins_same (a ∷ u) c done = refl
begins_same (a ∷ u) c (same b p) =
    ap (λ (x : Bool). cond (eqb b a) x false) (begins_same u (both_right (not (eqb 52 a)) (clean u) (both_right (not (eqb 102 a)) (not (eqb 52 a) && clean u) c)) p)
begins_same (a ∷ u) c (word p) =
    rw (is_not (eqb 102 a) (both_left (not (eqb 102 a)) (not (eqb 52 a) && clean u) c), is_not (eqb 52 a) (both_left (not (eqb 52 a)) (clean u) (both_right (not (eqb 102 a)) (not (eqb 52 a) && clean u) c)))

pub begins_rest : {s t : List ℕ} (u : List ℕ) → So (clean u) → Spelled s t → begins s u ≡ true → Spelled (drop (length u) s) (drop (length u) t)
unfolding begins clean
begins_rest [] c p e = p
begins_rest (a ∷ u) c done e = absurd (false≢true e)
begins_rest (a ∷ u) c (same {s} {t} b p) e =
    go (eqb b a) e (λ q. begins_rest u (both_right (not (eqb 52 a)) (clean u) (both_right (not (eqb 102 a)) (not (eqb 52 a) && clean u) c)) p q)
  where
    go : (x : Bool) → cond x (begins s u) false ≡ true → (begins s u ≡ true → Spelled (drop (length u) s) (drop (length u) t)) → Spelled (drop (length u) s) (drop (length u) t)
    go true q ih = ih q
    go false q ih = absurd (false≢true q)
begins_rest (a ∷ u) c (word p) e =
    absurd (false≢true (rw (is_not (eqb 102 a) (both_left (not (eqb 102 a)) (not (eqb 52 a) && clean u) c)) at e))

-- ---- digits
-- the byte after them is no word's
abbrev pub EndsClear : List ℕ → Type 0
EndsClear s = get_or s (length (digits s)) 0 ≡ 102 → ⊥

pub digits_same : {s t : List ℕ} → Spelled s t → EndsClear s → (digits t ≡ digits s) × Spelled (drop (length (digits s)) s) (drop (length (digits s)) t)
unfolding digits is_digit
digits_same done h = (refl, done)
digits_same (same {s} {t} b p) h = go (is_digit b) h (λ g. digits_same p g)
  where
    go : (x : Bool) → (get_or (b ∷ s) (length (cond x (b ∷ digits s) [])) 0 ≡ 102 → ⊥)
        → (EndsClear s → (digits t ≡ digits s) × Spelled (drop (length (digits s)) s) (drop (length (digits s)) t))
        → (cond x (b ∷ digits t) [] ≡ cond x (b ∷ digits s) []) × Spelled (drop (length (cond x (b ∷ digits s) [])) (b ∷ s)) (drop (length (cond x (b ∷ digits s) [])) (b ∷ t))
    go true g ih = let r = ih g in (ap (λ (ds : List ℕ). b ∷ ds) r.0, r.1)
    go false g ih = (refl, same b p)
digits_same (word p) h = absurd (h refl)

first_same : {s t : List ℕ} → Spelled s t → EndsClear s → get_or t 0 0 ≡ get_or s 0 0
unfolding digits is_digit
first_same done h = refl
first_same (same b p) h = refl
first_same (word p) h = absurd (h refl)

pub number_same : {s t : List ℕ} → Spelled s t → EndsClear s → number_of t ≡ number_of s
unfolding number_of
number_same p h = rw ((digits_same p h).0, first_same p h)

-- a number has as many bytes as its digits are
abbrev pub Counted : Option Number → ℕ → Type 0
Counted o l = IfSome o (λ x. x.next ≡ l)

pub number_counted : (s : List ℕ) → Counted (number_of s) (length (digits s))
unfolding number_of numeral
number_counted s =
    let v = value_after 0 (digits s) in
    let n = length (digits s) in
    let x : Number = record { value = v; next = n } in
    let P : Option Number → Type 0 = λ (o : Option Number). Counted o n in
    cond_by P (leb v 4294967295) _ None (λ _.
    cond_by P (eqb n 0) None _ (λ _. tt)
    (cond_by P (eqb n 1) (Some x) _ (λ _. refl)
    (cond_by P (eqb (get_or s 0 0) 48) None (Some x) (λ _. tt) refl))) tt

-- ---- what the one reads, the other reads too, and what follows is spelled alike
pub record Reads {A : Type 0} (make : ℕ → A) (r : A) (rest t : List ℕ) : Type 0 where
  pub next : ℕ
  pub reads : r ≡ make next
  pub follows : Spelled rest (drop next t)

-- the same is read in both
pub both_read : {A : Type 0} (P : A → Type 0) (o r : Option A) → r ≡ o → IfSome o P → IfSome o (λ x. (r ≡ Some x) × P x)
both_read P (Some x) r e h = (e, h)
both_read P None r e h = tt

-- the first byte after n is the n-th
pub at_drop : (n : ℕ) (s : List ℕ) → get_or (drop n s) 0 0 ≡ get_or s n 0
at_drop n s = let e : n + 0 ≡ n = omega arith in get_or-drop n s 0 0 ∙ ap (λ (k : ℕ). get_or s k 0) e

-- after i bytes of the one and k of the other
pub further : {A : Type 0} {make : ℕ → A} {r : A} (s t : List ℕ) (i j k : ℕ) (x : Reads make r (drop j (drop i s)) (drop k t)) → Spelled (drop (i + j) s) (drop (k + x.next) t)
further s t i j k x = rw (drop-drop j i s, drop-drop x.next k t) at x.follows
