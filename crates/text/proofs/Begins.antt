-- A list begins with a word: place by place, what the loop of `begins` goes by, and what follows for the bytes at a place.
-- It rests on the definition of `begins`.
use Prim.Native.Nat.{ℕ, zero, suc, ◌<◌, ◌≤◌}
use mathlib.Core.Path.{◌≡◌, refl, ap}
use mathlib.Core.Logic.{◌⊎◌, inl, inr}
use mathlib.Core.Bool.{Bool, true, false, cond, ◌&&◌, false≢true}
use mathlib.Core.List.{List, [], ◌∷◌}
use native.Mathlib.Omega.{arith}
use lib.Dec.{eqb}
use lib.ListN.{length, get_or}
use borrow.Author.Tests.{eqb-true}
use Rattle.text.specs.Bytes.{begins}

-- so far, and at the next byte of both
pub begins_next : (so : Bool) (b a : ℕ) (s t : List ℕ) → so && begins (b ∷ s) (a ∷ t) ≡ (so && eqb b a) && begins s t
unfolding begins
begins_next true b a s t = go (eqb b a)
  where
    go : (p : Bool) → cond p (begins s t) false ≡ p && begins s t
    go true = refl
    go false = refl
begins_next false b a s t = refl

-- so far, where nothing is left of the word
pub begins_end : (so : Bool) (s t : List ℕ) → length t ≤ length s → (s ≡ []) ⊎ (t ≡ []) → so && begins s t ≡ so
unfolding begins
begins_end true s [] h e = refl
begins_end false s [] h e = refl
begins_end so s (a ∷ t) h (inl e) = absurd (omega (arith, ap length e))
begins_end so s (a ∷ t) h (inr e) = absurd (omega (arith, ap length e))

pub begins_short : (s t : List ℕ) → length s < length t → begins s t ≡ false
unfolding begins
begins_short s [] h = absurd (omega arith)
begins_short [] (a ∷ t) h = refl
begins_short (b ∷ s) (a ∷ t) h = go (eqb b a) (begins_short s t (omega arith))
  where
    go : (p : Bool) → begins s t ≡ false → cond p (begins s t) false ≡ false
    go true e = e
    go false e = refl

-- the word's bytes are those of the list, and it has no more
pub begins_at : (s t : List ℕ) → begins s t ≡ true → (i : ℕ) → i < length t → get_or s i 0 ≡ get_or t i 0
unfolding begins
begins_at s [] e i h = absurd (omega arith)
begins_at [] (a ∷ t) e i h = absurd (false≢true e)
begins_at (b ∷ s) (a ∷ t) e i h = go (eqb b a) refl e i h (λ q j k. begins_at s t q j k)
  where
    go : (p : Bool) → eqb b a ≡ p → cond p (begins s t) false ≡ true → (i : ℕ) → i < suc (length t)
        → (begins s t ≡ true → (j : ℕ) → j < length t → get_or s j 0 ≡ get_or t j 0) → get_or (b ∷ s) i 0 ≡ get_or (a ∷ t) i 0
    go true r q zero h ih = eqb-true b a r
    go true r q (suc i) h ih = ih q i (omega arith)
    go false r q i h ih = absurd (false≢true q)

pub begins_in : (s t : List ℕ) → begins s t ≡ true → length t ≤ length s
unfolding begins
begins_in s [] e = omega arith
begins_in [] (a ∷ t) e = absurd (false≢true e)
begins_in (b ∷ s) (a ∷ t) e = go (eqb b a) e (λ q. begins_in s t q)
  where
    go : (p : Bool) → cond p (begins s t) false ≡ true → (begins s t ≡ true → length t ≤ length s) → suc (length t) ≤ suc (length s)
    go true q ih = omega (arith, ih q)
    go false q ih = absurd (false≢true q)
