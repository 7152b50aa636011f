-- A number's digits by their count, and one digit at a time.
-- It rests on the definition of `decimal`.
use Prim.Native.Nat.{ℕ, zero, suc, ◌+◌, ◌/◌, ◌%◌, ◌<◌, ◌≤◌, ◌^◌}
use mathlib.Core.Path.{◌≡◌, refl, ap}
use mathlib.Core.Bool.{Bool, true, false}
use mathlib.Core.List.{List, [], ◌∷◌, ◌++◌}
use native.Mathlib.Nat.{div-lt_iff_lt-mul, pow-suc}
use native.Mathlib.Decide.{dec_le}
use native.Mathlib.Omega.{arith}
use lib.Dec.{ltb}
use lib.ListN.{length, length-append}
use borrow.Author.Tests.{ltb-false, lt-ltb, le-ltb}
use Rattle.text.specs.Decimal.{decimal_in, decimal}

-- any number of digits that is more than n serves
enough : (f g n : ℕ) → n < f → n < g → decimal_in f n ≡ decimal_in g n
unfolding decimal_in
enough zero g n p q = absurd (omega arith)
enough (suc f) zero n p q = absurd (omega arith)
enough (suc f) (suc g) n p q = go (ltb n 10) refl (λ a b. enough f g (n / 10) a b)
  where
    go : (b : Bool) → ltb n 10 ≡ b → (n / 10 < f → n / 10 < g → decimal_in f (n / 10) ≡ decimal_in g (n / 10)) → decimal_in (suc f) n ≡ decimal_in (suc g) n
    go true e ih = simp e
    go false e ih = let h : 10 ≤ n = ltb-false n 10 e in simp e (ap (λ (l : List ℕ). l ++ ((48 + n % 10) ∷ [])) (ih (omega arith) (omega arith)))

pub decimal_one : (n : ℕ) → n ≤ 9 → decimal n ≡ (48 + n) ∷ []
unfolding decimal decimal_in
decimal_one n h = simp (lt-ltb n 10 (omega arith))

pub decimal_step : (n : ℕ) → 9 < n → decimal n ≡ decimal (n / 10) ++ ((48 + n % 10) ∷ [])
unfolding decimal decimal_in
decimal_step n h = simp (le-ltb n 10 h) (ap (λ (l : List ℕ). l ++ ((48 + n % 10) ∷ [])) (enough n (suc (n / 10)) (n / 10) (omega arith) (omega arith)))

pub width_one : (n : ℕ) → n ≤ 9 → length (decimal n) ≡ 1
width_one n h = rw (decimal_one n h)

pub width_step : (n : ℕ) → 9 < n → length (decimal n) ≡ length (decimal (n / 10)) + 1
width_step n h = rw (decimal_step n h) (simp length-append)

-- from 10 to the power of k on, and below the next power: k + 1 digits
pub width_is : (k n : ℕ) → 10 ^ suc k ≤ n → n < 10 ^ suc (suc k) → suc (suc k) ≡ length (decimal n)
width_is zero n h g = omega (arith, width_step n (omega arith), width_one (n / 10) (omega arith))
width_is (suc k) n h g = omega (arith, width_step n (omega arith), width_is k (n / 10) (omega arith) (omega arith))

-- a number below 10 ^ (k + 1) has at most k + 1 digits
pub width_most : (k n : ℕ) → n < 10 ^ suc k → length (decimal n) ≤ suc k
width_most zero n h = go (dec_le n 9)
  where
    go : Dec (n ≤ 9) → length (decimal n) ≤ 1
    go (yes p) = omega (arith, width_one n p)
    go (no p) = absurd (omega arith)
width_most (suc k) n h = go (dec_le n 9) (width_most k (n / 10))
  where
    go : Dec (n ≤ 9) → (n / 10 < 10 ^ suc k → length (decimal (n / 10)) ≤ suc k) → length (decimal n) ≤ suc (suc k)
    go (yes p) ih = omega (arith, width_one n p)
    go (no p) ih = omega (arith, width_step n (omega arith), ih ((div-lt_iff_lt-mul (omega arith)).1 (rw (pow-suc 10 (suc k)) at h)))
