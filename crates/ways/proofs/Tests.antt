-- What the tests of a plan say of the numbers that they are about, so that a test passed or failed is a fact.
-- It rests on the tests and statements of Says in laws.
use mathlib.Core.Path.{◌≡◌, refl}
use mathlib.Core.Bool.{Bool, true, false, not}
use mathlib.Core.Logic.{⊎_elim}
use Prim.Native.Nat.{ℕ, ◌≤◌, ◌<◌}
use native.Mathlib.Omega.{arith}
use lib.Dec.{T as So, eqb, leb, ltb}
use Rattle.model.specs.Plan.{within}
use Rattle.laws.proofs.Number.{same?}
use Rattle.laws.proofs.Says.{Says, says_as, says_same, says_eq, says_le, says_lt, says_not, says_within}

-- nothing is asked
pub yes : Says true (So true)
yes = says_same true

pub in_range : (low n top : ℕ) → Says (within low n top) ((low ≤ n) × (n ≤ top))
in_range low n top = says_within

pub equals : (m n : ℕ) → Says (eqb m n) (m ≡ n)
equals m n = says_eq

pub at_most : (m n : ℕ) → Says (leb m n) (m ≤ n)
at_most m n = says_le

pub below : (m n : ℕ) → Says (ltb m n) (m < n)
below m n = says_lt

-- a number is not 0, or is
pub some_of : (n : ℕ) → Says (not (eqb n 0)) (1 ≤ n)
some_of n = says_as (λ (z : n ≡ 0 → ⊥). omega arith) (λ (h : 1 ≤ n) e. omega arith) (says_not says_eq)

pub none_of : (n : ℕ) → Says (not (not (eqb n 0))) (n ≡ 0)
none_of n = says_as
    (λ (z : (n ≡ 0 → ⊥) → ⊥). ⊎_elim (λ (e : n ≡ 0). e) (λ (d : n ≡ 0 → ⊥). absurd (z d)) (same? n 0))
    (λ (e : n ≡ 0) d. d e)
    (says_not (says_not says_eq))

pub positive : {n : ℕ} → (n ≡ 0 → ⊥) → 1 ≤ n
positive {n} z = omega arith

pub is_false : (b : Bool) → (So b → ⊥) → b ≡ false
is_false true n = absurd (n tt)
is_false false n = refl
