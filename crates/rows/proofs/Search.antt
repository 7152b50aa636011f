-- The first place that holds a number is the place of model/specs/Row.
use mathlib.Core.Path.{◌≡◌, refl, ap}
use mathlib.Core.List.{List, [], ◌∷◌}
use Prim.Native.Nat.{ℕ, zero, suc, ◌≤◌, ◌<◌}
use native.Mathlib.Omega.{arith}
use lib.ListN.{length, get_or}
use borrow.Author.Tests.{eq-eqb, ne_eqb}
use Rattle.model.specs.Row.{place}

pub place_is : (q : List ℕ) (v r : ℕ) → r ≤ length q → ((k : ℕ) → k < r → get_or q k 0 ≡ v → ⊥) → (r < length q → get_or q r 0 ≡ v) → r ≡ place q v
unfolding place
place_is [] v r h n e = omega arith
place_is (x ∷ q) v zero h n e = rw (eq-eqb _ _ (e (omega arith))) refl
place_is (x ∷ q) v (suc r) h n e = rw (ne_eqb _ _ (n 0 (omega arith))) (ap suc (place_is q v r (omega arith) (λ k l. n (suc k) (omega arith)) (λ l. e (omega arith))))
