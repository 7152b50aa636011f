-- What a slice's own copy makes of places whose last is then emptied: the places pulled up of model/specs/DataQueue.
use mathlib.Core.Path.{◌≡◌, refl, ap}
use mathlib.Core.List.{List, [], ◌∷◌, ◌++◌}
use Prim.Native.Nat.{ℕ, ◌+◌, ◌-◌, ◌<◌}
use native.Mathlib.Omega.{arith}
use lib.ListN.{length, set, drop}
use lib.Seq.{take-length}
use Rattle.std.specs.List.{copy_within}
use Rattle.model.specs.Row.{gap}
use Rattle.model.specs.DataQueue.{pulled}

-- all but the first, and then the last place again, which is emptied
all : (q : List ℕ) (x : ℕ) → set (q ++ drop (length q) (x ∷ q)) (length q) 0 ≡ q ++ 0 ∷ []
all [] x = refl
all (y ∷ q) x = ap (λ (l : List ℕ). y ∷ l) (all q y)

pub pulled_up : (ps : List ℕ) → 0 < length ps → set (copy_within ps 1 (length ps) 0) (length ps - 1) 0 ≡ pulled ps
unfolding pulled gap
pulled_up [] h = absurd (omega arith)
pulled_up (x ∷ q) h =
    let n : length (x ∷ q) - 1 ≡ length q = omega arith in
    let z : 0 + length q ≡ length q = omega arith in
    rw (n, z, take-length q) (all q x)
