-- What a slice's own copy makes of a row whose last place is then emptied: the gap of model/specs/Row; and a row turned by such a gap.
use mathlib.Core.Path.{◌≡◌, refl, ap}
use mathlib.Core.List.{List, [], ◌∷◌, ◌++◌}
use Prim.Native.Nat.{ℕ, zero, suc, ◌+◌, ◌-◌, ◌<◌}
use native.Mathlib.Omega.{arith}
use lib.ListN.{get_or, length, set, drop, take}
use lib.Seq.{take-length}
use Rattle.std.specs.List.{copy_within}
use borrow.Author.Tests.{eq-eqb}
use Rattle.model.specs.Row.{gap, joined, turned, left, place}

-- all but the first, and then the last place again, which is emptied
all : (q : List ℕ) (x : ℕ) → set (q ++ drop (length q) (x ∷ q)) (length q) 0 ≡ q ++ 0 ∷ []
all [] x = refl
all (y ∷ q) x = ap (λ (l : List ℕ). y ∷ l) (all q y)

behind : (q : List ℕ) (i : ℕ) → i < length q → (k p : ℕ) → suc p ≡ length q → p ≡ i + k → set (take i q ++ take k (drop (suc i) q) ++ drop p q) p 0 ≡ gap q i
unfolding gap
behind [] i h k p e f = absurd (omega arith)
behind (x ∷ q) zero h k p e f =
    let g : p ≡ length q = omega arith in
    let m : k ≡ length q = omega arith in
    rw (g, m, take-length q) (all q x)
behind (x ∷ q) (suc i) h k zero e f = absurd (omega arith)
behind (x ∷ q) (suc i) h k (suc p) e f = ap (λ (l : List ℕ). x ∷ l) (behind q i (omega arith) k p (omega arith) (omega arith))

pub moved_up : (q : List ℕ) (i : ℕ) → i < length q → set (copy_within q (i + 1) (length q) i) (length q - 1) 0 ≡ gap q i
moved_up q i h =
    let a : i + 1 ≡ suc i = omega arith in
    let e : length q - 1 ≡ i + (length q - suc i) = omega arith in
    rw (a, e) (behind q i h (length q - suc i) (i + (length q - suc i)) (omega arith) refl)

-- the first leaves from place 0, and goes last
pub turned_first : (q : List ℕ) → joined (gap q 0) (get_or q 0 0) ≡ turned q
unfolding turned left place
turned_first [] = refl
turned_first (x ∷ q) = rw (eq-eqb x x refl)
