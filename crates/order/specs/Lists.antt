-- Lists of tasks, and of tasks each with the element that it sends.
-- Nothing of a state is asked here.
use Rattle.std.specs.Prelude.{Bool, true, false, cond, not, ◌&&◌, ◌||◌, List, [], ◌∷◌, ℕ, eqb}

-- ---- tasks
unfoldable pub has : ℕ → List ℕ → Bool
has t [] = false
has t (u ∷ rest) = eqb u t || has t rest

-- no task stands twice
unfoldable pub once : List ℕ → Bool
once [] = true
once (u ∷ rest) = not (has u rest) && once rest

-- those of whom p holds, in order
unfoldable pub staying : (ℕ → Bool) → List ℕ → List ℕ
staying p [] = []
staying p (u ∷ rest) = cond (p u) (u ∷ staying p rest) (staying p rest)

-- ---- tasks with their elements
unfoldable pub tasks : List (ℕ × ℕ) → List ℕ
tasks [] = []
tasks (x ∷ rest) = x.0 ∷ tasks rest

unfoldable pub elements : List (ℕ × ℕ) → List ℕ
elements [] = []
elements (x ∷ rest) = x.1 ∷ elements rest

-- each with what f says of it
unfoldable pub paired : (ℕ → ℕ) → List ℕ → List (ℕ × ℕ)
paired f [] = []
paired f (t ∷ rest) = (t, f t) ∷ paired f rest

-- those of whose task p holds, in order
unfoldable pub keeping : (ℕ → Bool) → List (ℕ × ℕ) → List (ℕ × ℕ)
keeping p [] = []
keeping p (x ∷ rest) = cond (p x.0) (x ∷ keeping p rest) (keeping p rest)
