-- Crossing off: each task that stands in a row must want that row, and from then on wants nothing. At the end nobody wants a row.
-- A wants list has the row that each task wants, 0 for none. Rests on the rows of model.
use Rattle.std.specs.Prelude.{Bool, true, cond, ◌&&◌, List, [], ◌∷◌, ℕ, suc, eqb, get_or, set}
use Rattle.model.specs.declared.Queue.{Queue}
use Rattle.model.specs.Test.{zeros, is_listed}

-- each task of row l wants it as its turn comes, and from the first 0 on there are zeros
unfoldable pub crosses : ℕ → List ℕ → List ℕ → Bool
crosses l [] w = true
crosses l (x ∷ q) w = let rest = crosses l q (set w x 0) in cond (eqb x 0) (zeros q) (is_listed l (get_or w x 0) && rest)

-- what is wanted after row l: as far as its tasks want it, they are crossed off
unfoldable pub crossed : ℕ → List ℕ → List ℕ → List ℕ
crossed l [] w = w
crossed l (x ∷ q) w = let rest = crossed l q (set w x 0) in cond (eqb x 0) w (cond (is_listed l (get_or w x 0)) rest w)

-- the queues of a table, the first of which is row l, cross off all that is wanted
unfoldable pub crosses_all : ℕ → List Queue → List ℕ → Bool
crosses_all l [] w = zeros w
crosses_all l (q ∷ qs) w = crosses l q.places w && crosses_all (suc l) qs (crossed l q.places w)
