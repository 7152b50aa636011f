-- A data queue's numbers: the places that hold its elements, what an element that comes or goes makes of them, and its row in the table of waits.
-- They are those of request P11; nothing of the state is asked here.
use Rattle.std.specs.Prelude.{cond, ◌&&◌, List, ℕ, ◌+◌, ◌*◌, leb, set, take, drop, replicate}
use Rattle.model.specs.Row.{gap}

-- ---- places: 16 a queue, oldest element first, and zeros past the last
-- those of queue q among the places of all queues
unfoldable pub places_of : List ℕ → ℕ → List ℕ
places_of es q = take 16 (drop (q * 16) es)

-- no element is stored
abbrev pub no_elements : List ℕ
no_elements = replicate 16 0

-- where n elements are stored, one more goes last
unfoldable pub put : List ℕ → ℕ → ℕ → List ℕ
put ps n e = set ps n e

-- the oldest leaves, and those behind it move up
unfoldable pub pulled : List ℕ → List ℕ
pulled ps = gap ps 0

-- ---- the row that lists a queue's waiters, senders or receivers: after those of the flags; a number that names no queue has none
unfoldable pub queue_row : ℕ → ℕ
queue_row q = cond (leb 1 q && leb q 8) (q + 20) 0
