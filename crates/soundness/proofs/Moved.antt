-- What a move makes of a record, and what it leaves as it is: the other records, and how many there are.
-- It goes by `moved` and `marked` of model/specs/State, in any state; Folds has what is made of moves.
use mathlib.Core.Path.{◌≡◌, sym}
use mathlib.Core.Logic.{⊎_elim}
use Prim.Native.Nat.{ℕ, ◌≤◌, ◌<◌}
use lib.ListN.{length, length-set}
use lib.Seq.{get_or-set_same, get_or-set_other, set_out}
use Rattle.laws.proofs.Number.{same?, below?}
use Rattle.model.specs.declared.Task.{Task}
use Rattle.model.specs.declared.State.{State}
use Rattle.model.specs.Task.{no_task, with_marks, settled}
use Rattle.model.specs.State.{task, time, moved, marked}

-- ---- the records
pub task_kept : (s : State) (u : ℕ) (x : Task) (t : ℕ) → (u ≡ t → ⊥) → task (moved u x s) t ≡ task s t
unfolding moved
task_kept s u x t apart = get_or-set_other s.tasks u t (settled (time s) (task s u) x) no_task (λ e. apart (sym e))

pub task-moved : (s : State) (t : ℕ) (x : Task) → t < length s.tasks → task (moved t x s) t ≡ settled (time s) (task s t) x
unfolding moved
task-moved s t x h = get_or-set_same s.tasks t (settled (time s) (task s t) x) no_task h

pub tasks-moved : (s : State) (u : ℕ) (x : Task) → length (moved u x s).tasks ≡ length s.tasks
unfolding moved
tasks-moved s u x = length-set s.tasks u (settled (time s) (task s u) x)

-- what holds of t's record with any marks holds of it after a task was marked
pub task-marked : (P : Task → Type 0) (s : State) (u n e t : ℕ) → ((c d : ℕ) → P (with_marks (task s t) c d)) → P (task (marked u n e s) t)
unfolding marked
task-marked P s u n e t holds = ⊎_elim
    (λ (z : t ≡ u). ⊎_elim
    (λ (h : u < length s.tasks). rw (z, get_or-set_same s.tasks u (with_marks (task s u) n e) no_task h) (rw z at (holds n e)))
    (λ (h : length s.tasks ≤ u). rw (set_out s.tasks u (with_marks (task s u) n e) h) (holds (task s t).charge (task s t).entered))
    (below? u (length s.tasks)))
    (λ (other : t ≡ u → ⊥). rw (get_or-set_other s.tasks u t (with_marks (task s u) n e) no_task other) (holds (task s t).charge (task s t).entered))
    (same? t u)
