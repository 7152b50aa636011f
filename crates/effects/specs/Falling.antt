-- A tick over the timeouts alone, for the ticks that change none, and for those that end none.
-- Falling in proofs/ says when that is the whole of a tick's timeouts.
use Rattle.std.specs.Prelude.{Bool, true, false, cond, ◌||◌, List, ℕ, zero, suc, ◌-◌, eqb, get_or, set}
use Rattle.model.specs.declared.Task.{Task}
use Rattle.model.specs.Task.{no_task, endless, with_remaining}

-- a timeout that a tick leaves: none, or one that never ends
unfoldable pub stays : ℕ → Bool
stays n = eqb n 0 || eqb n endless

-- all of n timeouts, from that of task t on, are such
unfoldable pub all_stay : ℕ → ℕ → List Task → Bool
all_stay zero t tasks = true
all_stay (suc n) t tasks = cond (stays (get_or tasks t no_task).wait.remaining) (all_stay n (suc t) tasks) false

-- what a tick leaves of a timeout that it does not end
unfoldable pub fallen : ℕ → ℕ
fallen n = cond (eqb n 0) 0 (cond (eqb n endless) n (n - 1))

-- one of n timeouts, from that of task t on, ends with the next tick
unfoldable pub is_due : ℕ → ℕ → List Task → Bool
is_due zero t tasks = false
is_due (suc n) t tasks = eqb (get_or tasks t no_task).wait.remaining 1 || is_due n (suc t) tasks

-- n timeouts fall, from that of task t on
unfoldable pub fall_all : ℕ → ℕ → List Task → List Task
fall_all zero t tasks = tasks
fall_all (suc n) t tasks = let x = get_or tasks t no_task in fall_all n (suc t) (set tasks t (with_remaining x (fallen x.wait.remaining)))
