-- The bench table: document 01's starred cases and case 13, its worked list of ten calls, and vectors of corner cases, as rows of one table
-- that is computed over the very definitions that the kernel's contracts cite. A damaged definition is refused here.
use mathlib.Core.List.{List, [], ◌∷◌}
use Prim.Native.Nat.{ℕ}
use lib.Dec.{T as So}
use Rattle.model.specs.declared.State.{State}
use Rattle.model.specs.declared.Call.TheVariants.{TaskCreate, TaskActivate, TaskExit, TaskTerminate, TaskSuspend, TaskResume, TaskSleep, TaskWakeup, TaskIwakeup, TaskChangePriority, SysTsliceTicks, SemCreate, SemDelete, SemSignal, SemIsignal, SemAcquire, SemPolling}
use Rattle.model.specs.State.{fresh, with_time}
use Rattle.model.specs.Code.{minus}
use Rattle.model.specs.Bench.{time, wait_code, suspended, priority, remaining, wakeups, handed, charge, order, queue, counted, shows, Case, all_hold_checked, all_hold}
use Rattle.model.proofs.Words.{ok, pending, task, int, ticks, from0, opened}

at : ℕ → State
at n = with_time n fresh

-- 01's own, by the checked call
pub cases : List Case
cases =
    -- the starred cases. 1: three tasks of one level, slice 2
    from0
    (task (SysTsliceTicks 6 2) ok 0 ∷ task (TaskCreate 1 6 1) ok 1 ∷ task (TaskCreate 2 6 1) ok 1 ∷ task (TaskCreate 3 6 1) ok 1
    ∷ ticks 1 ∷ ticks 2 ∷ ticks 2 ∷ ticks 3 ∷ ticks 3 ∷ ticks 1 ∷ [])
    -- 2: acquire with timeout 1, empty
    ∷ from0 (task (SemCreate 1 0 1) ok 0 ∷ task (TaskCreate 1 5 1) ok 1 ∷ task (SemAcquire 1 1) pending 0 ∷ ticks 1 ∷ wait_code 1 (minus 4) ∷ [])
    -- 3: sleep 1
    ∷ from0 (task (TaskCreate 1 5 1) ok 1 ∷ task (TaskSleep 1) pending 0 ∷ ticks 1 ∷ wait_code 1 ok ∷ [])
    -- 4: a tick leaves the timeout 4,294,967,295, and lets 65,535 fall
    ∷ from0
    (task (TaskCreate 1 5 1) ok 1 ∷ task (TaskSleep 4294967295) pending 0 ∷ task (TaskCreate 2 5 1) ok 2 ∷ task (TaskSleep 65535) pending 0
    ∷ ticks 0 ∷ shows (remaining 1) (4294967295 ∷ []) ∷ shows (remaining 2) (65534 ∷ []) ∷ [])
    -- 5: a suspended waiter times out
    ∷ from0
    (task (SemCreate 1 0 1) ok 0 ∷ task (TaskCreate 1 5 1) ok 1 ∷ task (SemAcquire 1 1) pending 0 ∷ task (TaskSuspend 1) ok 0
    ∷ ticks 0 ∷ wait_code 1 (minus 4) ∷ shows (suspended 1) (1 ∷ []) ∷ task (TaskResume 1) ok 1 ∷ [])
    -- 6: start 1, maximum 1
    ∷ from0 (task (SemCreate 1 1 1) ok 0 ∷ task (SemSignal 1) (minus 1) 0 ∷ [])
    -- 7: queue 3 then 1, equal priority, deleted
    ∷ from0
    (task (SemCreate 1 0 1) ok 0 ∷ task (TaskCreate 3 5 1) ok 3 ∷ task (SemAcquire 1 9) pending 0 ∷ task (TaskCreate 1 5 1) ok 1 ∷ task (SemAcquire 1 9) pending 0
    ∷ shows (queue 1) (3 ∷ 1 ∷ []) ∷ task (SemDelete 1) ok 3 ∷ wait_code 3 (minus 10) ∷ wait_code 1 (minus 10) ∷ shows (order 5) (3 ∷ 1 ∷ []) ∷ [])
    -- 8: acquire of 13; of uncreated 2 with timeout 0, and 1
    ∷ from0 (task (TaskCreate 1 5 1) ok 1 ∷ task (SemAcquire 13 1) (minus 5) 1 ∷ task (SemAcquire 2 0) (minus 5) 1 ∷ task (SemAcquire 2 1) (minus 9) 1 ∷ [])
    -- 9: the time wraps
    ∷ record { start = at 4294967295; steps = ticks 0 ∷ shows time (0 ∷ []) ∷ [] }
    -- 10: two wakeups of an awake task
    ∷ from0 (task (TaskCreate 1 5 1) ok 1 ∷ task (TaskWakeup 1) ok 1 ∷ int (TaskIwakeup 1) (minus 1) 1 ∷ [])
    -- 11: priority 0 or 31 at creation; 1 and 30
    ∷ from0 (task (TaskCreate 1 0 1) (minus 5) 0 ∷ task (TaskCreate 1 31 1) (minus 5) 0 ∷ task (TaskCreate 1 1 1) ok 1 ∷ task (TaskCreate 2 30 1) ok 1 ∷ [])
    -- 12: tasks 9 and 4 of one level time out in one tick
    ∷ from0
    (task (TaskCreate 9 5 1) ok 9 ∷ task (TaskSleep 2) pending 0 ∷ task (TaskCreate 4 5 1) ok 4 ∷ task (TaskSleep 2) pending 0
    ∷ ticks 0 ∷ ticks 4 ∷ shows (order 5) (4 ∷ 9 ∷ []) ∷ [])
    -- 01's worked list of ten calls
    ∷ from0
    (task (SemCreate 1 0 1) ok 0 ∷ task (TaskCreate 1 5 1) ok 1 ∷ task (TaskCreate 2 5 1) ok 1 ∷ task (SemAcquire 1 2) pending 2 ∷ ticks 2
    ∷ int (SemIsignal 1) ok 2 ∷ task (SemSignal 1) ok 2 ∷ task (SemSignal 1) (minus 1) 2 ∷ task TaskExit ok 1 ∷ task (SemPolling 1) ok 1 ∷ [])
    ∷ []

-- the corners, and the charges, by the step
pub corners : List Case
corners =
    -- the time wraps nowhere else
    record { start = at 2147483647; steps = ticks 0 ∷ shows time (2147483648 ∷ []) ∷ [] }
    -- charge and rotation come before the timeouts
    ∷ from0
    (task (SysTsliceTicks 6 1) ok 0 ∷ task (TaskCreate 3 6 1) ok 3 ∷ task (TaskSleep 1) pending 0 ∷ task (TaskCreate 1 6 1) ok 1 ∷ task (TaskCreate 2 6 1) ok 1
    ∷ ticks 2 ∷ shows (order 6) (2 ∷ 1 ∷ 3 ∷ []) ∷ [])
    -- a waiter that is activated once more and terminated is runnable at once, with code 0
    ∷ from0
    (task (SemCreate 1 0 1) ok 0 ∷ task (TaskCreate 1 5 1) ok 1 ∷ task (TaskCreate 2 6 1) ok 1 ∷ task (SemAcquire 1 9) pending 2 ∷ task (TaskActivate 1) ok 2
    ∷ task (TaskTerminate 1) ok 1 ∷ wait_code 1 ok ∷ shows (queue 1) [] ∷ [])
    -- a task that exits with an activation count is last in the level of its creation
    ∷ from0
    (task (TaskCreate 1 5 1) ok 1 ∷ task (TaskCreate 2 5 1) ok 1 ∷ task (TaskActivate 1) ok 1 ∷ task (TaskChangePriority 1 3) ok 1 ∷ task TaskExit ok 2
    ∷ shows (order 5) (2 ∷ 1 ∷ []) ∷ shows (priority 1) (5 ∷ []) ∷ [])
    -- start-up code polls
    ∷ from0 (task (SemCreate 1 1 1) ok 0 ∷ task (SemPolling 1) ok 0 ∷ [])
    -- a suspended first waiter is served, the next is not; a wakeup that was counted stays, and nothing is handed over
    ∷ from0
    (task (SemCreate 1 0 1) ok 0 ∷ task (TaskCreate 1 5 1) ok 1 ∷ task (SemAcquire 1 9) pending 0 ∷ task (TaskCreate 2 5 1) ok 2 ∷ task (SemAcquire 1 9) pending 0
    ∷ task (TaskSuspend 1) ok 0 ∷ task (TaskWakeup 1) ok 0 ∷ task (SemSignal 1) ok 0 ∷ wait_code 1 ok ∷ shows (suspended 1) (1 ∷ []) ∷ shows (wakeups 1) (1 ∷ []) ∷ shows (handed 1) (0 ∷ [])
    ∷ shows (queue 1) (2 ∷ []) ∷ [])
    -- a preempted task keeps its place
    ∷ from0
    (task (TaskCreate 1 6 1) ok 1 ∷ task (TaskCreate 2 6 1) ok 1 ∷ task (TaskCreate 3 2 1) ok 3 ∷ shows (order 6) (1 ∷ 2 ∷ []) ∷ task TaskExit ok 1 ∷ [])
    -- a task with another priority goes last in its new level
    ∷ from0
    (task (TaskCreate 1 5 1) ok 1 ∷ task (TaskCreate 2 6 1) ok 1 ∷ task (TaskChangePriority 2 5) ok 1 ∷ shows (order 5) (1 ∷ 2 ∷ []) ∷ [])
    -- a release that wakes a waiter leaves the count
    ∷ from0
    (task (SemCreate 1 0 2) ok 0 ∷ task (TaskCreate 1 5 1) ok 1 ∷ task (SemAcquire 1 9) pending 0 ∷ task (SemSignal 1) ok 1 ∷ shows (counted 1) (0 ∷ []) ∷ [])
    -- the charges. Who runs as the tick comes is charged, not who runs after its timeouts
    ∷ from0
    (task (SysTsliceTicks 6 3) ok 0 ∷ task (SysTsliceTicks 5 3) ok 0 ∷ task (TaskCreate 1 5 1) ok 1 ∷ task (TaskSleep 1) pending 0 ∷ task (TaskCreate 2 6 1) ok 2
    ∷ ticks 1 ∷ shows (charge 2) (1 ∷ []) ∷ shows (charge 1) (0 ∷ []) ∷ [])
    -- 13, as request P3 has it: the charge is the task's own, so who comes next has its whole slice
    ∷ from0
    (task (SysTsliceTicks 6 3) ok 0 ∷ task (TaskCreate 1 6 1) ok 1 ∷ task (TaskCreate 2 6 1) ok 1 ∷ task (TaskCreate 3 6 1) ok 1 ∷ ticks 1 ∷ ticks 1
    ∷ task (TaskSleep 100) pending 2 ∷ ticks 2 ∷ ticks 2 ∷ ticks 3 ∷ shows (order 6) (3 ∷ 2 ∷ []) ∷ [])
    -- a level that was empty for a while keeps nothing of it
    ∷ from0
    (task (SysTsliceTicks 6 3) ok 0 ∷ task (TaskCreate 1 6 1) ok 1 ∷ ticks 1 ∷ ticks 1 ∷ task (TaskSleep 9) pending 0 ∷ task (TaskCreate 2 6 1) ok 2 ∷ task (TaskCreate 3 6 1) ok 2
    ∷ ticks 2 ∷ ticks 2 ∷ ticks 3 ∷ [])
    -- who sleeps in the middle of its slice comes back with none of it used
    ∷ from0
    (task (SysTsliceTicks 6 3) ok 0 ∷ task (TaskCreate 1 6 1) ok 1 ∷ task (TaskCreate 2 6 1) ok 1 ∷ ticks 1 ∷ ticks 1 ∷ shows (charge 1) (2 ∷ []) ∷ task (TaskSleep 1) pending 2 ∷ shows (charge 1) (0 ∷ [])
    ∷ ticks 2 ∷ shows (order 6) (2 ∷ 1 ∷ []) ∷ shows (charge 2) (1 ∷ []) ∷ shows (charge 1) (0 ∷ []) ∷ ticks 2 ∷ ticks 1 ∷ shows (charge 2) (0 ∷ []) ∷ ticks 1 ∷ ticks 1 ∷ ticks 2 ∷ [])
    -- a preempted first keeps its charge
    ∷ from0
    (task (SysTsliceTicks 6 3) ok 0 ∷ task (TaskCreate 1 6 1) ok 1 ∷ task (TaskCreate 2 6 1) ok 1 ∷ ticks 1 ∷ ticks 1 ∷ task (TaskCreate 3 2 1) ok 3 ∷ shows (charge 1) (2 ∷ [])
    ∷ ticks 3 ∷ shows (charge 1) (2 ∷ []) ∷ shows (charge 3) (0 ∷ []) ∷ task TaskExit ok 1 ∷ shows (charge 1) (2 ∷ []) ∷ ticks 2 ∷ shows (charge 1) (0 ∷ []) ∷ shows (order 6) (2 ∷ 1 ∷ []) ∷ [])
    -- a slice set in the middle begins anew, and leaves the other levels
    ∷ from0
    (task (SysTsliceTicks 6 3) ok 0 ∷ task (TaskCreate 1 6 1) ok 1 ∷ task (TaskCreate 2 6 1) ok 1 ∷ ticks 1 ∷ ticks 1 ∷ task (SysTsliceTicks 7 1) ok 1 ∷ shows (charge 1) (2 ∷ []) ∷ task (SysTsliceTicks 6 2) ok 1 ∷ shows (charge 1) (0 ∷ [])
    ∷ ticks 1 ∷ shows (charge 1) (1 ∷ []) ∷ ticks 2 ∷ [])
    -- a priority changed in the middle: an equal one changes nothing, another clears the charge, and back again it is still cleared
    ∷ from0
    (task (SysTsliceTicks 6 3) ok 0 ∷ task (SysTsliceTicks 7 3) ok 0 ∷ task (TaskCreate 1 6 1) ok 1 ∷ task (TaskCreate 2 7 1) ok 1 ∷ ticks 1 ∷ ticks 1 ∷ task (TaskChangePriority 1 6) ok 1 ∷ task (TaskChangePriority 1 0) ok 1 ∷ shows (charge 1) (2 ∷ [])
    ∷ task (TaskChangePriority 1 7) ok 2 ∷ shows (charge 1) (0 ∷ []) ∷ ticks 2 ∷ shows (charge 2) (1 ∷ []) ∷ task (TaskChangePriority 1 6) ok 1 ∷ shows (charge 1) (0 ∷ []) ∷ shows (charge 2) (1 ∷ []) ∷ [])
    -- the charge of a single task returns to 0 at the slice, and a newcomer sees what is left of it
    ∷ from0
    (task (SysTsliceTicks 6 2) ok 0 ∷ task (TaskCreate 1 6 1) ok 1 ∷ ticks 1 ∷ shows (charge 1) (1 ∷ []) ∷ ticks 1 ∷ shows (charge 1) (0 ∷ []) ∷ ticks 1 ∷ shows (charge 1) (1 ∷ [])
    ∷ task (TaskCreate 2 6 1) ok 1 ∷ ticks 2 ∷ [])
    -- counted activations and wakeups leave the charge; an exit that uses one up clears it
    ∷ from0
    (task (SysTsliceTicks 6 3) ok 0 ∷ task (TaskCreate 1 6 1) ok 1 ∷ ticks 1 ∷ ticks 1 ∷ task (TaskWakeup 1) ok 1 ∷ task (TaskActivate 1) ok 1 ∷ shows (charge 1) (2 ∷ []) ∷ task TaskExit ok 1 ∷ shows (charge 1) (0 ∷ []) ∷ [])
    -- suspended and resumed, or terminated and restarted, by another: the charge is gone
    ∷ from0
    (task (SysTsliceTicks 6 3) ok 0 ∷ task (TaskCreate 1 6 1) ok 1 ∷ ticks 1 ∷ task (TaskCreate 2 2 1) ok 2 ∷ task (TaskSuspend 1) ok 2 ∷ shows (charge 1) (0 ∷ []) ∷ task (TaskResume 1) ok 2 ∷ shows (charge 1) (0 ∷ [])
    ∷ task (TaskSleep 2) pending 1 ∷ ticks 1 ∷ shows (charge 1) (1 ∷ []) ∷ ticks 2 ∷ shows (charge 1) (2 ∷ []) ∷ task (TaskActivate 1) ok 2 ∷ task (TaskTerminate 1) ok 2 ∷ shows (charge 1) (0 ∷ []) ∷ shows (order 6) (1 ∷ []) ∷ [])
    ∷ []

pub bench : So (all_hold_checked cases)
unfolding opened cases at
bench = tt

pub corners_hold : So (all_hold corners)
unfolding opened corners at
corners_hold = tt
