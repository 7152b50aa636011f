-- The bench table of entries: each way of entering a level marks the time, nothing else does, and `ready_ticks` gives the ticks since.
-- The rows begin at times of their own, so that a mark that was not set is seen; each is worked out by hand from request P10.
use mathlib.Core.List.{List, [], ◌∷◌}
use Prim.Native.Nat.{ℕ}
use lib.Dec.{T as So}
use Rattle.model.specs.declared.Call.TheVariants.{TaskCreate, TaskDelete, TaskActivate, TaskExit, TaskTerminate, TaskSuspend, TaskResume, TaskSleep, TaskWakeup, TaskReleaseWait, TaskChangePriority, SysTsliceTicks, SemCreate, SemDelete, SemSignal, SemAcquire, OnFlag, ReadyTicks}
use Rattle.model.specs.declared.FlagService.TheVariants.{Create, Set, Wait}
use Rattle.model.specs.Task.{dormant, activated}
use Rattle.model.specs.State.{fresh, moved, with_time}
use Rattle.model.specs.Code.{minus}
use Rattle.model.specs.Bench.{Step, time, wakeups, charge, entered, order, shows, refuses, Case, all_hold}
use Rattle.model.proofs.Words.{ok, pending, task, ticks, task_gets, in_t, each, opened}

from : ℕ → List Step → Case
from n steps = record { start = with_time n fresh; steps = steps }

-- task t entered its level at time n
abbrev since : ℕ → ℕ → Step
since t n = shows (entered t) (n ∷ [])

-- the ticks since, as they are asked for while `run` runs
abbrev asked : ℕ → ℕ → ℕ → Step
asked t run n = task_gets (ReadyTicks t) ok run n

pub table : List Case
table =
    -- created with option 1: now; with option 0: 0, and nothing is answered; activated: now. A counted activation is no entry, nor is a counted wakeup
    from 100
    (task (TaskCreate 1 5 1) ok 1 ∷ since 1 100 ∷ asked 1 1 0 ∷ task (TaskCreate 2 6 0) ok 1 ∷ since 2 0 ∷ refuses (each (minus 2) (in_t (ReadyTicks 2) ∷ []) ∷ [])
    ∷ ticks 1 ∷ task (TaskActivate 2) ok 1 ∷ since 2 101 ∷ ticks 1 ∷ task (TaskActivate 1) ok 1 ∷ task (TaskWakeup 1) ok 1 ∷ since 1 100 ∷ asked 1 1 2 ∷ asked 2 1 1 ∷ shows (wakeups 1) (1 ∷ []) ∷ [])
    -- exit: an activation count that is used up is an entry, alone in the level too; without one the mark is 0, as after termination, deletion and
    -- creation once more
    ∷ from 200
    (task (TaskCreate 1 5 1) ok 1 ∷ task (TaskActivate 1) ok 1 ∷ ticks 1 ∷ task TaskExit ok 1 ∷ since 1 201 ∷ ticks 1 ∷ asked 1 1 1 ∷ task TaskExit ok 0 ∷ since 1 0
    ∷ task (TaskDelete 1) ok 0 ∷ since 1 0 ∷ task (TaskCreate 1 5 0) ok 0 ∷ since 1 0 ∷ task (TaskCreate 2 5 1) ok 2 ∷ task (TaskCreate 3 5 1) ok 2 ∷ task (TaskActivate 3) ok 2 ∷ ticks 2
    ∷ task (TaskTerminate 3) ok 2 ∷ since 3 203 ∷ task (TaskTerminate 3) ok 2 ∷ since 3 0 ∷ since 2 202 ∷ [])
    -- suspend: leaving keeps the mark, and the ticks are counted on; resume: now. A first that another preempts enters nothing
    ∷ from 300
    (task (TaskCreate 1 5 1) ok 1 ∷ ticks 1 ∷ task (TaskSuspend 1) ok 0 ∷ since 1 300 ∷ ticks 0 ∷ asked 1 0 2 ∷ task (TaskResume 1) ok 1 ∷ since 1 302 ∷ ticks 1 ∷ task (TaskCreate 2 4 1) ok 2
    ∷ task TaskExit ok 1 ∷ since 1 302 ∷ asked 1 1 1 ∷ [])
    -- the end of a wait, in a tick with the new time: a sleep that runs out, and a wait on a semaphore that does. While it waits the ticks count on
    ∷ from 400
    (task (SemCreate 1 0 1) ok 0 ∷ task (TaskCreate 1 5 1) ok 1 ∷ task (TaskSleep 2) pending 0 ∷ ticks 0 ∷ since 1 400 ∷ asked 1 0 1 ∷ ticks 1 ∷ since 1 402 ∷ asked 1 1 0
    ∷ task (SemAcquire 1 1) pending 0 ∷ ticks 1 ∷ since 1 403 ∷ [])
    -- by wakeup, by a release of the semaphore, by a forced release, by its deletion, by a flag's bits
    ∷ from 500
    (task (SemCreate 1 0 1) ok 0 ∷ task (OnFlag 1 (Create 0 0)) ok 0 ∷ task (TaskCreate 1 5 1) ok 1 ∷ task (TaskSleep 9) pending 0 ∷ ticks 0 ∷ task (TaskWakeup 1) ok 1 ∷ since 1 501
    ∷ task (SemAcquire 1 9) pending 0 ∷ ticks 0 ∷ task (SemSignal 1) ok 1 ∷ since 1 502 ∷ task (SemAcquire 1 9) pending 0 ∷ ticks 0 ∷ task (TaskReleaseWait 1) ok 1 ∷ since 1 503
    ∷ task (SemAcquire 1 9) pending 0 ∷ ticks 0 ∷ task (SemDelete 1) ok 1 ∷ since 1 504 ∷ task (OnFlag 1 (Wait 1 0 9)) pending 0 ∷ ticks 0 ∷ task (OnFlag 1 (Set 1)) ok 1 ∷ since 1 505 ∷ [])
    -- a wait that ends while its task is suspended is no entry; the resume is
    ∷ from 600
    (task (TaskCreate 1 5 1) ok 1 ∷ task (TaskSleep 1) pending 0 ∷ task (TaskSuspend 1) ok 0 ∷ ticks 0 ∷ since 1 600 ∷ ticks 0 ∷ task (TaskResume 1) ok 1 ∷ since 1 602 ∷ [])
    -- a rotation marks only the one that it moves, with the new time; at the slice of a single task nobody moves
    ∷ from 700
    (task (SysTsliceTicks 6 2) ok 0 ∷ task (TaskCreate 1 6 1) ok 1 ∷ ticks 1 ∷ ticks 1 ∷ shows (charge 1) (0 ∷ []) ∷ since 1 700 ∷ task (TaskCreate 2 6 1) ok 1 ∷ task (TaskCreate 3 6 1) ok 1 ∷ ticks 1 ∷ ticks 2
    ∷ shows (order 6) (2 ∷ 3 ∷ 1 ∷ []) ∷ since 1 704 ∷ since 2 702 ∷ since 3 702 ∷ asked 2 2 2 ∷ ticks 2 ∷ ticks 3 ∷ since 2 706 ∷ since 1 704 ∷ since 3 702 ∷ [])
    -- a slice that is set clears the charge of the first, and leaves its mark
    ∷ from 750
    (task (SysTsliceTicks 6 3) ok 0 ∷ task (TaskCreate 1 6 1) ok 1 ∷ ticks 1 ∷ task (SysTsliceTicks 6 2) ok 1 ∷ shows (charge 1) (0 ∷ []) ∷ since 1 750 ∷ [])
    -- a priority: one equal to the present one, by 0 too, marks nothing; another does; so does the way back. Who waits or is suspended enters nothing
    ∷ from 800
    (task (TaskCreate 1 5 1) ok 1 ∷ ticks 1 ∷ task (TaskChangePriority 1 5) ok 1 ∷ task (TaskChangePriority 1 0) ok 1 ∷ since 1 800 ∷ task (TaskChangePriority 1 7) ok 1 ∷ since 1 801 ∷ ticks 1
    ∷ task (TaskChangePriority 1 0) ok 1 ∷ since 1 802 ∷ ticks 1 ∷ task (TaskSuspend 1) ok 0 ∷ task (TaskChangePriority 1 9) ok 0 ∷ since 1 802 ∷ asked 1 0 1 ∷ [])
    -- the time wraps between entry and question
    ∷ from 4294967294
    (task (TaskCreate 1 5 1) ok 1 ∷ since 1 4294967294 ∷ ticks 1 ∷ asked 1 1 1 ∷ ticks 1 ∷ shows time (0 ∷ []) ∷ asked 1 1 2 ∷ ticks 1 ∷ asked 1 1 3 ∷ since 1 4294967294
    ∷ task (TaskSleep 1) pending 0 ∷ ticks 1 ∷ since 1 2 ∷ asked 1 1 0 ∷ [])
    -- and the answer has all 32 bits
    ∷ record { start = with_time 4294967290 (moved 1 (activated (dormant 5)) (with_time 5 fresh)); steps = asked 1 1 4294967285 ∷ [] }
    ∷ []

pub entries : So (all_hold table)
unfolding opened table from
entries = tt
