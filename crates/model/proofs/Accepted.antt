-- The bench table of what the accepted services of tasks and semaphores do, where 01's own cases do not show it, worked out by hand from document 01.
-- Most rows begin where nobody runs, as all services but four work there; an interrupt form does the same as its task form (Forms).
use mathlib.Core.List.{List, [], ◌∷◌}
use lib.Dec.{T as So}
use Rattle.model.specs.declared.Call.TheVariants.{TaskCreate, TaskDelete, TaskActivate, TaskExit, TaskTerminate, TaskSuspend, TaskResume, TaskSleep, TaskWakeup, TaskReleaseWait, TaskChangePriority, SysTsliceTicks, SemCreate, SemDelete, SemSignal, SemAcquire, SemPolling}
use Rattle.model.specs.Code.{minus}
use Rattle.model.specs.Bench.{suspended, priority, remaining, wakeups, handed, charge, order, queue, counted, shows, wait_code, refuses, Case, all_hold}
use Rattle.model.proofs.Words.{ok, pending, task, ticks, in_t, each, from0, opened}

pub table : List Case
table =
    -- create, activate, exit, delete: a deleted task may be created with another priority; an activation of an active task is used up at its exit;
    -- the last task's ticks run too
    from0
    (task (TaskCreate 24 30 0) ok 0 ∷ task (TaskDelete 24) ok 0 ∷ task (TaskCreate 24 1 0) ok 0 ∷ task (TaskActivate 24) ok 24 ∷ shows (order 1) (24 ∷ []) ∷ task (TaskSleep 1) pending 0
    ∷ ticks 24 ∷ task (TaskActivate 24) ok 24 ∷ task TaskExit ok 24 ∷ task TaskExit ok 0 ∷ task (TaskDelete 24) ok 0 ∷ refuses (each (minus 9) (in_t (TaskActivate 24) ∷ []) ∷ []) ∷ [])
    -- activate, change_priority: a suspended task stays suspended. terminate: suspension, wakeup count and wait code are lost and the creation
    -- priority is back; a used activation count leaves none, and without one the task stays dormant
    ∷ from0
    (task (TaskCreate 1 5 1) ok 1 ∷ task (TaskSleep 9) pending 0 ∷ task (TaskReleaseWait 1) ok 1 ∷ wait_code 1 (minus 11) ∷ task (TaskWakeup 1) ok 1 ∷ task (TaskSuspend 1) ok 0
    ∷ task (TaskActivate 1) ok 0 ∷ task (TaskChangePriority 1 3) ok 0 ∷ shows (suspended 1) (1 ∷ []) ∷ shows (priority 1) (3 ∷ []) ∷ task (TaskTerminate 1) ok 1 ∷ shows (wakeups 1) (0 ∷ []) ∷ shows (suspended 1) (0 ∷ []) ∷ wait_code 1 ok
    ∷ shows (order 3) [] ∷ shows (order 5) (1 ∷ []) ∷ task (TaskCreate 2 4 1) ok 2 ∷ task (TaskTerminate 1) ok 2 ∷ shows (order 5) [] ∷ task (TaskDelete 1) ok 2 ∷ [])
    -- suspend, resume: a waiter stays in its queue, its ticks run, and resumed it waits on; a task may suspend itself, and resumed it is last
    ∷ from0
    (task (SemCreate 12 0 1) ok 0 ∷ task (TaskCreate 1 5 1) ok 1 ∷ task (SemAcquire 12 9) pending 0 ∷ task (TaskSuspend 1) ok 0 ∷ ticks 0 ∷ task (TaskResume 1) ok 0 ∷ shows (suspended 1) (0 ∷ [])
    ∷ shows (queue 12) (1 ∷ []) ∷ shows (remaining 1) (8 ∷ []) ∷ task (TaskCreate 2 5 1) ok 2 ∷ task (TaskCreate 3 5 1) ok 2 ∷ task (TaskSuspend 2) ok 3 ∷ task (TaskResume 2) ok 3
    ∷ shows (order 5) (3 ∷ 2 ∷ []) ∷ [])
    -- sleep, wakeup, release_wait: a sleep that is woken ends, and suspension stays; the wakeup of any other waiter is counted and it waits on; a
    -- release leaves that count and suspension; a counted wakeup is used up by a sleep, which then leaves the wait code. It is 0 when a wait begins
    ∷ from0
    (task (SemCreate 1 0 1) ok 0 ∷ task (TaskCreate 1 5 1) ok 1 ∷ task (TaskSleep 9) pending 0 ∷ shows (remaining 1) (9 ∷ []) ∷ task (TaskSuspend 1) ok 0 ∷ task (TaskWakeup 1) ok 0
    ∷ shows (suspended 1) (1 ∷ []) ∷ shows (remaining 1) (0 ∷ []) ∷ shows (wakeups 1) (0 ∷ []) ∷ shows (handed 1) (0 ∷ []) ∷ wait_code 1 ok ∷ task (TaskResume 1) ok 1 ∷ task (SemAcquire 1 9) pending 0 ∷ task (TaskWakeup 1) ok 0
    ∷ shows (queue 1) (1 ∷ []) ∷ shows (wakeups 1) (1 ∷ []) ∷ task (TaskSuspend 1) ok 0 ∷ task (TaskReleaseWait 1) ok 0 ∷ shows (queue 1) [] ∷ shows (suspended 1) (1 ∷ [])
    ∷ shows (wakeups 1) (1 ∷ []) ∷ shows (handed 1) (0 ∷ []) ∷ wait_code 1 (minus 11) ∷ task (TaskResume 1) ok 1 ∷ task (TaskSleep 1) ok 1 ∷ shows (wakeups 1) (0 ∷ []) ∷ wait_code 1 (minus 11)
    ∷ task (SemAcquire 1 9) pending 0 ∷ wait_code 1 ok ∷ task (TaskReleaseWait 1) ok 1 ∷ wait_code 1 (minus 11) ∷ task (TaskSleep 1) pending 0 ∷ wait_code 1 ok ∷ [])
    -- change_priority: an equal priority keeps the place, 0 too where it means that one; another goes last in its level, 0 in the level of creation.
    -- exit: with an activation counted the task is last in its level, the same one too
    ∷ from0
    (task (TaskCreate 1 5 1) ok 1 ∷ task (TaskCreate 2 5 1) ok 1 ∷ task (TaskChangePriority 1 5) ok 1 ∷ task (TaskChangePriority 1 0) ok 1 ∷ shows (order 5) (1 ∷ 2 ∷ [])
    ∷ task (TaskChangePriority 1 30) ok 2 ∷ shows (order 30) (1 ∷ []) ∷ task (TaskChangePriority 1 0) ok 2 ∷ shows (order 5) (2 ∷ 1 ∷ [])
    ∷ task (TaskActivate 2) ok 2 ∷ task TaskExit ok 1 ∷ shows (order 5) (1 ∷ 2 ∷ []) ∷ [])
    -- a waiter with another priority keeps its place; a deletion ends all waits, and suspension stays; a deleted semaphore may be created again
    ∷ from0
    (task (SemCreate 1 0 1) ok 0 ∷ task (TaskCreate 1 5 1) ok 1 ∷ task (SemAcquire 1 9) pending 0 ∷ task (TaskCreate 2 6 1) ok 2 ∷ task (SemAcquire 1 9) pending 0
    ∷ task (TaskChangePriority 2 4) ok 0 ∷ shows (queue 1) (1 ∷ 2 ∷ []) ∷ shows (priority 2) (4 ∷ []) ∷ task (TaskSuspend 1) ok 0 ∷ task (SemDelete 1) ok 2
    ∷ wait_code 1 (minus 10) ∷ wait_code 2 (minus 10) ∷ shows (suspended 1) (1 ∷ []) ∷ shows (handed 1) (0 ∷ []) ∷ shows (order 4) (2 ∷ []) ∷ task (SemCreate 1 1 1) ok 2 ∷ shows (counted 1) (1 ∷ []) ∷ [])
    -- tslice_ticks: the charge is cleared, by the same slice too; with slice 0 nothing is charged. The level is the current one
    ∷ from0
    (task (SysTsliceTicks 30 1000) ok 0 ∷ task (TaskCreate 1 29 1) ok 1 ∷ task (TaskChangePriority 1 30) ok 1 ∷ ticks 1 ∷ shows (charge 1) (1 ∷ []) ∷ task (SysTsliceTicks 30 1000) ok 1 ∷ shows (charge 1) (0 ∷ [])
    ∷ ticks 1 ∷ shows (charge 1) (1 ∷ []) ∷ task (SysTsliceTicks 30 0) ok 1 ∷ ticks 1 ∷ shows (charge 1) (0 ∷ []) ∷ [])
    -- signal, polling, acquire: the count goes by one, without a wait where it is above 0; the maximum stays
    ∷ from0
    (task (SemCreate 12 2 3) ok 0 ∷ task (TaskCreate 1 5 1) ok 1 ∷ task (SemAcquire 12 4294967295) ok 1 ∷ shows (counted 12) (1 ∷ []) ∷ task (SemAcquire 12 1) ok 1 ∷ shows (counted 12) (0 ∷ [])
    ∷ task (SemSignal 12) ok 1 ∷ task (SemSignal 12) ok 1 ∷ shows (counted 12) (2 ∷ []) ∷ task (SemPolling 12) ok 1 ∷ shows (counted 12) (1 ∷ []) ∷ task (SemSignal 12) ok 1
    ∷ task (SemSignal 12) ok 1 ∷ shows (counted 12) (3 ∷ []) ∷ refuses (each (minus 1) (in_t (SemSignal 12) ∷ []) ∷ []) ∷ [])
    ∷ []

pub accepted : So (all_hold table)
unfolding opened table
accepted = tt
