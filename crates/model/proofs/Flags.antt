-- The bench table of event flags: vectors of corner cases, worked out by hand, as rows that are computed over the definitions.
-- A damaged definition is refused here, as 01's own cases are in Table.
use mathlib.Core.List.{List, [], ◌∷◌}
use lib.Dec.{T as So}
use Rattle.model.specs.declared.Call.TheVariants.{TaskCreate, TaskSuspend, TaskResume, TaskSleep, TaskWakeup, TaskIwakeup, TaskReleaseWait, OnFlag}
use Rattle.model.specs.declared.FlagService.TheVariants.{Create, Delete, Set, Iset, Clear, Iclear, Wait, WaitPolling, Iwait}
use Rattle.model.specs.Code.{minus}
use Rattle.model.specs.Bench.{wait_code, suspended, handed, pattern, order, flag_queue, bits, shows, refuses, Case, all_hold}
use Rattle.model.proofs.Words.{ok, pending, task, int, ticks, task_gets, int_gets, in_t, each, from0, opened}

pub table : List Case
table =
    -- SINGLE and CLR: a set that meets nobody keeps its bits; a second wait is refused, met or not; the bits are handed over as set
    from0
    (task (OnFlag 1 (Create 3 0)) ok 0 ∷ task (TaskCreate 1 5 1) ok 1 ∷ task (OnFlag 1 (Wait 6 1 9)) pending 0 ∷ int (OnFlag 1 (Iset 2)) ok 0 ∷ shows (bits 1) (2 ∷ [])
    ∷ int (OnFlag 1 (Iwait 2 0)) (minus 8) 0 ∷ task (OnFlag 1 (WaitPolling 4 0)) (minus 8) 0 ∷ task (TaskCreate 2 6 1) ok 2 ∷ task (OnFlag 1 (Wait 4 0 9)) (minus 8) 2
    ∷ task (OnFlag 1 (Set 13)) ok 1 ∷ shows (handed 1) (15 ∷ []) ∷ shows (bits 1) (0 ∷ []) ∷ shows (pattern 1) (0 ∷ []) ∷ shows (flag_queue 1) [] ∷ [])
    -- a set serves waiters in queue order; it meets two and not the third, and without SINGLE that one keeps nobody from a poll
    ∷ from0
    (task (OnFlag 2 (Create 0 0)) ok 0 ∷ task (TaskCreate 3 5 1) ok 3 ∷ task (OnFlag 2 (Wait 1 0 9)) pending 0 ∷ task (TaskCreate 2 5 1) ok 2 ∷ task (OnFlag 2 (Wait 4 0 9)) pending 0
    ∷ task (TaskCreate 1 5 1) ok 1 ∷ task (OnFlag 2 (Wait 3 1 9)) pending 0 ∷ shows (flag_queue 2) (3 ∷ 2 ∷ 1 ∷ []) ∷ int (OnFlag 2 (Iset 3)) ok 3 ∷ shows (order 5) (3 ∷ 1 ∷ [])
    ∷ shows (flag_queue 2) (2 ∷ []) ∷ shows (handed 3) (3 ∷ []) ∷ shows (handed 1) (3 ∷ []) ∷ shows (handed 2) (0 ∷ []) ∷ shows (bits 2) (3 ∷ [])
    ∷ task_gets (OnFlag 2 (WaitPolling 1 0)) ok 3 3 ∷ [])
    -- a poll that is met has the bits in its answer, and CLR zeroes them; without CLR they stay
    ∷ from0
    (task (OnFlag 1 (Create 3 6)) ok 0 ∷ task_gets (OnFlag 1 (WaitPolling 2 0)) ok 0 6 ∷ shows (bits 1) (0 ∷ []) ∷ task (OnFlag 1 (WaitPolling 2 0)) (minus 4) 0
    ∷ task (OnFlag 8 (Create 1 6)) ok 0 ∷ int_gets (OnFlag 8 (Iwait 6 1)) ok 0 6 ∷ shows (bits 8) (6 ∷ []) ∷ int (OnFlag 8 (Iwait 7 1)) (minus 4) 0 ∷ [])
    -- so has a wait that is met at once, and its record is left
    ∷ from0
    (task (OnFlag 1 (Create 3 5)) ok 0 ∷ task (TaskCreate 1 5 1) ok 1 ∷ task_gets (OnFlag 1 (Wait 4 0 1)) ok 1 5 ∷ shows (handed 1) (0 ∷ []) ∷ shows (bits 1) (0 ∷ []) ∷ [])
    -- one bit is enough for OR, in a poll, a set and a wait; SINGLE and CLR stay through all of them and through a clear; what
    -- was handed over stays until the next wait begins
    ∷ from0
    (task (OnFlag 8 (Create 3 6)) ok 0 ∷ task (OnFlag 8 (Clear 2)) ok 0 ∷ task_gets (OnFlag 8 (WaitPolling 5 0)) ok 0 4 ∷ shows (bits 8) (0 ∷ []) ∷ task (TaskCreate 1 5 1) ok 1
    ∷ task (OnFlag 8 (Wait 6 0 9)) pending 0 ∷ shows (flag_queue 8) (1 ∷ []) ∷ refuses (each (minus 8) (in_t (OnFlag 8 (WaitPolling 6 0)) ∷ []) ∷ []) ∷ task (OnFlag 8 (Set 2)) ok 1
    ∷ shows (handed 1) (2 ∷ []) ∷ shows (bits 8) (0 ∷ []) ∷ task (OnFlag 8 (Set 2)) ok 1 ∷ shows (bits 8) (2 ∷ []) ∷ task_gets (OnFlag 8 (Wait 3 0 1)) ok 1 2 ∷ shows (bits 8) (0 ∷ [])
    ∷ shows (handed 1) (2 ∷ []) ∷ task (OnFlag 8 (Wait 3 0 1)) pending 0 ∷ shows (handed 1) (0 ∷ []) ∷ [])
    -- a flag waiter times out
    ∷ from0
    (task (OnFlag 1 (Create 0 0)) ok 0 ∷ task (TaskCreate 1 5 1) ok 1 ∷ task (OnFlag 1 (Wait 1 0 1)) pending 0 ∷ shows (pattern 1) (1 ∷ [])
    ∷ ticks 1 ∷ wait_code 1 (minus 4) ∷ shows (handed 1) (0 ∷ []) ∷ shows (pattern 1) (0 ∷ []) ∷ shows (flag_queue 1) [] ∷ [])
    -- queue 3 then 1, equal priority, the flag deleted: in queue order; then it is no flag
    ∷ from0
    (task (OnFlag 1 (Create 0 0)) ok 0 ∷ task (TaskCreate 3 5 1) ok 3 ∷ task (OnFlag 1 (Wait 1 0 9)) pending 0 ∷ task (TaskCreate 1 5 1) ok 1 ∷ task (OnFlag 1 (Wait 1 0 9)) pending 0
    ∷ task (OnFlag 1 Delete) ok 3 ∷ wait_code 3 (minus 10) ∷ wait_code 1 (minus 10) ∷ shows (handed 3) (0 ∷ []) ∷ shows (order 5) (3 ∷ 1 ∷ []) ∷ task (OnFlag 1 (Set 1)) (minus 9) 3 ∷ [])
    -- a clear takes its bits out, and wakes nobody
    ∷ from0
    (task (OnFlag 1 (Create 0 7)) ok 0 ∷ task (OnFlag 1 (Clear 2)) ok 0 ∷ shows (bits 1) (5 ∷ []) ∷ int (OnFlag 1 (Iclear 12)) ok 0 ∷ shows (bits 1) (1 ∷ [])
    ∷ task (TaskCreate 1 5 1) ok 1 ∷ task (OnFlag 1 (Wait 5 1 9)) pending 0 ∷ task (OnFlag 1 (Clear 1)) ok 0 ∷ shows (flag_queue 1) (1 ∷ []) ∷ task (OnFlag 1 (Set 5)) ok 1 ∷ [])
    -- a flag wait is suspended, woken and released as any wait; a sleep has nothing handed over
    ∷ from0
    (task (OnFlag 1 (Create 0 0)) ok 0 ∷ task (TaskCreate 1 5 1) ok 1 ∷ task (OnFlag 1 (Wait 1 0 9)) pending 0 ∷ task (TaskSuspend 1) ok 0 ∷ int (TaskIwakeup 1) ok 0 ∷ int (OnFlag 1 (Iset 3)) ok 0
    ∷ shows (handed 1) (3 ∷ []) ∷ shows (suspended 1) (1 ∷ []) ∷ task (TaskResume 1) ok 1 ∷ task (TaskSleep 9) ok 1 ∷ shows (handed 1) (3 ∷ []) ∷ task (TaskSleep 9) pending 0
    ∷ shows (handed 1) (0 ∷ []) ∷ task (TaskWakeup 1) ok 1 ∷ task (OnFlag 1 (Wait 4 0 9)) pending 0 ∷ task (TaskReleaseWait 1) ok 1 ∷ wait_code 1 (minus 11) ∷ shows (flag_queue 1) [] ∷ [])
    ∷ []

pub flags : So (all_hold table)
unfolding opened table
flags = tt
