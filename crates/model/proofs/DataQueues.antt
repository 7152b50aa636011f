-- The bench table of data queues: vectors of corner cases, worked out by hand, as rows that are computed over the definitions.
-- A damaged definition is refused here, as 01's own cases are in Table; an interrupt form does the same as its task form (Forms).
use mathlib.Core.List.{List, [], ◌∷◌}
use Prim.Native.Nat.{ℕ}
use lib.Dec.{T as So}
use Rattle.model.specs.declared.Call.TheVariants.{TaskCreate, TaskActivate, TaskTerminate, TaskSuspend, TaskResume, TaskSleep, TaskWakeup, TaskReleaseWait, TaskChangePriority, OnQueue}
use Rattle.model.specs.declared.QueueService.TheVariants.{Create, Delete, Send, SendPolling, IsendPolling, Receive, ReceivePolling, Ireceive}
use Rattle.model.specs.Code.{minus}
use Rattle.model.specs.Bench.{wait_code, suspended, remaining, wakeups, handed, pattern, order, sides, stored, shows, refuses, Step, Case, all_hold}
use Rattle.model.proofs.Words.{ok, pending, task, int, ticks, task_gets, int_gets, in_t, each, from0, opened}

-- from start-up code, where nobody runs: an element is sent, and one is received
abbrev puts : ℕ → ℕ → Step
puts q e = task (OnQueue q (SendPolling e)) ok 0

abbrev takes : ℕ → ℕ → Step
takes q e = task_gets (OnQueue q ReceivePolling) ok 0 e

pub table : List Case
table =
    -- V12: capacity 0, 1 waits to send 77, and a poll takes it from there; so does ireceive, and a receive of another task, whose record is left
    from0
    (task (OnQueue 1 (Create 0)) ok 0 ∷ task (TaskCreate 1 5 1) ok 1 ∷ task (OnQueue 1 (Send 77 9)) pending 0 ∷ shows (pattern 1) (77 ∷ []) ∷ shows (sides 1) (1 ∷ [])
    ∷ task_gets (OnQueue 1 ReceivePolling) ok 1 77 ∷ wait_code 1 ok ∷ shows (pattern 1) (0 ∷ []) ∷ shows (handed 1) (0 ∷ []) ∷ shows (remaining 1) (0 ∷ []) ∷ shows (sides 1) [] ∷ shows (stored 1) []
    ∷ task (OnQueue 1 (Send 0 9)) pending 0 ∷ int_gets (OnQueue 1 Ireceive) ok 1 0 ∷ task (OnQueue 1 (Send 78 9)) pending 0 ∷ task (TaskCreate 2 6 1) ok 2 ∷ task_gets (OnQueue 1 (Receive 9)) ok 1 78
    ∷ shows (handed 2) (0 ∷ []) ∷ shows (sides 1) [] ∷ task (OnQueue 1 ReceivePolling) (minus 4) 1 ∷ [])
    -- V13: capacity 1, 7 is stored and 1 waits with 8; a receive takes 7, and 8 goes in
    ∷ from0
    (task (OnQueue 1 (Create 1)) ok 0 ∷ task (TaskCreate 1 5 1) ok 1 ∷ task (OnQueue 1 (Send 7 9)) ok 1 ∷ task (OnQueue 1 (Send 8 9)) pending 0 ∷ shows (stored 1) (7 ∷ []) ∷ int_gets (OnQueue 1 Ireceive) ok 1 7
    ∷ shows (stored 1) (8 ∷ []) ∷ shows (sides 1) [] ∷ wait_code 1 ok ∷ shows (pattern 1) (0 ∷ []) ∷ shows (handed 1) (0 ∷ []) ∷ [])
    -- with two stored: the oldest goes, and the sender's goes in behind the other
    ∷ from0
    (task (OnQueue 7 (Create 2)) ok 0 ∷ puts 7 1 ∷ puts 7 2 ∷ task (TaskCreate 1 5 1) ok 1 ∷ task (OnQueue 7 (Send 3 9)) pending 0 ∷ task (TaskCreate 2 5 1) ok 2 ∷ task (OnQueue 7 (Send 4 9)) pending 0
    ∷ task_gets (OnQueue 7 ReceivePolling) ok 1 1 ∷ shows (stored 7) (2 ∷ 3 ∷ []) ∷ shows (sides 7) (2 ∷ []) ∷ task_gets (OnQueue 7 ReceivePolling) ok 1 2 ∷ shows (stored 7) (3 ∷ 4 ∷ []) ∷ shows (sides 7) [] ∷ [])
    -- first in, first out; a queue filled and emptied more than once round; 0 is an element like any other
    ∷ from0
    (task (OnQueue 8 (Create 3)) ok 0 ∷ puts 8 1 ∷ puts 8 2 ∷ takes 8 1 ∷ puts 8 0 ∷ puts 8 3 ∷ shows (stored 8) (2 ∷ 0 ∷ 3 ∷ []) ∷ task (OnQueue 8 (SendPolling 4)) (minus 4) 0 ∷ takes 8 2 ∷ takes 8 0
    ∷ puts 8 5 ∷ puts 8 6 ∷ takes 8 3 ∷ puts 8 4294967295 ∷ shows (stored 8) (5 ∷ 6 ∷ 4294967295 ∷ []) ∷ takes 8 5 ∷ takes 8 6 ∷ takes 8 4294967295 ∷ task (OnQueue 8 ReceivePolling) (minus 4) 0 ∷ puts 8 0 ∷ takes 8 0 ∷ shows (stored 8) [] ∷ [])
    -- capacity 16 is 16, and each queue has its own places
    ∷ from0
    (task (OnQueue 4 (Create 16)) ok 0 ∷ task (OnQueue 3 (Create 1)) ok 0 ∷ task (OnQueue 5 (Create 1)) ok 0 ∷ puts 3 30 ∷ puts 5 50 ∷ puts 4 1 ∷ puts 4 2 ∷ puts 4 3 ∷ puts 4 4 ∷ puts 4 5 ∷ puts 4 6 ∷ puts 4 7 ∷ puts 4 8
    ∷ puts 4 9 ∷ puts 4 10 ∷ puts 4 11 ∷ puts 4 12 ∷ puts 4 13 ∷ puts 4 14 ∷ puts 4 15 ∷ puts 4 16 ∷ task (OnQueue 4 (SendPolling 17)) (minus 4) 0 ∷ takes 4 1
    ∷ shows (stored 4) (2 ∷ 3 ∷ 4 ∷ 5 ∷ 6 ∷ 7 ∷ 8 ∷ 9 ∷ 10 ∷ 11 ∷ 12 ∷ 13 ∷ 14 ∷ 15 ∷ 16 ∷ []) ∷ shows (stored 3) (30 ∷ []) ∷ shows (stored 5) (50 ∷ []) ∷ takes 3 30 ∷ takes 5 50 ∷ [])
    -- three senders and a receive: the first sender's element goes in, and the others wait on; whoever is served is runnable, in the order served
    ∷ from0
    (task (OnQueue 1 (Create 1)) ok 0 ∷ puts 1 10 ∷ task (TaskCreate 3 5 1) ok 3 ∷ task (OnQueue 1 (Send 11 9)) pending 0 ∷ task (TaskCreate 1 5 1) ok 1 ∷ task (OnQueue 1 (Send 12 9)) pending 0 ∷ task (TaskCreate 2 5 1) ok 2
    ∷ task (OnQueue 1 (Send 13 9)) pending 0 ∷ shows (sides 1) (3 ∷ 1 ∷ 2 ∷ []) ∷ task (TaskChangePriority 2 4) ok 0 ∷ task_gets (OnQueue 1 ReceivePolling) ok 3 10 ∷ shows (stored 1) (11 ∷ []) ∷ shows (sides 1) (1 ∷ 2 ∷ [])
    ∷ task_gets (OnQueue 1 (Receive 9)) ok 3 11 ∷ shows (order 5) (3 ∷ 1 ∷ []) ∷ task_gets (OnQueue 1 ReceivePolling) ok 2 12 ∷ task_gets (OnQueue 1 ReceivePolling) ok 2 13 ∷ task (OnQueue 1 ReceivePolling) (minus 4) 2 ∷ [])
    -- a sender in the middle of the queue times out, and its element goes with it
    ∷ from0
    (task (OnQueue 1 (Create 1)) ok 0 ∷ puts 1 10 ∷ task (TaskCreate 1 5 1) ok 1 ∷ task (OnQueue 1 (Send 11 9)) pending 0 ∷ task (TaskCreate 2 5 1) ok 2 ∷ task (OnQueue 1 (Send 12 1)) pending 0 ∷ task (TaskCreate 3 5 1) ok 3
    ∷ task (OnQueue 1 (Send 13 9)) pending 0 ∷ ticks 2 ∷ wait_code 2 (minus 4) ∷ shows (pattern 2) (0 ∷ []) ∷ shows (handed 2) (0 ∷ []) ∷ shows (sides 1) (1 ∷ 3 ∷ []) ∷ task_gets (OnQueue 1 ReceivePolling) ok 2 10
    ∷ task_gets (OnQueue 1 ReceivePolling) ok 2 11 ∷ task_gets (OnQueue 1 ReceivePolling) ok 2 13 ∷ task (OnQueue 1 ReceivePolling) (minus 4) 2 ∷ [])
    -- receivers wait: a send hands its element to the first and stores nothing; one who times out gets none; endless waits stay
    ∷ from0
    (task (OnQueue 2 (Create 2)) ok 0 ∷ task (TaskCreate 1 5 1) ok 1 ∷ task (OnQueue 2 (Receive 1)) pending 0 ∷ shows (pattern 1) (0 ∷ []) ∷ task (TaskCreate 3 5 1) ok 3 ∷ task (OnQueue 2 (Receive 4294967295)) pending 0
    ∷ task (TaskCreate 2 5 1) ok 2 ∷ task (OnQueue 2 (Receive 9)) pending 0 ∷ shows (sides 2) (1 ∷ 3 ∷ 2 ∷ []) ∷ ticks 1 ∷ wait_code 1 (minus 4) ∷ shows (remaining 3) (4294967295 ∷ []) ∷ task (OnQueue 2 (Send 21 9)) ok 1
    ∷ shows (handed 3) (21 ∷ []) ∷ wait_code 3 ok ∷ shows (handed 2) (0 ∷ []) ∷ shows (stored 2) [] ∷ shows (order 5) (1 ∷ 3 ∷ []) ∷ int (OnQueue 2 (IsendPolling 0)) ok 1 ∷ wait_code 2 ok ∷ shows (handed 2) (0 ∷ [])
    ∷ shows (sides 2) [] ∷ task (OnQueue 2 (Send 22 9)) ok 1 ∷ shows (stored 2) (22 ∷ []) ∷ shows (handed 3) (21 ∷ []) ∷ [])
    -- capacity 0: a poll hands over to who waits to receive, and to nobody else
    ∷ from0
    (task (OnQueue 1 (Create 0)) ok 0 ∷ task (OnQueue 1 (SendPolling 5)) (minus 4) 0 ∷ task (TaskCreate 1 5 1) ok 1 ∷ task (OnQueue 1 (Receive 9)) pending 0 ∷ task (OnQueue 1 (SendPolling 6)) ok 1 ∷ shows (handed 1) (6 ∷ [])
    ∷ shows (stored 1) [] ∷ int (OnQueue 1 (IsendPolling 7)) (minus 4) 1 ∷ [])
    -- suspended waiters are served too, receiver and sender, and stay suspended; a wakeup is counted and they wait on
    ∷ from0
    (task (OnQueue 1 (Create 1)) ok 0 ∷ task (TaskCreate 1 5 1) ok 1 ∷ task (OnQueue 1 (Receive 9)) pending 0 ∷ task (TaskSuspend 1) ok 0 ∷ task (TaskWakeup 1) ok 0 ∷ task (OnQueue 1 (SendPolling 9)) ok 0 ∷ shows (handed 1) (9 ∷ [])
    ∷ shows (suspended 1) (1 ∷ []) ∷ shows (wakeups 1) (1 ∷ []) ∷ shows (stored 1) [] ∷ task (TaskResume 1) ok 1 ∷ task (TaskSleep 9) ok 1 ∷ shows (handed 1) (9 ∷ []) ∷ task (OnQueue 1 (Send 1 9)) ok 1 ∷ task (OnQueue 1 (Send 2 9)) pending 0
    ∷ shows (handed 1) (0 ∷ []) ∷ task (TaskSuspend 1) ok 0 ∷ takes 1 1 ∷ wait_code 1 ok ∷ shows (stored 1) (2 ∷ []) ∷ shows (suspended 1) (1 ∷ []) ∷ [])
    -- a forced release and a termination take the element with them; an activation counted makes the sender runnable at once, with code 0
    ∷ from0
    (task (OnQueue 1 (Create 0)) ok 0 ∷ task (TaskCreate 1 5 1) ok 1 ∷ task (OnQueue 1 (Send 11 9)) pending 0 ∷ task (TaskCreate 2 5 1) ok 2 ∷ task (OnQueue 1 (Send 12 9)) pending 0 ∷ task (TaskCreate 3 5 1) ok 3
    ∷ task (OnQueue 1 (Send 13 9)) pending 0 ∷ task (TaskReleaseWait 1) ok 1 ∷ wait_code 1 (minus 11) ∷ shows (pattern 1) (0 ∷ []) ∷ task (TaskActivate 2) ok 1 ∷ task (TaskTerminate 2) ok 1 ∷ wait_code 2 ok ∷ shows (pattern 2) (0 ∷ [])
    ∷ shows (order 5) (1 ∷ 2 ∷ []) ∷ shows (sides 1) (3 ∷ []) ∷ task_gets (OnQueue 1 ReceivePolling) ok 1 13 ∷ [])
    -- deletion with stored elements and waiting senders: all end with -10, in queue order, and the elements are gone; then it may be created anew
    ∷ from0
    (task (OnQueue 1 (Create 2)) ok 0 ∷ puts 1 7 ∷ puts 1 8 ∷ task (TaskCreate 3 5 1) ok 3 ∷ task (OnQueue 1 (Send 9 9)) pending 0 ∷ task (TaskCreate 1 5 1) ok 1 ∷ task (OnQueue 1 (Send 10 9)) pending 0 ∷ task (OnQueue 1 Delete) ok 3
    ∷ wait_code 3 (minus 10) ∷ wait_code 1 (minus 10) ∷ shows (order 5) (3 ∷ 1 ∷ []) ∷ shows (pattern 3) (0 ∷ []) ∷ shows (stored 1) [] ∷ refuses (each (minus 9) (in_t (OnQueue 1 ReceivePolling) ∷ in_t (OnQueue 1 (SendPolling 1)) ∷ []) ∷ [])
    ∷ task (OnQueue 1 (Create 1)) ok 3 ∷ task (OnQueue 1 ReceivePolling) (minus 4) 3 ∷ task (OnQueue 1 (SendPolling 1)) ok 3 ∷ shows (stored 1) (1 ∷ []) ∷ [])
    -- and with receivers waiting
    ∷ from0
    (task (OnQueue 1 (Create 0)) ok 0 ∷ task (TaskCreate 3 5 1) ok 3 ∷ task (OnQueue 1 (Receive 9)) pending 0 ∷ task (TaskCreate 1 5 1) ok 1 ∷ task (OnQueue 1 (Receive 9)) pending 0 ∷ task (OnQueue 1 Delete) ok 3 ∷ wait_code 3 (minus 10)
    ∷ wait_code 1 (minus 10) ∷ shows (handed 3) (0 ∷ []) ∷ shows (order 5) (3 ∷ 1 ∷ []) ∷ shows (sides 1) [] ∷ [])
    ∷ []

pub data_queues : So (all_hold table)
unfolding opened table
data_queues = tt
