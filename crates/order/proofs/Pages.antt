-- Pages of a data queue's ledger, computed over the definitions, after each call: three senders and one that times out between the others, a sender that only
-- looks served, the same element sent again, receivers that are handed one, a deletion. They are written in the form of specs/Page.
use mathlib.Core.List.{List, [], ◌∷◌}
use Prim.Native.Nat.{ℕ}
use lib.Dec.{T as So}
use Rattle.model.specs.declared.Context.{Context}
use Rattle.model.specs.declared.Call.{Call}
use Rattle.model.specs.declared.Call.TheVariants.{TaskCreate, TaskActivate, TaskTerminate, TaskReleaseWait, TaskSuspend, OnQueue}
use Rattle.model.specs.declared.QueueService.TheVariants.{Create, Delete, Send, SendPolling, IsendPolling, Receive, ReceivePolling, Ireceive}
use Rattle.model.proofs.Words.{opened}
use Rattle.turns.specs.Tally.{reached_by}
use Rattle.turns.proofs.Words.{by_task, by_interrupt, a_tick}
use Rattle.order.specs.Lists as Lists
use Rattle.order.specs.Ledger as Ledgers
use Rattle.order.specs.Page.{Line, Page, lines_agree, all_agree}

abbrev after : Context × Call → List ℕ → List ℕ → List ℕ → Line
after a x y z = record { call = a; owes = x; gave = y; holds = z }

abbrev page : ℕ → List (Context × Call) → List Line → Page
page q given lines = record { queue = q; given = given; lines = lines }

-- capacity 1 with the element 10, and tasks 1, 2, 3 wait with 11, 12, 13, task 2 for one tick; 4 runs
unfoldable pub three : List (Context × Call)
three =
    by_task (OnQueue 1 (Create 1)) ∷ by_task (OnQueue 1 (SendPolling 10)) ∷ by_task (TaskCreate 1 5 1) ∷ by_task (OnQueue 1 (Send 11 9)) ∷ by_task (TaskCreate 2 5 1) ∷ by_task (OnQueue 1 (Send 12 1))
    ∷ by_task (TaskCreate 3 5 1) ∷ by_task (OnQueue 1 (Send 13 9)) ∷ by_task (TaskCreate 4 9 1) ∷ []

unfoldable pub pages : List Page
pages =
    -- they come out in the order accepted; task 2 times out between the others, and may send the same element again
    page 1 three (after a_tick (10 ∷ 11 ∷ 13 ∷ []) [] (10 ∷ 11 ∷ 13 ∷ []) ∷ after (by_task (OnQueue 1 (Send 12 9))) (10 ∷ 11 ∷ 13 ∷ 12 ∷ []) [] (10 ∷ 11 ∷ 13 ∷ 12 ∷ [])
    ∷ after (by_task (OnQueue 1 ReceivePolling)) (10 ∷ 11 ∷ 13 ∷ 12 ∷ []) (10 ∷ []) (11 ∷ 13 ∷ 12 ∷ []) ∷ after (by_interrupt (OnQueue 1 Ireceive)) (10 ∷ 11 ∷ 13 ∷ 12 ∷ []) (10 ∷ 11 ∷ []) (13 ∷ 12 ∷ [])
    ∷ after (by_task (OnQueue 1 (Receive 9))) (10 ∷ 11 ∷ 13 ∷ 12 ∷ []) (10 ∷ 11 ∷ 13 ∷ []) (12 ∷ []) ∷ after (by_task (OnQueue 1 ReceivePolling)) (10 ∷ 11 ∷ 13 ∷ 12 ∷ []) (10 ∷ 11 ∷ 13 ∷ 12 ∷ []) []
    ∷ after (by_task (OnQueue 1 ReceivePolling)) (10 ∷ 11 ∷ 13 ∷ 12 ∷ []) (10 ∷ 11 ∷ 13 ∷ 12 ∷ []) [] ∷ [])
    -- a forced release and a termination take their element with them; a sender that is terminated with an activation counted only looks served
    ∷ page 1 three (after (by_task (TaskReleaseWait 1)) (10 ∷ 12 ∷ 13 ∷ []) [] (10 ∷ 12 ∷ 13 ∷ []) ∷ after (by_task (TaskActivate 2)) (10 ∷ 12 ∷ 13 ∷ []) [] (10 ∷ 12 ∷ 13 ∷ [])
    ∷ after (by_task (TaskTerminate 2)) (10 ∷ 13 ∷ []) [] (10 ∷ 13 ∷ []) ∷ after (by_task (TaskTerminate 3)) (10 ∷ []) [] (10 ∷ []) ∷ [])
    -- a sender that is suspended waits on, and is served
    ∷ page 1 three (after (by_task (TaskSuspend 1)) (10 ∷ 11 ∷ 12 ∷ 13 ∷ []) [] (10 ∷ 11 ∷ 12 ∷ 13 ∷ []) ∷ after (by_task (OnQueue 1 ReceivePolling)) (10 ∷ 11 ∷ 12 ∷ 13 ∷ []) (10 ∷ []) (11 ∷ 12 ∷ 13 ∷ []) ∷ [])
    -- a task that was served waits again with the same element and gives up: its latest entry alone is withdrawn
    ∷ page 2 (by_task (OnQueue 2 (Create 0)) ∷ by_task (TaskCreate 1 5 1) ∷ by_task (OnQueue 2 (Send 5 9)) ∷ [])
    (after (by_interrupt (OnQueue 2 Ireceive)) (5 ∷ []) (5 ∷ []) [] ∷ after (by_task (OnQueue 2 (Send 5 1))) (5 ∷ 5 ∷ []) (5 ∷ []) (5 ∷ []) ∷ after a_tick (5 ∷ []) (5 ∷ []) [] ∷ [])
    -- receivers wait: what a send or a poll hands over is received, one that timed out gets none, and an element of 0 is one like any other
    ∷ page 3 (by_task (OnQueue 3 (Create 2)) ∷ by_task (TaskCreate 1 5 1) ∷ by_task (OnQueue 3 (Receive 1)) ∷ by_task (TaskCreate 2 5 1) ∷ by_task (OnQueue 3 (Receive 9)) ∷ by_task (TaskCreate 3 5 1) ∷ by_task (OnQueue 3 (Receive 9)) ∷ [])
    (after a_tick [] [] [] ∷ after (by_interrupt (OnQueue 3 (IsendPolling 0))) (0 ∷ []) (0 ∷ []) [] ∷ after (by_task (OnQueue 3 (Send 21 9))) (0 ∷ 21 ∷ []) (0 ∷ 21 ∷ []) []
    ∷ after (by_task (OnQueue 3 (SendPolling 0))) (0 ∷ 21 ∷ 0 ∷ []) (0 ∷ 21 ∷ []) (0 ∷ []) ∷ after (by_task (OnQueue 3 (SendPolling 22))) (0 ∷ 21 ∷ 0 ∷ 22 ∷ []) (0 ∷ 21 ∷ []) (0 ∷ 22 ∷ [])
    -- a refused send is none, nor is one to another queue
    ∷ after (by_task (OnQueue 3 (SendPolling 23))) (0 ∷ 21 ∷ 0 ∷ 22 ∷ []) (0 ∷ 21 ∷ []) (0 ∷ 22 ∷ []) ∷ after (by_task (OnQueue 4 (Create 2))) (0 ∷ 21 ∷ 0 ∷ 22 ∷ []) (0 ∷ 21 ∷ []) (0 ∷ 22 ∷ [])
    ∷ after (by_task (OnQueue 4 (Send 24 9))) (0 ∷ 21 ∷ 0 ∷ 22 ∷ []) (0 ∷ 21 ∷ []) (0 ∷ 22 ∷ [])
    -- the older of the two that are stored comes out
    ∷ after (by_interrupt (OnQueue 3 Ireceive)) (0 ∷ 21 ∷ 0 ∷ 22 ∷ []) (0 ∷ 21 ∷ 0 ∷ []) (22 ∷ [])
    -- a deletion ends the ledger and a creation begins it anew; what was accepted before is owed to nobody
    ∷ after (by_task (OnQueue 3 Delete)) [] [] [] ∷ after (by_task (OnQueue 3 (Create 1))) [] [] [] ∷ after (by_task (OnQueue 3 (Send 7 9))) (7 ∷ []) [] (7 ∷ []) ∷ after (by_task (OnQueue 3 (Send 8 9))) (7 ∷ 8 ∷ []) [] (7 ∷ 8 ∷ [])
    ∷ [])
    ∷ []

pub pages_agree : So (all_agree pages)
unfolding opened three pages reached_by lines_agree all_agree Lists.has Lists.staying Lists.tasks Lists.elements Lists.paired Lists.keeping Ledgers.live Ledgers.withdrawn_by Ledgers.handed_to Ledgers.ledger
pages_agree = tt
