-- The ledger: accounts computed over the definitions, after each call, the first with every term above 0; and a waiter that only looks served.
-- They are written in the form of specs/Ledger and compute through the definitions of model.
use mathlib.Core.Path.{◌≡◌, refl}
use mathlib.Core.List.{List, [], ◌∷◌, ◌++◌}
use Prim.Native.Nat.{ℕ}
use lib.Dec.{T as So}
use Rattle.model.specs.declared.Context.{Context}
use Rattle.model.specs.declared.Call.{Call}
use Rattle.model.specs.declared.Call.TheVariants.{TaskCreate, TaskDelete, TaskActivate, TaskExit, TaskTerminate, TaskSuspend, TaskReleaseWait, SemCreate, SemDelete, SemSignal, SemIsignal, SemAcquire, SemPolling, SemIpolling, OnQueue}
use Rattle.model.specs.declared.QueueService.TheVariants.{Create as QueueCreate, Delete as QueueDelete, Send, ReceivePolling}
use Rattle.model.specs.State.{fresh}
use Rattle.model.proofs.Words.{opened}
use Rattle.turns.specs.Tally.{reached_by, waits_ended, tally}
use Rattle.turns.specs.Ledger.{Line, Page, kernel, lines_agree, all_agree}
use Rattle.turns.proofs.Words.{by_task, by_interrupt, a_tick}

abbrev after : Context × Call → List ℕ → Line
after a sums = record { call = a; account = sums }

abbrev page : ℕ → List (Context × Call) → List Line → Page
page m given lines = record { semaphore = m; given = given; lines = lines }

-- ---- examples/account.csv, line by line
unfoldable pub example : List Line
example =
    after (by_task (SemCreate 1 2 2)) (2 ∷ 0 ∷ 2 ∷ 0 ∷ 0 ∷ 0 ∷ []) ∷
    after (by_task (TaskCreate 1 5 1)) (2 ∷ 0 ∷ 2 ∷ 0 ∷ 0 ∷ 0 ∷ []) ∷
    after (by_task (TaskCreate 2 6 1)) (2 ∷ 0 ∷ 2 ∷ 0 ∷ 0 ∷ 0 ∷ []) ∷
    after (by_task (SemAcquire 1 9)) (2 ∷ 0 ∷ 1 ∷ 1 ∷ 0 ∷ 0 ∷ []) ∷
    after (by_task (SemPolling 1)) (2 ∷ 0 ∷ 0 ∷ 1 ∷ 1 ∷ 0 ∷ []) ∷
    after (by_task (SemAcquire 1 9)) (2 ∷ 0 ∷ 0 ∷ 1 ∷ 1 ∷ 0 ∷ []) ∷
    after (by_task (SemSignal 1)) (2 ∷ 1 ∷ 0 ∷ 1 ∷ 1 ∷ 1 ∷ []) ∷
    after (by_task (SemSignal 1)) (2 ∷ 2 ∷ 1 ∷ 1 ∷ 1 ∷ 1 ∷ []) ∷
    after (by_task (SemSignal 1)) (2 ∷ 3 ∷ 2 ∷ 1 ∷ 1 ∷ 1 ∷ []) ∷
    after (by_task (SemSignal 1)) (2 ∷ 3 ∷ 2 ∷ 1 ∷ 1 ∷ 1 ∷ []) ∷
    after (by_interrupt (SemIpolling 1)) (2 ∷ 3 ∷ 1 ∷ 1 ∷ 2 ∷ 1 ∷ []) ∷
    after (by_task (SemPolling 1)) (2 ∷ 3 ∷ 0 ∷ 1 ∷ 3 ∷ 1 ∷ []) ∷
    after (by_task (SemAcquire 1 9)) (2 ∷ 3 ∷ 0 ∷ 1 ∷ 3 ∷ 1 ∷ []) ∷
    after (by_task (TaskActivate 1)) (2 ∷ 3 ∷ 0 ∷ 1 ∷ 3 ∷ 1 ∷ []) ∷
    after (by_task (TaskTerminate 1)) (2 ∷ 3 ∷ 0 ∷ 1 ∷ 3 ∷ 1 ∷ []) ∷
    after (by_task TaskExit) (2 ∷ 3 ∷ 0 ∷ 1 ∷ 3 ∷ 1 ∷ []) ∷
    after (by_task (SemSignal 1)) (2 ∷ 4 ∷ 1 ∷ 1 ∷ 3 ∷ 1 ∷ []) ∷
    after (by_task (SemDelete 1)) (0 ∷ 0 ∷ 0 ∷ 0 ∷ 0 ∷ 0 ∷ []) ∷
    after (by_task (SemCreate 1 1 2)) (1 ∷ 0 ∷ 1 ∷ 0 ∷ 0 ∷ 0 ∷ []) ∷
    after (by_task (SemAcquire 1 9)) (1 ∷ 0 ∷ 0 ∷ 1 ∷ 0 ∷ 0 ∷ []) ∷
    []

-- ---- lists of calls
-- task 1 takes one resource at once and one by poll, waits, and is handed one; one more release raises the count
unfoldable pub every_term : List (Context × Call)
every_term = by_task (SemCreate 1 2 9) ∷ by_task (TaskCreate 1 5 1) ∷ by_task (SemAcquire 1 9) ∷ by_task (SemPolling 1) ∷ by_task (SemAcquire 1 9) ∷ by_interrupt (SemIsignal 1) ∷ by_task (SemSignal 1) ∷ []

-- task 1 takes the only resource at once and waits for another; task 2 runs
unfoldable pub one_waits : List (Context × Call)
one_waits = by_task (SemCreate 1 1 9) ∷ by_task (TaskCreate 1 5 1) ∷ by_task (TaskCreate 2 6 1) ∷ by_task (SemAcquire 1 1) ∷ by_task (SemAcquire 1 1) ∷ []

-- an activation is counted for task 1, then task 2 terminates it
unfoldable pub activated : List (Context × Call)
activated = one_waits ++ by_task (TaskActivate 1) ∷ []

unfoldable pub terminated : List (Context × Call)
terminated = activated ++ by_task (TaskTerminate 1) ∷ []

-- ---- pages
unfoldable pub pages : List Page
pages =
    page 1 [] example ∷
    -- a task that ends keeps what it took, deleted or not; start-up code takes by poll as well
    page 1 every_term (after (by_task TaskExit) (2 ∷ 2 ∷ 1 ∷ 1 ∷ 1 ∷ 1 ∷ []) ∷ after (by_task (TaskDelete 1)) (2 ∷ 2 ∷ 1 ∷ 1 ∷ 1 ∷ 1 ∷ []) ∷ after (by_task (SemPolling 1)) (2 ∷ 2 ∷ 0 ∷ 1 ∷ 2 ∷ 1 ∷ []) ∷ []) ∷
    -- each semaphore has an account of its own
    page 1 every_term (after (by_task (SemCreate 2 1 1)) (2 ∷ 2 ∷ 1 ∷ 1 ∷ 1 ∷ 1 ∷ []) ∷ after (by_task (SemAcquire 2 9)) (2 ∷ 2 ∷ 1 ∷ 1 ∷ 1 ∷ 1 ∷ []) ∷ []) ∷
    page 2 every_term (after (by_task (SemCreate 2 1 1)) (1 ∷ 0 ∷ 1 ∷ 0 ∷ 0 ∷ 0 ∷ []) ∷ after (by_task (SemAcquire 2 9)) (1 ∷ 0 ∷ 0 ∷ 1 ∷ 0 ∷ 0 ∷ []) ∷ []) ∷
    -- and a data queue of its number has no part in it
    page 1 every_term (after (by_task (OnQueue 1 (QueueCreate 1))) (2 ∷ 2 ∷ 1 ∷ 1 ∷ 1 ∷ 1 ∷ []) ∷ after (by_task (OnQueue 1 (Send 7 9))) (2 ∷ 2 ∷ 1 ∷ 1 ∷ 1 ∷ 1 ∷ []) ∷
    after (by_task (OnQueue 1 ReceivePolling)) (2 ∷ 2 ∷ 1 ∷ 1 ∷ 1 ∷ 1 ∷ []) ∷ after (by_task (OnQueue 1 QueueDelete)) (2 ∷ 2 ∷ 1 ∷ 1 ∷ 1 ∷ 1 ∷ []) ∷ []) ∷
    -- what is refused is not entered: a release past the maximum, a wrong context, a second creation, a poll of nothing
    page 1 (by_task (SemCreate 1 1 1) ∷ []) (after (by_task (SemSignal 1)) (1 ∷ 0 ∷ 1 ∷ 0 ∷ 0 ∷ 0 ∷ []) ∷ after (by_interrupt (SemPolling 1)) (1 ∷ 0 ∷ 1 ∷ 0 ∷ 0 ∷ 0 ∷ []) ∷
    after (by_task (SemCreate 1 0 1)) (1 ∷ 0 ∷ 1 ∷ 0 ∷ 0 ∷ 0 ∷ []) ∷ after (by_task (SemPolling 1)) (1 ∷ 0 ∷ 0 ∷ 0 ∷ 1 ∷ 0 ∷ []) ∷ after (by_task (SemPolling 1)) (1 ∷ 0 ∷ 0 ∷ 0 ∷ 1 ∷ 0 ∷ []) ∷ []) ∷
    -- a wait that a timeout or a forced release ends has taken nothing
    page 1 one_waits (after a_tick (1 ∷ 0 ∷ 0 ∷ 1 ∷ 0 ∷ 0 ∷ []) ∷ after (by_task (SemSignal 1)) (1 ∷ 1 ∷ 1 ∷ 1 ∷ 0 ∷ 0 ∷ []) ∷ []) ∷
    page 1 one_waits (after (by_task (TaskReleaseWait 1)) (1 ∷ 0 ∷ 0 ∷ 1 ∷ 0 ∷ 0 ∷ []) ∷ after (by_task (SemSignal 1)) (1 ∷ 1 ∷ 1 ∷ 1 ∷ 0 ∷ 0 ∷ []) ∷ []) ∷
    -- one that a release ends while the task is suspended has
    page 1 one_waits (after (by_task (TaskSuspend 1)) (1 ∷ 0 ∷ 0 ∷ 1 ∷ 0 ∷ 0 ∷ []) ∷ after (by_task (SemSignal 1)) (1 ∷ 1 ∷ 0 ∷ 1 ∷ 0 ∷ 1 ∷ []) ∷ []) ∷
    -- a waiter that is terminated with an activation counted has taken nothing; the release that follows finds nobody waiting
    page 1 activated (after (by_task (TaskTerminate 1)) (1 ∷ 0 ∷ 0 ∷ 1 ∷ 0 ∷ 0 ∷ []) ∷ after (by_task (SemSignal 1)) (1 ∷ 1 ∷ 1 ∷ 1 ∷ 0 ∷ 0 ∷ []) ∷ []) ∷
    []

pub pages_agree : So (all_agree pages)
unfolding opened example every_term one_waits activated pages reached_by tally waits_ended lines_agree all_agree
pages_agree = tt

-- the records before and after that termination say what a served waiter's say: it waited, and now waits for nothing, with code 0
pub looks_served : waits_ended (reached_by kernel fresh activated) (reached_by kernel fresh terminated) 1 24 ≡ 1
unfolding opened one_waits activated terminated reached_by waits_ended
looks_served = refl
