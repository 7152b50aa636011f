-- The bench table of refusals: one row a service, in the order of the table of services, with every code that refuses it and in the order of checks.
-- All rows are asked of two states: one where nobody runs, and one where task 7 does. Each answer is worked out by hand from document 01.
use mathlib.Core.Bool.{Bool, true, ◌&&◌}
use mathlib.Core.List.{List, [], ◌∷◌, ◌++◌}
use Prim.Native.Nat.{ℕ, suc}
use lib.Dec.{T as So, eqb}
use lib.ListN.{length}
use Rattle.model.specs.declared.Call.{Call}
use Rattle.model.specs.declared.Call.TheVariants.{TaskCreate, TaskDelete, TaskActivate, TaskIactivate, TaskExit, TaskTerminate, TaskSuspend, TaskResume, TaskSleep, TaskWakeup, TaskIwakeup, TaskReleaseWait, TaskIreleaseWait, TaskChangePriority}
use Rattle.model.specs.declared.Call.TheVariants.{SysTsliceTicks, TickIntProcessing, SemCreate, SemDelete, SemSignal, SemIsignal, SemAcquire, SemPolling, SemIpolling, OnFlag, ReadyTicks, OnQueue}
use Rattle.model.specs.declared.FlagService.TheVariants.{Create, Delete, Set, Iset, Clear, Iclear, Wait, WaitPolling, Iwait}
use Rattle.model.specs.declared.QueueService.TheVariants.{Create as QueueCreate, Delete as QueueDelete, Send, SendPolling, IsendPolling, Receive, ReceivePolling, Ireceive}
use Rattle.model.specs.Services.{services, service_number}
use Rattle.model.specs.Code.{minus}
use Rattle.model.specs.Bench.{Ask, Refusal, Step, refuses, Case, all_hold}
use Rattle.model.proofs.Words.{ok, pending, task, in_t, in_i, each, from0, opened}

-- ---- the form of a row
-- what a service refuses from both contexts and whoever runs; where 7 runs; and where nobody does
pub record Row : Type 0 where
  pub always : List Refusal
  pub busy : List Refusal
  pub idle : List Refusal

-- from both contexts
both : List Call → List Ask
both [] = []
both (a ∷ rest) = in_t a ∷ in_i a ∷ both rest

-- numbers out of range, or create of what exists; no such object
abbrev wrong : List Call → Refusal
wrong calls = each (minus 5) (both calls)

abbrev missing : List Call → Refusal
missing calls = each (minus 9) (both calls)

abbrev row : List Refusal → List Refusal → List Refusal → Row
row a b i = record { always = a; busy = b; idle = i }

-- a service on one object of 1 to `top`: neither the first nor the last is created in the two states
abbrev among : ℕ → (ℕ → Call) → List Refusal
among top f = wrong (f 0 ∷ f (suc top) ∷ []) ∷ missing (f 1 ∷ f top ∷ []) ∷ []

abbrev on_task : (ℕ → Call) → List Refusal → Row
on_task f busy = row (among 24 f) busy []

abbrev on_semaphore : (ℕ → Call) → List Refusal → Row
on_semaphore f busy = row (among 12 f) busy []

abbrev on_flag : (ℕ → Call) → List Refusal → Row
on_flag f busy = row (among 8 f) busy []

abbrev on_queue : (ℕ → Call) → List Refusal → Row
on_queue f busy = row (among 8 f) busy []

-- ---- the two states
-- nobody runs: 2 is dormant, 3 sleeps, 4 waits on semaphore 2 (0 of 2) with both counts at 1, 5 waits on flag 2 (SINGLE, bits 1) for 2 and is
-- suspended, 6 is suspended; semaphore 3 is full (1 of 1), 4 is empty (0 of 1), flag 3 (neither attribute) has bits 5;
-- data queue 2 (capacity 1) has the element 0, 3 has capacity 0, and 4 (capacity 16) is empty
quiet : List Step
quiet =
    task (SemCreate 2 0 2) ok 0 ∷ task (SemCreate 3 1 1) ok 0 ∷ task (SemCreate 4 0 1) ok 0 ∷ task (OnFlag 2 (Create 1 1)) ok 0 ∷ task (OnFlag 3 (Create 0 5)) ok 0
    ∷ task (OnQueue 2 (QueueCreate 1)) ok 0 ∷ task (OnQueue 2 (SendPolling 0)) ok 0 ∷ task (OnQueue 3 (QueueCreate 0)) ok 0 ∷ task (OnQueue 4 (QueueCreate 16)) ok 0
    ∷ task (TaskCreate 2 5 0) ok 0 ∷ task (TaskCreate 3 5 1) ok 3 ∷ task (TaskSleep 9) pending 0
    ∷ task (TaskCreate 4 5 1) ok 4 ∷ task (TaskWakeup 4) ok 4 ∷ task (TaskActivate 4) ok 4 ∷ task (SemAcquire 2 9) pending 0
    ∷ task (TaskCreate 5 5 1) ok 5 ∷ task (OnFlag 2 (Wait 2 0 9)) pending 0 ∷ task (TaskSuspend 5) ok 0 ∷ task (TaskCreate 6 5 1) ok 6 ∷ task (TaskSuspend 6) ok 0 ∷ []

-- then 7 runs, with both counts at 1, and 8 is runnable behind it
working : List Step
working = task (TaskCreate 7 5 1) ok 7 ∷ task (TaskWakeup 7) ok 7 ∷ task (TaskActivate 7) ok 7 ∷ task (TaskCreate 8 5 1) ok 7 ∷ []

-- ---- the rows
pub rows : List Row
rows =
    -- 1 tn_task_create
    row
    (wrong (TaskCreate 0 5 0 ∷ TaskCreate 25 5 0 ∷ TaskCreate 1 0 0 ∷ TaskCreate 1 31 0 ∷ TaskCreate 1 5 2 ∷ TaskCreate 2 5 0 ∷ TaskCreate 3 5 1 ∷ []) ∷ [])
    (each (minus 2) (in_i (TaskCreate 1 1 0) ∷ in_i (TaskCreate 24 30 1) ∷ []) ∷ []) []
    -- 2 tn_task_delete: it is not dormant
    ∷ on_task (λ t. TaskDelete t)
    (each (minus 2) (in_i (TaskDelete 2) ∷ in_t (TaskDelete 3) ∷ in_t (TaskDelete 4) ∷ in_t (TaskDelete 5) ∷ in_t (TaskDelete 6) ∷ in_t (TaskDelete 7) ∷ in_t (TaskDelete 8) ∷ []) ∷ [])
    -- 3 tn_task_activate: its activation count is 1
    ∷ on_task (λ t. TaskActivate t)
    (each (minus 2) (in_i (TaskActivate 2) ∷ in_i (TaskActivate 8) ∷ in_i (TaskActivate 7) ∷ []) ∷ each (minus 1) (in_t (TaskActivate 7) ∷ in_t (TaskActivate 4) ∷ []) ∷ [])
    -- 4 tn_task_iactivate: the same
    ∷ on_task (λ t. TaskIactivate t)
    (each (minus 2) (in_t (TaskIactivate 2) ∷ in_t (TaskIactivate 8) ∷ in_t (TaskIactivate 7) ∷ []) ∷ each (minus 1) (in_i (TaskIactivate 7) ∷ in_i (TaskIactivate 4) ∷ []) ∷ [])
    -- 5 tn_task_exit: nobody runs
    ∷ row [] (each (minus 2) (in_i TaskExit ∷ []) ∷ []) (each (minus 2) (in_t TaskExit ∷ in_i TaskExit ∷ []) ∷ [])
    -- 6 tn_task_terminate: it is the caller; it is dormant
    ∷ on_task (λ t. TaskTerminate t)
    (each (minus 2) (in_i (TaskTerminate 8) ∷ in_i (TaskTerminate 3) ∷ in_t (TaskTerminate 7) ∷ in_t (TaskTerminate 2) ∷ []) ∷ [])
    -- 7 tn_task_suspend: it is dormant; it is suspended
    ∷ on_task (λ t. TaskSuspend t)
    (each (minus 2) (in_i (TaskSuspend 8) ∷ in_i (TaskSuspend 2) ∷ in_i (TaskSuspend 6) ∷ []) ∷ each (minus 3) (in_t (TaskSuspend 2) ∷ []) ∷ each (minus 1) (in_t (TaskSuspend 6) ∷ in_t (TaskSuspend 5) ∷ []) ∷ [])
    -- 8 tn_task_resume: it is not suspended
    ∷ on_task (λ t. TaskResume t)
    (each (minus 2) (in_i (TaskResume 6) ∷ in_i (TaskResume 2) ∷ []) ∷ each (minus 3) (in_t (TaskResume 7) ∷ in_t (TaskResume 8) ∷ in_t (TaskResume 2) ∷ in_t (TaskResume 3) ∷ in_t (TaskResume 4) ∷ []) ∷ [])
    -- 9 tn_task_sleep: nobody runs
    ∷ row (wrong (TaskSleep 0 ∷ []) ∷ []) (each (minus 2) (in_i (TaskSleep 1) ∷ in_i (TaskSleep 4294967295) ∷ []) ∷ []) (each (minus 2) (in_t (TaskSleep 1) ∷ in_t (TaskSleep 4294967295) ∷ []) ∷ [])
    -- 10 tn_task_wakeup: it is dormant; it is not asleep and its wakeup count is 1
    ∷ on_task (λ t. TaskWakeup t)
    (each (minus 2) (in_i (TaskWakeup 3) ∷ in_i (TaskWakeup 8) ∷ in_i (TaskWakeup 7) ∷ in_t (TaskWakeup 2) ∷ []) ∷ each (minus 1) (in_t (TaskWakeup 7) ∷ in_t (TaskWakeup 4) ∷ []) ∷ [])
    -- 11 tn_task_iwakeup: the same
    ∷ on_task (λ t. TaskIwakeup t)
    (each (minus 2) (in_t (TaskIwakeup 3) ∷ in_t (TaskIwakeup 8) ∷ in_t (TaskIwakeup 7) ∷ in_i (TaskIwakeup 2) ∷ []) ∷ each (minus 1) (in_i (TaskIwakeup 7) ∷ in_i (TaskIwakeup 4) ∷ []) ∷ [])
    -- 12 tn_task_release_wait: it does not wait
    ∷ on_task (λ t. TaskReleaseWait t)
    (each (minus 2) (in_i (TaskReleaseWait 3) ∷ in_i (TaskReleaseWait 4) ∷ in_t (TaskReleaseWait 7) ∷ in_t (TaskReleaseWait 8) ∷ in_t (TaskReleaseWait 2) ∷ in_t (TaskReleaseWait 6) ∷ []) ∷ [])
    -- 13 tn_task_irelease_wait: the same
    ∷ on_task (λ t. TaskIreleaseWait t)
    (each (minus 2) (in_t (TaskIreleaseWait 3) ∷ in_t (TaskIreleaseWait 4) ∷ in_i (TaskIreleaseWait 7) ∷ in_i (TaskIreleaseWait 8) ∷ in_i (TaskIreleaseWait 2) ∷ in_i (TaskIreleaseWait 6) ∷ []) ∷ [])
    -- 14 tn_task_change_priority: it is dormant, also where the priority is its own
    ∷ row
    (wrong (TaskChangePriority 3 31 ∷ TaskChangePriority 1 31 ∷ []) ∷ missing (TaskChangePriority 1 0 ∷ TaskChangePriority 24 30 ∷ []) ∷ among 24 (λ t. TaskChangePriority t 5))
    (each (minus 2) (in_i (TaskChangePriority 8 4) ∷ in_i (TaskChangePriority 8 0) ∷ in_t (TaskChangePriority 2 4) ∷ in_t (TaskChangePriority 2 5) ∷ in_t (TaskChangePriority 2 0) ∷ []) ∷ []) []
    -- 15 tn_sys_tslice_ticks
    ∷ row
    (wrong (SysTsliceTicks 0 1 ∷ SysTsliceTicks 31 1 ∷ SysTsliceTicks 1 1001 ∷ []) ∷ [])
    (each (minus 2) (in_i (SysTsliceTicks 1 0) ∷ in_i (SysTsliceTicks 30 1000) ∷ []) ∷ []) []
    -- 16 tn_tick_int_processing
    ∷ row [] (each (minus 2) (in_t TickIntProcessing ∷ []) ∷ []) []
    -- 17 tn_sem_create
    ∷ row
    (wrong (SemCreate 0 0 1 ∷ SemCreate 13 0 1 ∷ SemCreate 1 0 0 ∷ SemCreate 1 0 65536 ∷ SemCreate 1 2 1 ∷ SemCreate 2 0 2 ∷ SemCreate 3 0 1 ∷ []) ∷ [])
    (each (minus 2) (in_i (SemCreate 1 0 1) ∷ in_i (SemCreate 12 65535 65535) ∷ []) ∷ []) []
    -- 18 tn_sem_delete
    ∷ on_semaphore (λ m. SemDelete m) (each (minus 2) (in_i (SemDelete 2) ∷ in_i (SemDelete 3) ∷ []) ∷ [])
    -- 19 tn_sem_signal: nobody waits and the count is at the maximum
    ∷ on_semaphore (λ m. SemSignal m) (each (minus 2) (in_i (SemSignal 2) ∷ in_i (SemSignal 4) ∷ in_i (SemSignal 3) ∷ []) ∷ each (minus 1) (in_t (SemSignal 3) ∷ []) ∷ [])
    -- 20 tn_sem_isignal: the same
    ∷ on_semaphore (λ m. SemIsignal m) (each (minus 2) (in_t (SemIsignal 2) ∷ in_t (SemIsignal 4) ∷ in_t (SemIsignal 3) ∷ []) ∷ each (minus 1) (in_i (SemIsignal 3) ∷ []) ∷ [])
    -- 21 tn_sem_acquire: nobody runs, also where there would be no wait
    ∷ row
    (wrong (SemAcquire 3 0 ∷ SemAcquire 1 0 ∷ []) ∷ missing (SemAcquire 12 4294967295 ∷ []) ∷ among 12 (λ m. SemAcquire m 1))
    (each (minus 2) (in_i (SemAcquire 3 1) ∷ in_i (SemAcquire 2 1) ∷ []) ∷ []) (each (minus 2) (in_t (SemAcquire 3 1) ∷ in_t (SemAcquire 2 1) ∷ []) ∷ [])
    -- 22 tn_sem_polling: the count is 0
    ∷ on_semaphore (λ m. SemPolling m) (each (minus 2) (in_i (SemPolling 3) ∷ in_i (SemPolling 4) ∷ []) ∷ each (minus 4) (in_t (SemPolling 2) ∷ in_t (SemPolling 4) ∷ []) ∷ [])
    -- 23 tn_sem_ipolling: the same
    ∷ on_semaphore (λ m. SemIpolling m) (each (minus 2) (in_t (SemIpolling 3) ∷ in_t (SemIpolling 4) ∷ []) ∷ each (minus 4) (in_i (SemIpolling 2) ∷ in_i (SemIpolling 4) ∷ []) ∷ [])
    -- 24 tn_event_create
    ∷ row
    (wrong (OnFlag 0 (Create 0 0) ∷ OnFlag 9 (Create 0 0) ∷ OnFlag 1 (Create 2 0) ∷ OnFlag 1 (Create 4 0) ∷ OnFlag 2 (Create 1 1) ∷ OnFlag 3 (Create 0 0) ∷ []) ∷ [])
    (each (minus 2) (in_i (OnFlag 1 (Create 0 0)) ∷ in_i (OnFlag 1 (Create 1 1)) ∷ in_i (OnFlag 8 (Create 3 4294967295)) ∷ []) ∷ []) []
    -- 25 tn_event_delete
    ∷ on_flag (λ f. OnFlag f Delete) (each (minus 2) (in_i (OnFlag 2 Delete) ∷ in_i (OnFlag 3 Delete) ∷ []) ∷ [])
    -- 26 tn_event_set
    ∷ row
    (wrong (OnFlag 3 (Set 0) ∷ OnFlag 1 (Set 0) ∷ []) ∷ missing (OnFlag 8 (Set 4294967295) ∷ []) ∷ among 8 (λ f. OnFlag f (Set 1)))
    (each (minus 2) (in_i (OnFlag 2 (Set 2)) ∷ in_i (OnFlag 3 (Set 1)) ∷ []) ∷ []) []
    -- 27 tn_event_iset
    ∷ row
    (wrong (OnFlag 3 (Iset 0) ∷ OnFlag 1 (Iset 0) ∷ []) ∷ missing (OnFlag 8 (Iset 4294967295) ∷ []) ∷ among 8 (λ f. OnFlag f (Iset 1)))
    (each (minus 2) (in_t (OnFlag 2 (Iset 2)) ∷ in_t (OnFlag 3 (Iset 1)) ∷ []) ∷ []) []
    -- 28 tn_event_clear
    ∷ row
    (wrong (OnFlag 3 (Clear 0) ∷ OnFlag 1 (Clear 0) ∷ []) ∷ missing (OnFlag 8 (Clear 4294967295) ∷ []) ∷ among 8 (λ f. OnFlag f (Clear 1)))
    (each (minus 2) (in_i (OnFlag 2 (Clear 2)) ∷ in_i (OnFlag 3 (Clear 1)) ∷ []) ∷ []) []
    -- 29 tn_event_iclear
    ∷ row
    (wrong (OnFlag 3 (Iclear 0) ∷ OnFlag 1 (Iclear 0) ∷ []) ∷ missing (OnFlag 8 (Iclear 4294967295) ∷ []) ∷ among 8 (λ f. OnFlag f (Iclear 1)))
    (each (minus 2) (in_t (OnFlag 2 (Iclear 2)) ∷ in_t (OnFlag 3 (Iclear 1)) ∷ []) ∷ []) []
    -- 30 tn_event_wait: nobody runs, also where there would be no wait; the flag is SINGLE and has its waiter, met or not
    ∷ row
    (wrong (OnFlag 3 (Wait 0 0 1) ∷ OnFlag 3 (Wait 1 2 1) ∷ OnFlag 3 (Wait 1 0 0) ∷ OnFlag 1 (Wait 0 0 1) ∷ OnFlag 1 (Wait 1 2 1) ∷ OnFlag 1 (Wait 1 0 0) ∷ [])
    ∷ missing (OnFlag 8 (Wait 4294967295 1 4294967295) ∷ []) ∷ among 8 (λ f. OnFlag f (Wait 1 0 1)))
    (each (minus 2) (in_i (OnFlag 3 (Wait 1 0 1)) ∷ in_i (OnFlag 3 (Wait 2 0 1)) ∷ in_i (OnFlag 2 (Wait 1 0 1)) ∷ []) ∷ each (minus 8) (in_t (OnFlag 2 (Wait 1 0 1)) ∷ in_t (OnFlag 2 (Wait 4 0 1)) ∷ []) ∷ [])
    (each (minus 2) (in_t (OnFlag 3 (Wait 1 0 1)) ∷ in_t (OnFlag 3 (Wait 2 0 1)) ∷ in_t (OnFlag 2 (Wait 1 0 1)) ∷ []) ∷ [])
    -- 31 tn_event_wait_polling: the flag is SINGLE and has its waiter, met or not; its bits do not meet the pattern
    ∷ row
    (wrong (OnFlag 3 (WaitPolling 0 0) ∷ OnFlag 3 (WaitPolling 1 2) ∷ OnFlag 1 (WaitPolling 0 0) ∷ OnFlag 1 (WaitPolling 1 2) ∷ [])
    ∷ missing (OnFlag 8 (WaitPolling 4294967295 1) ∷ []) ∷ among 8 (λ f. OnFlag f (WaitPolling 1 0)))
    (each (minus 2) (in_i (OnFlag 3 (WaitPolling 1 0)) ∷ in_i (OnFlag 3 (WaitPolling 2 0)) ∷ in_i (OnFlag 2 (WaitPolling 1 0)) ∷ []) ∷ each (minus 8) (in_t (OnFlag 2 (WaitPolling 1 0)) ∷ in_t (OnFlag 2 (WaitPolling 4 0)) ∷ [])
    ∷ each (minus 4) (in_t (OnFlag 3 (WaitPolling 2 0)) ∷ in_t (OnFlag 3 (WaitPolling 7 1)) ∷ []) ∷ []) []
    -- 32 tn_event_iwait: the same
    ∷ row
    (wrong (OnFlag 3 (Iwait 0 0) ∷ OnFlag 3 (Iwait 1 2) ∷ OnFlag 1 (Iwait 0 0) ∷ OnFlag 1 (Iwait 1 2) ∷ [])
    ∷ missing (OnFlag 8 (Iwait 4294967295 1) ∷ []) ∷ among 8 (λ f. OnFlag f (Iwait 1 0)))
    (each (minus 2) (in_t (OnFlag 3 (Iwait 1 0)) ∷ in_t (OnFlag 3 (Iwait 2 0)) ∷ in_t (OnFlag 2 (Iwait 1 0)) ∷ []) ∷ each (minus 8) (in_i (OnFlag 2 (Iwait 1 0)) ∷ in_i (OnFlag 2 (Iwait 4 0)) ∷ [])
    ∷ each (minus 4) (in_i (OnFlag 3 (Iwait 2 0)) ∷ in_i (OnFlag 3 (Iwait 7 1)) ∷ []) ∷ []) []
    -- 33 ready_ticks: it is dormant
    ∷ on_task (λ t. ReadyTicks t)
    (each (minus 2) (in_i (ReadyTicks 7) ∷ in_i (ReadyTicks 3) ∷ in_i (ReadyTicks 2) ∷ in_t (ReadyTicks 2) ∷ []) ∷ [])
    -- 34 tn_queue_create: a capacity above 16
    ∷ row
    (wrong (OnQueue 0 (QueueCreate 1) ∷ OnQueue 9 (QueueCreate 1) ∷ OnQueue 1 (QueueCreate 17) ∷ OnQueue 1 (QueueCreate 4294967295) ∷ OnQueue 2 (QueueCreate 1) ∷ OnQueue 3 (QueueCreate 0) ∷ OnQueue 2 (QueueCreate 17) ∷ []) ∷ [])
    (each (minus 2) (in_i (OnQueue 1 (QueueCreate 0)) ∷ in_i (OnQueue 1 (QueueCreate 1)) ∷ in_i (OnQueue 8 (QueueCreate 16)) ∷ []) ∷ []) []
    -- 35 tn_queue_delete
    ∷ on_queue (λ q. OnQueue q QueueDelete) (each (minus 2) (in_i (OnQueue 2 QueueDelete) ∷ in_i (OnQueue 3 QueueDelete) ∷ []) ∷ [])
    -- 36 tn_queue_send: nobody runs, also where there would be no wait
    ∷ row
    (wrong (OnQueue 4 (Send 5 0) ∷ OnQueue 2 (Send 5 0) ∷ OnQueue 1 (Send 5 0) ∷ []) ∷ missing (OnQueue 8 (Send 4294967295 4294967295) ∷ []) ∷ among 8 (λ q. OnQueue q (Send 0 1)))
    (each (minus 2) (in_i (OnQueue 4 (Send 5 1)) ∷ in_i (OnQueue 2 (Send 0 1)) ∷ in_i (OnQueue 3 (Send 5 4294967295)) ∷ []) ∷ [])
    (each (minus 2) (in_t (OnQueue 4 (Send 5 1)) ∷ in_t (OnQueue 2 (Send 0 1)) ∷ in_t (OnQueue 3 (Send 5 4294967295)) ∷ []) ∷ [])
    -- 37 tn_queue_send_polling: the queue is full, also one without any place
    ∷ on_queue (λ q. OnQueue q (SendPolling 0))
    (each (minus 2) (in_i (OnQueue 4 (SendPolling 5)) ∷ in_i (OnQueue 2 (SendPolling 5)) ∷ []) ∷ each (minus 4) (in_t (OnQueue 2 (SendPolling 5)) ∷ in_t (OnQueue 2 (SendPolling 0)) ∷ in_t (OnQueue 3 (SendPolling 5)) ∷ []) ∷ [])
    -- 38 tn_queue_isend_polling: the same
    ∷ on_queue (λ q. OnQueue q (IsendPolling 0))
    (each (minus 2) (in_t (OnQueue 4 (IsendPolling 5)) ∷ in_t (OnQueue 2 (IsendPolling 5)) ∷ []) ∷ each (minus 4) (in_i (OnQueue 2 (IsendPolling 5)) ∷ in_i (OnQueue 2 (IsendPolling 0)) ∷ in_i (OnQueue 3 (IsendPolling 5)) ∷ []) ∷ [])
    -- 39 tn_queue_receive: nobody runs, also where there would be no wait
    ∷ row
    (wrong (OnQueue 4 (Receive 0) ∷ OnQueue 2 (Receive 0) ∷ OnQueue 1 (Receive 0) ∷ []) ∷ missing (OnQueue 8 (Receive 4294967295) ∷ []) ∷ among 8 (λ q. OnQueue q (Receive 1)))
    (each (minus 2) (in_i (OnQueue 4 (Receive 1)) ∷ in_i (OnQueue 2 (Receive 1)) ∷ in_i (OnQueue 3 (Receive 4294967295)) ∷ []) ∷ [])
    (each (minus 2) (in_t (OnQueue 4 (Receive 1)) ∷ in_t (OnQueue 2 (Receive 1)) ∷ in_t (OnQueue 3 (Receive 4294967295)) ∷ []) ∷ [])
    -- 40 tn_queue_receive_polling: the queue is empty
    ∷ on_queue (λ q. OnQueue q ReceivePolling)
    (each (minus 2) (in_i (OnQueue 4 ReceivePolling) ∷ in_i (OnQueue 2 ReceivePolling) ∷ []) ∷ each (minus 4) (in_t (OnQueue 4 ReceivePolling) ∷ in_t (OnQueue 3 ReceivePolling) ∷ []) ∷ [])
    -- 41 tn_queue_ireceive: the same
    ∷ on_queue (λ q. OnQueue q Ireceive)
    (each (minus 2) (in_t (OnQueue 4 Ireceive) ∷ in_t (OnQueue 2 Ireceive) ∷ []) ∷ each (minus 4) (in_i (OnQueue 4 Ireceive) ∷ in_i (OnQueue 3 Ireceive) ∷ []) ∷ [])
    ∷ []

-- ---- the rows hold
where_idle : List Row → List Refusal
where_idle [] = []
where_idle (r ∷ rest) = r.always ++ (r.idle ++ where_idle rest)

where_busy : List Row → List Refusal
where_busy [] = []
where_busy (r ∷ rest) = r.always ++ (r.busy ++ where_busy rest)

pub table : List Case
table = from0 (quiet ++ (refuses (where_idle rows) ∷ working ++ (refuses (where_busy rows) ∷ []))) ∷ []

pub refusals : So (all_hold table)
unfolding opened table rows both quiet working where_idle where_busy
refusals = tt

-- ---- and each service has its own: row n asks nothing but calls of service n
are_of : ℕ → List Ask → Bool
are_of n [] = true
are_of n (q ∷ rest) = eqb (service_number q.asked) n && are_of n rest

all_of : ℕ → List Refusal → Bool
all_of n [] = true
all_of n (r ∷ rest) = are_of n r.calls && all_of n rest

pub in_order : ℕ → List Row → Bool
in_order n [] = eqb (length services) n
in_order n (r ∷ rest) = all_of (suc n) (r.always ++ (r.busy ++ r.idle)) && in_order (suc n) rest

pub each_has_one : So (in_order 0 rows)
unfolding opened both rows are_of all_of in_order
each_has_one = tt
