-- What a call is to the tally of a semaphore and to the ledger of a data queue: a creation, a deletion, what it gives or takes, or nothing.
-- It reads the calls of model alone; which entries are made, and what they count, is said in Tally of turns and in Ledger of order.
use Rattle.std.specs.Prelude.{ℕ}
use Rattle.model.specs.declared.Call.{Call}
use Rattle.model.specs.declared.Call.TheVariants.{TaskCreate, TaskDelete, TaskActivate, TaskIactivate, TaskExit, TaskTerminate, TaskSuspend, TaskResume, TaskSleep, TaskWakeup, TaskIwakeup, TaskReleaseWait, TaskIreleaseWait, TaskChangePriority}
use Rattle.model.specs.declared.Call.TheVariants.{SysTsliceTicks, TickIntProcessing, SemCreate, SemDelete, SemSignal, SemIsignal, SemAcquire, SemPolling, SemIpolling, OnFlag, ReadyTicks, OnQueue}
use Rattle.model.specs.declared.QueueService.{QueueService}
use Rattle.model.specs.declared.QueueService.TheVariants.{Create as QueueCreate, Delete as QueueDelete, Send, SendPolling, IsendPolling, Receive, ReceivePolling, Ireceive}

pub data Entry : Type 0 where
  creation : ℕ → ℕ → Entry  -- of a semaphore, with its start value
  deletion release acquisition poll : ℕ → Entry  -- of a semaphore
  opening closing receiving : ℕ → Entry  -- of a data queue: its creation, its deletion, an element received
  sending : ℕ → ℕ → Entry  -- to a data queue, of an element
  none : Entry

abbrev pub queue_entry : ℕ → QueueService → Entry
queue_entry q (QueueCreate c) = opening q
queue_entry q QueueDelete = closing q
queue_entry q (Send e d) = sending q e
queue_entry q (SendPolling e) = sending q e
queue_entry q (IsendPolling e) = sending q e
queue_entry q (Receive d) = receiving q
queue_entry q ReceivePolling = receiving q
queue_entry q Ireceive = receiving q

abbrev pub entry : Call → Entry
entry (TaskCreate t p o) = none
entry (TaskDelete t) = none
entry (TaskActivate t) = none
entry (TaskIactivate t) = none
entry TaskExit = none
entry (TaskTerminate t) = none
entry (TaskSuspend t) = none
entry (TaskResume t) = none
entry (TaskSleep d) = none
entry (TaskWakeup t) = none
entry (TaskIwakeup t) = none
entry (TaskReleaseWait t) = none
entry (TaskIreleaseWait t) = none
entry (TaskChangePriority t p) = none
entry (SysTsliceTicks l v) = none
entry TickIntProcessing = none
entry (SemCreate m n v) = creation m n
entry (SemDelete m) = deletion m
entry (SemSignal m) = release m
entry (SemIsignal m) = release m
entry (SemAcquire m d) = acquisition m
entry (SemPolling m) = poll m
entry (SemIpolling m) = poll m
entry (OnFlag f e) = none
entry (ReadyTicks t) = none
entry (OnQueue q e) = queue_entry q e
