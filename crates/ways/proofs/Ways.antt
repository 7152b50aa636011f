-- Every call's plan goes one of the ways of Done: the one pass over the services, which soundness, demand 3, the accounts and the longest answers take apart.
-- A new service is one line here, and its own tests in Tasks or Objects; a new constructor of Done only if it does something new.
use mathlib.Core.Bool.{Bool}
use Prim.Native.Nat.{ℕ}
use lib.Dec.{T as So}
use Rattle.model.specs.declared.State.{State}
use Rattle.model.specs.declared.Context.{Context}
use Rattle.model.specs.declared.Call.{Call}
use Rattle.model.specs.declared.Call.TheVariants.{TaskCreate, TaskDelete, TaskActivate, TaskIactivate, TaskExit, TaskTerminate, TaskSuspend, TaskResume, TaskSleep, TaskWakeup, TaskIwakeup, TaskReleaseWait, TaskIreleaseWait, TaskChangePriority}
use Rattle.model.specs.declared.Call.TheVariants.{SysTsliceTicks, TickIntProcessing, SemCreate, SemDelete, SemSignal, SemIsignal, SemAcquire, SemPolling, SemIpolling, OnFlag, ReadyTicks, OnQueue}
use Rattle.model.specs.declared.FlagService.{FlagService}
use Rattle.model.specs.declared.FlagService.TheVariants.{Create, Delete, Set, Iset, Clear, Iclear, Wait, WaitPolling, Iwait}
use Rattle.model.specs.declared.QueueService.{QueueService}
use Rattle.model.specs.declared.QueueService.TheVariants.{Create as QueueCreate, Delete as QueueDelete, Send, SendPolling, IsendPolling, Receive, ReceivePolling, Ireceive}
use Rattle.model.specs.Row.{first_of}
use Rattle.model.specs.Flag.{flag_row}
use Rattle.model.specs.State.{task, time, semaphore, flag, data_queue, running}
use Rattle.model.specs.Code.{number}
use Rattle.model.specs.Services.{is_mine}
use Rattle.model.specs.Call.{object_of, flag_subject, subject, flag_plan, queue_plan, plan, planned, step}
use Rattle.ways.specs.Kind.{other, kind}
use Rattle.ways.specs.Entry.{none, queue_entry, entry}
use Rattle.ways.proofs.Done.{Way, one_digit, digit}
use Rattle.ways.proofs.Tasks.{way_create, way_delete, way_activate, way_exit, way_terminate, way_suspend, way_resume, way_sleep, way_wakeup, way_release_wait, way_change_priority, way_ready_ticks, way_tslice_ticks, way_tick}
use Rattle.ways.proofs.Objects.{way_sem_create, way_sem_delete, way_signal, way_acquire, way_polling, way_flag_create, way_flag_delete, way_flag_set, way_flag_clear, way_flag_wait, way_flag_poll}
use Rattle.ways.proofs.Queues.{way_queue_create, way_queue_delete, way_queue_send, way_queue_send_poll, way_queue_receive, way_queue_receive_poll}

way_flag : (s : State) (mine : Bool) (f : ℕ) (e : FlagService) → Way s other none (flag_plan mine f e (running s) (task s (flag_subject e (running s) (first_of s.waits (flag_row f)))) (flag s f))
unfolding flag_plan
way_flag s mine f (Create a b) = way_flag_create s mine f a b
way_flag s mine f Delete = way_flag_delete s mine f
way_flag s mine f (Set b) = way_flag_set s mine f b
way_flag s mine f (Iset b) = way_flag_set s mine f b
way_flag s mine f (Clear b) = way_flag_clear s mine f b
way_flag s mine f (Iclear b) = way_flag_clear s mine f b
way_flag s mine f (Wait p m d) = way_flag_wait s mine f p m d
way_flag s mine f (WaitPolling p m) = way_flag_poll s mine f p m
way_flag s mine f (Iwait p m) = way_flag_poll s mine f p m

way_queue : (s : State) (mine : Bool) (q : ℕ) (e : QueueService) → Way s other (queue_entry q e) (queue_plan mine q e (running s) (task s (running s)) (data_queue s q))
unfolding queue_plan
way_queue s mine q (QueueCreate c) = way_queue_create s mine q c
way_queue s mine q QueueDelete = way_queue_delete s mine q
way_queue s mine q (Send e d) = way_queue_send s mine q e d
way_queue s mine q (SendPolling e) = way_queue_send_poll s mine q e
way_queue s mine q (IsendPolling e) = way_queue_send_poll s mine q e
way_queue s mine q (Receive d) = way_queue_receive s mine q d
way_queue s mine q ReceivePolling = way_queue_receive_poll s mine q
way_queue s mine q Ireceive = way_queue_receive_poll s mine q

way_plan : (s : State) (mine : Bool) (a : Call)
    → Way s (kind a) (entry a) (plan mine a (running s) (time s) (task s (subject a (running s) (first_of s.waits (object_of a)) (first_of s.waits (flag_row (object_of a))))) (semaphore s (object_of a)) (flag s (object_of a)) (data_queue s (object_of a)))
unfolding plan
way_plan s mine (TaskCreate t p o) = way_create s mine t p o
way_plan s mine (TaskDelete t) = way_delete s mine t
way_plan s mine (TaskActivate t) = way_activate s mine t
way_plan s mine (TaskIactivate t) = way_activate s mine t
way_plan s mine TaskExit = way_exit s mine
way_plan s mine (TaskTerminate t) = way_terminate s mine t
way_plan s mine (TaskSuspend t) = way_suspend s mine t
way_plan s mine (TaskResume t) = way_resume s mine t
way_plan s mine (TaskSleep d) = way_sleep s mine d
way_plan s mine (TaskWakeup t) = way_wakeup s mine t
way_plan s mine (TaskIwakeup t) = way_wakeup s mine t
way_plan s mine (TaskReleaseWait t) = way_release_wait s mine t
way_plan s mine (TaskIreleaseWait t) = way_release_wait s mine t
way_plan s mine (TaskChangePriority t p) = way_change_priority s mine t p
way_plan s mine (SysTsliceTicks l v) = way_tslice_ticks s mine l v
way_plan s mine TickIntProcessing = way_tick s mine
way_plan s mine (SemCreate m n v) = way_sem_create s mine m n v
way_plan s mine (SemDelete m) = way_sem_delete s mine m
way_plan s mine (SemSignal m) = way_signal s mine m
way_plan s mine (SemIsignal m) = way_signal s mine m
way_plan s mine (SemAcquire m d) = way_acquire s mine m d
way_plan s mine (SemPolling m) = way_polling s mine m
way_plan s mine (SemIpolling m) = way_polling s mine m
way_plan s mine (OnFlag f e) = way_flag s mine f e
way_plan s mine (ReadyTicks t) = way_ready_ticks s mine t
way_plan s mine (OnQueue q e) = way_queue s mine q e

pub way : (s : State) (c : Context) (a : Call) → Way s (kind a) (entry a) (planned s c a)
unfolding planned
way s c a = way_plan s (is_mine c a) a

-- the code of an answer has one digit
pub step_digit : (s : State) (c : Context) (a : Call) → So (one_digit (number (step s c a).code))
unfolding step
step_digit s c a = digit (way s c a)
