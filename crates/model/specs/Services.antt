-- The table of services: each by its name in document 000 or its own, the context that it belongs to, what its numbers are, and the call that they
-- make. A service's number is its row, from 1 on. The border, the line reader and the context test read this table.
use Rattle.std.specs.Prelude.{ℕ, zero, suc, Bool, true, false, List, [], ◌∷◌, ◌++◌, get_or}
use Prim.Native.String.{String}
use Rattle.model.specs.declared.Context.{Context}
use Rattle.model.specs.declared.Context.TheVariants.{T, I}
use Rattle.model.specs.declared.Call.{Call}
use Rattle.model.specs.declared.Call.TheVariants.{TaskCreate, TaskDelete, TaskActivate, TaskIactivate, TaskExit, TaskTerminate, TaskSuspend, TaskResume, TaskSleep, TaskWakeup, TaskIwakeup, TaskReleaseWait, TaskIreleaseWait, TaskChangePriority}
use Rattle.model.specs.declared.Call.TheVariants.{SysTsliceTicks, TickIntProcessing, SemCreate, SemDelete, SemSignal, SemIsignal, SemAcquire, SemPolling, SemIpolling, OnFlag, ReadyTicks, OnQueue}
use Rattle.model.specs.declared.FlagService.{FlagService}
use Rattle.model.specs.declared.FlagService.TheVariants.{Create, Delete, Set, Iset, Clear, Iclear, Wait, WaitPolling, Iwait}
use Rattle.model.specs.declared.QueueService.{QueueService}
use Rattle.model.specs.declared.QueueService.TheVariants.{Create as QueueCreate, Delete as QueueDelete, Send, SendPolling, IsendPolling, Receive, ReceivePolling, Ireceive}

-- what a number of a call is
pub data Field : Type 0 where
  the_task the_priority the_option the_level the_slice the_timeout : Field
  the_semaphore the_start the_maximum : Field
  the_flag the_attributes the_bits the_pattern the_mode : Field
  the_queue the_capacity the_element : Field

pub record Service : Type 0 where
  pub name : String
  -- the name is in document 000, so a list may hold it
  pub in_lists : Bool
  pub context : Context
  -- what its numbers a, b, c and d are, as far as it takes them
  pub fields : List Field
  -- the call that a, b, c and d make
  pub call : ℕ → ℕ → ℕ → ℕ → Call

abbrev a_service : String → Context → List Field → (ℕ → ℕ → ℕ → ℕ → Call) → Service
a_service t c fs f = record { name = t; in_lists = true; context = c; fields = fs; call = f }

abbrev own_service : String → Context → List Field → (ℕ → ℕ → ℕ → ℕ → Call) → Service
own_service t c fs f = record { name = t; in_lists = false; context = c; fields = fs; call = f }

-- those on tasks
unfoldable pub tasks : List Service
tasks =
    a_service "tn_task_create" T (the_task ∷ the_priority ∷ the_option ∷ []) (λ a b c d. TaskCreate a b c)
    ∷ a_service "tn_task_delete" T (the_task ∷ []) (λ a b c d. TaskDelete a)
    ∷ a_service "tn_task_activate" T (the_task ∷ []) (λ a b c d. TaskActivate a)
    ∷ a_service "tn_task_iactivate" I (the_task ∷ []) (λ a b c d. TaskIactivate a)
    ∷ a_service "tn_task_exit" T [] (λ a b c d. TaskExit)
    ∷ a_service "tn_task_terminate" T (the_task ∷ []) (λ a b c d. TaskTerminate a)
    ∷ a_service "tn_task_suspend" T (the_task ∷ []) (λ a b c d. TaskSuspend a)
    ∷ a_service "tn_task_resume" T (the_task ∷ []) (λ a b c d. TaskResume a)
    ∷ a_service "tn_task_sleep" T (the_timeout ∷ []) (λ a b c d. TaskSleep a)
    ∷ a_service "tn_task_wakeup" T (the_task ∷ []) (λ a b c d. TaskWakeup a)
    ∷ a_service "tn_task_iwakeup" I (the_task ∷ []) (λ a b c d. TaskIwakeup a)
    ∷ a_service "tn_task_release_wait" T (the_task ∷ []) (λ a b c d. TaskReleaseWait a)
    ∷ a_service "tn_task_irelease_wait" I (the_task ∷ []) (λ a b c d. TaskIreleaseWait a)
    ∷ a_service "tn_task_change_priority" T (the_task ∷ the_priority ∷ []) (λ a b c d. TaskChangePriority a b)
    ∷ []

-- time slices and the tick
unfoldable pub system : List Service
system =
    a_service "tn_sys_tslice_ticks" T (the_level ∷ the_slice ∷ []) (λ a b c d. SysTsliceTicks a b)
    ∷ a_service "tn_tick_int_processing" I [] (λ a b c d. TickIntProcessing)
    ∷ []

-- those on semaphores
unfoldable pub semaphores : List Service
semaphores =
    a_service "tn_sem_create" T (the_semaphore ∷ the_start ∷ the_maximum ∷ []) (λ a b c d. SemCreate a b c)
    ∷ a_service "tn_sem_delete" T (the_semaphore ∷ []) (λ a b c d. SemDelete a)
    ∷ a_service "tn_sem_signal" T (the_semaphore ∷ []) (λ a b c d. SemSignal a)
    ∷ a_service "tn_sem_isignal" I (the_semaphore ∷ []) (λ a b c d. SemIsignal a)
    ∷ a_service "tn_sem_acquire" T (the_semaphore ∷ the_timeout ∷ []) (λ a b c d. SemAcquire a b)
    ∷ a_service "tn_sem_polling" T (the_semaphore ∷ []) (λ a b c d. SemPolling a)
    ∷ a_service "tn_sem_ipolling" I (the_semaphore ∷ []) (λ a b c d. SemIpolling a)
    ∷ []

-- those on event flags
unfoldable pub flags : List Service
flags =
    a_service "tn_event_create" T (the_flag ∷ the_attributes ∷ the_bits ∷ []) (λ a b c d. OnFlag a (Create b c))
    ∷ a_service "tn_event_delete" T (the_flag ∷ []) (λ a b c d. OnFlag a Delete)
    ∷ a_service "tn_event_set" T (the_flag ∷ the_pattern ∷ []) (λ a b c d. OnFlag a (Set b))
    ∷ a_service "tn_event_iset" I (the_flag ∷ the_pattern ∷ []) (λ a b c d. OnFlag a (Iset b))
    ∷ a_service "tn_event_clear" T (the_flag ∷ the_pattern ∷ []) (λ a b c d. OnFlag a (Clear b))
    ∷ a_service "tn_event_iclear" I (the_flag ∷ the_pattern ∷ []) (λ a b c d. OnFlag a (Iclear b))
    ∷ a_service "tn_event_wait" T (the_flag ∷ the_pattern ∷ the_mode ∷ the_timeout ∷ []) (λ a b c d. OnFlag a (Wait b c d))
    ∷ a_service "tn_event_wait_polling" T (the_flag ∷ the_pattern ∷ the_mode ∷ []) (λ a b c d. OnFlag a (WaitPolling b c))
    ∷ a_service "tn_event_iwait" I (the_flag ∷ the_pattern ∷ the_mode ∷ []) (λ a b c d. OnFlag a (Iwait b c))
    ∷ []

-- those that document 000 does not have: a call of the library, in no list
unfoldable pub own : List Service
own = own_service "ready_ticks" T (the_task ∷ []) (λ a b c d. ReadyTicks a) ∷ []

-- those on data queues, behind all that had a number before
unfoldable pub queues : List Service
queues =
    a_service "tn_queue_create" T (the_queue ∷ the_capacity ∷ []) (λ a b c d. OnQueue a (QueueCreate b))
    ∷ a_service "tn_queue_delete" T (the_queue ∷ []) (λ a b c d. OnQueue a QueueDelete)
    ∷ a_service "tn_queue_send" T (the_queue ∷ the_element ∷ the_timeout ∷ []) (λ a b c d. OnQueue a (Send b c))
    ∷ a_service "tn_queue_send_polling" T (the_queue ∷ the_element ∷ []) (λ a b c d. OnQueue a (SendPolling b))
    ∷ a_service "tn_queue_isend_polling" I (the_queue ∷ the_element ∷ []) (λ a b c d. OnQueue a (IsendPolling b))
    ∷ a_service "tn_queue_receive" T (the_queue ∷ the_timeout ∷ []) (λ a b c d. OnQueue a (Receive b))
    ∷ a_service "tn_queue_receive_polling" T (the_queue ∷ []) (λ a b c d. OnQueue a ReceivePolling)
    ∷ a_service "tn_queue_ireceive" I (the_queue ∷ []) (λ a b c d. OnQueue a Ireceive)
    ∷ []

unfoldable pub services : List Service
services = tasks ++ (system ++ (semaphores ++ (flags ++ (own ++ queues))))

abbrev none : Service
none = own_service "" I [] (λ a b c d. TickIntProcessing)

-- by its number, from 1 on; a number that names no service stands for the tick
unfoldable pub service : ℕ → Service
service zero = none
service (suc k) = get_or services k none

-- ---- which service a call is of
abbrev pub flag_service_number : FlagService → ℕ
flag_service_number (Create a b) = 24
flag_service_number Delete = 25
flag_service_number (Set b) = 26
flag_service_number (Iset b) = 27
flag_service_number (Clear b) = 28
flag_service_number (Iclear b) = 29
flag_service_number (Wait p m d) = 30
flag_service_number (WaitPolling p m) = 31
flag_service_number (Iwait p m) = 32

abbrev pub queue_service_number : QueueService → ℕ
queue_service_number (QueueCreate c) = 34
queue_service_number QueueDelete = 35
queue_service_number (Send e d) = 36
queue_service_number (SendPolling e) = 37
queue_service_number (IsendPolling e) = 38
queue_service_number (Receive d) = 39
queue_service_number ReceivePolling = 40
queue_service_number Ireceive = 41

abbrev pub service_number : Call → ℕ
service_number (TaskCreate t p o) = 1
service_number (TaskDelete t) = 2
service_number (TaskActivate t) = 3
service_number (TaskIactivate t) = 4
service_number TaskExit = 5
service_number (TaskTerminate t) = 6
service_number (TaskSuspend t) = 7
service_number (TaskResume t) = 8
service_number (TaskSleep d) = 9
service_number (TaskWakeup t) = 10
service_number (TaskIwakeup t) = 11
service_number (TaskReleaseWait t) = 12
service_number (TaskIreleaseWait t) = 13
service_number (TaskChangePriority t p) = 14
service_number (SysTsliceTicks l v) = 15
service_number TickIntProcessing = 16
service_number (SemCreate m n v) = 17
service_number (SemDelete m) = 18
service_number (SemSignal m) = 19
service_number (SemIsignal m) = 20
service_number (SemAcquire m d) = 21
service_number (SemPolling m) = 22
service_number (SemIpolling m) = 23
service_number (OnFlag f e) = flag_service_number e
service_number (ReadyTicks t) = 33
service_number (OnQueue q e) = queue_service_number e

-- ---- the context test: a call comes from the context that its service belongs to
abbrev pub same : Context → Context → Bool
same T T = true
same T I = false
same I T = false
same I I = true

unfoldable pub is_mine : Context → Call → Bool
is_mine c a = same c (service (service_number a)).context
