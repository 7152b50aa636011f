-- What demand 3 asks of a call: whether it is a tick, ends or releases a task, sets a slice, releases a semaphore or deletes it.
-- It reads the calls of model alone; whether a call was accepted is asked in Statements of turns.
use Rattle.std.specs.Prelude.{Bool, true, false, ℕ, eqb}
use Rattle.model.specs.declared.Call.{Call}
use Rattle.model.specs.declared.Call.TheVariants.{TaskCreate, TaskDelete, TaskActivate, TaskIactivate, TaskExit, TaskTerminate, TaskSuspend, TaskResume, TaskSleep, TaskWakeup, TaskIwakeup, TaskReleaseWait, TaskIreleaseWait, TaskChangePriority}
use Rattle.model.specs.declared.Call.TheVariants.{SysTsliceTicks, TickIntProcessing, SemCreate, SemDelete, SemSignal, SemIsignal, SemAcquire, SemPolling, SemIpolling, OnFlag, ReadyTicks, OnQueue}

pub data Kind : Type 0 where
  tick exit other : Kind
  terminate : ℕ → Kind  -- of a task
  forced_release : ℕ → Kind  -- of a task
  set_slice : ℕ → Kind  -- of a level
  release : ℕ → Kind  -- of a semaphore
  deletion : ℕ → Kind  -- of a semaphore

abbrev pub kind : Call → Kind
kind (TaskCreate t p o) = other
kind (TaskDelete t) = other
kind (TaskActivate t) = other
kind (TaskIactivate t) = other
kind TaskExit = exit
kind (TaskTerminate t) = terminate t
kind (TaskSuspend t) = other
kind (TaskResume t) = other
kind (TaskSleep d) = other
kind (TaskWakeup t) = other
kind (TaskIwakeup t) = other
kind (TaskReleaseWait t) = forced_release t
kind (TaskIreleaseWait t) = forced_release t
kind (TaskChangePriority t p) = other
kind (SysTsliceTicks l v) = set_slice l
kind TickIntProcessing = tick
kind (SemCreate m n v) = other
kind (SemDelete m) = deletion m
kind (SemSignal m) = release m
kind (SemIsignal m) = release m
kind (SemAcquire m d) = other
kind (SemPolling m) = other
kind (SemIpolling m) = other
kind (OnFlag f e) = other
kind (ReadyTicks t) = other
kind (OnQueue q e) = other

abbrev pub is_tick : Kind → Bool
is_tick tick = true
is_tick exit = false
is_tick other = false
is_tick (terminate t) = false
is_tick (forced_release t) = false
is_tick (set_slice l) = false
is_tick (release m) = false
is_tick (deletion m) = false

abbrev pub is_release_of : ℕ → Kind → Bool
is_release_of m tick = false
is_release_of m exit = false
is_release_of m other = false
is_release_of m (terminate t) = false
is_release_of m (forced_release t) = false
is_release_of m (set_slice l) = false
is_release_of m (release n) = eqb n m
is_release_of m (deletion n) = false
