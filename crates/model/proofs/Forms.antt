-- An interrupt form does from an interrupt what its task form does from a task, in every state: the same answer and the same next state.
-- So what the bench tables show of a task form holds of both.
use mathlib.Core.Path.{◌≡◌, refl}
use Prim.Native.Nat.{ℕ}
use Rattle.model.specs.declared.State.{State}
use Rattle.model.specs.declared.Context.TheVariants.{T, I}
use Rattle.model.specs.declared.Call.{Call}
use Rattle.model.specs.declared.Call.TheVariants.{TaskActivate, TaskIactivate, TaskWakeup, TaskIwakeup, TaskReleaseWait, TaskIreleaseWait, SemSignal, SemIsignal, SemPolling, SemIpolling, OnFlag, OnQueue}
use Rattle.model.specs.declared.FlagService.TheVariants.{Set, Iset, Clear, Iclear, WaitPolling, Iwait}
use Rattle.model.specs.declared.QueueService.TheVariants.{SendPolling, IsendPolling, ReceivePolling, Ireceive}
use Rattle.model.specs.Services
use Rattle.model.specs.Call as Calls
use Rattle.model.specs.Call.{call}
use Rattle.model.proofs.Words.{table}

abbrev pub Same : Call → Call → Type 0
Same i t = (s : State) → call s I i ≡ call s T t

opened : ℕ
unfolding Calls.call Calls.step Calls.planned Calls.plan Calls.flag_plan Calls.queue_plan Services.is_mine table
opened = 0

pub activates : (t : ℕ) → Same (TaskIactivate t) (TaskActivate t)
unfolding opened
activates t s = refl

pub wakes : (t : ℕ) → Same (TaskIwakeup t) (TaskWakeup t)
unfolding opened
wakes t s = refl

pub releases : (t : ℕ) → Same (TaskIreleaseWait t) (TaskReleaseWait t)
unfolding opened
releases t s = refl

pub signals : (m : ℕ) → Same (SemIsignal m) (SemSignal m)
unfolding opened
signals m s = refl

pub polls : (m : ℕ) → Same (SemIpolling m) (SemPolling m)
unfolding opened
polls m s = refl

pub sets : (f b : ℕ) → Same (OnFlag f (Iset b)) (OnFlag f (Set b))
unfolding opened
sets f b s = refl

pub clears : (f b : ℕ) → Same (OnFlag f (Iclear b)) (OnFlag f (Clear b))
unfolding opened
clears f b s = refl

pub polls_a_flag : (f p m : ℕ) → Same (OnFlag f (Iwait p m)) (OnFlag f (WaitPolling p m))
unfolding opened
polls_a_flag f p m s = refl

pub polls_to_send : (q e : ℕ) → Same (OnQueue q (IsendPolling e)) (OnQueue q (SendPolling e))
unfolding opened
polls_to_send q e s = refl

pub polls_to_receive : (q : ℕ) → Same (OnQueue q Ireceive) (OnQueue q ReceivePolling)
unfolding opened
polls_to_receive q s = refl
