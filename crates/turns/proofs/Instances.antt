-- Both bounds at concrete runs: they are met with equality, and the second fails without any one of its provisos.
-- Each run is computed over the definitions of model; what the tests of Seen refuse, the statements refuse.
use mathlib.Core.Path.{◌≡◌, refl}
use mathlib.Core.List.{List, [], ◌∷◌}
use Prim.Native.Nat.{ℕ, ◌*◌, ◌-◌, ◌≤◌}
use lib.Dec.{T as So, lit≤}
use lib.IntN.{pos}
use Rattle.model.specs.declared.State.{State}
use Rattle.model.specs.declared.Context.{Context}
use Rattle.model.specs.declared.Call.{Call}
use Rattle.model.specs.declared.Call.TheVariants.{TaskCreate, TaskActivate, TaskTerminate, TaskSuspend, TaskResume, TaskChangePriority, SysTsliceTicks, SemCreate, SemIsignal, SemAcquire}
use Rattle.model.specs.Task.{is_runnable}
use Rattle.model.specs.State.{fresh, task, slice, level}
use Rattle.model.specs.Call.{step}
use Rattle.model.specs.Sound.{Sound}
use Rattle.model.proofs.Words.{opened}
use Rattle.soundness.specs.Statements.{reached}
use Rattle.soundness.proofs.Soundness.{fresh_is_sound, reached_is_sound}
use Rattle.ways.specs.Kind.{terminate, set_slice}
use Rattle.turns.specs.Statements.{place_in, Ended, HoldsBy, charges, Each, none, each, FirstBy, StaysRunnable, NotTerminated, KeepsPriority, SliceNotSet}
use Rattle.turns.proofs.Words.{by_task, by_interrupt, a_tick}
use Rattle.turns.proofs.Served.{waiters_are_served}
use Rattle.turns.proofs.Turns.{turns_come_round}
use Rattle.turns.proofs.Seen.{seen_first, seen_first_lem, seen_over, seen_over_lem, none_is, none_does}

-- ---- A: tasks 1 and 2 wait on semaphore 1, in that order
unfoldable pub waiting : List (Context × Call)
waiting = by_task (SemCreate 1 0 1) ∷ by_task (TaskCreate 1 5 1) ∷ by_task (SemAcquire 1 9) ∷ by_task (TaskCreate 2 5 1) ∷ by_task (SemAcquire 1 9) ∷ []

unfoldable pub two : State
two = reached fresh waiting

two_sound : Sound two
unfolding two
two_sound = reached_is_sound fresh waiting fresh_is_sound

unfoldable pub signals : List (Context × Call)
signals = by_interrupt (SemIsignal 1) ∷ a_tick ∷ by_interrupt (SemIsignal 1) ∷ []

-- 2 holds its resource by the second release
pub second : HoldsBy step 1 2 2 two signals
unfolding opened reached two waiting signals
second = waiters_are_served two signals 1 2 2 two_sound (lit≤ tt) (lit≤ tt) refl refl

-- and not by the first
pub not_before : HoldsBy step 1 2 1 two signals → ⊥
unfolding opened reached two waiting signals seen_over
not_before d = seen_over_lem (lit≤ tt) d

-- it is a release that ends its wait, with 0
pub served_second : Ended (reached two signals) 2 (pos 0)
unfolding opened reached two waiting signals
served_second = record { over = refl; code = refl }

-- ---- B: tasks 1, 2 and 3 are the runnable tasks of level 6, in that order; its slice is 2, and none has a charge
unfoldable pub runnable : List (Context × Call)
runnable = by_task (SysTsliceTicks 6 2) ∷ by_task (TaskCreate 1 6 1) ∷ by_task (TaskCreate 2 6 1) ∷ by_task (TaskCreate 3 6 1) ∷ []

unfoldable pub three : State
three = reached fresh runnable

three_sound : Sound three
unfolding three
three_sound = reached_is_sound fresh runnable fresh_is_sound

unfoldable pub ticks : List (Context × Call)
ticks = a_tick ∷ a_tick ∷ a_tick ∷ a_tick ∷ []

-- 3, at place 3, is first by the fourth charged tick
pub third : FirstBy step 6 3 4 three ticks
unfolding opened reached three runnable ticks charges none_is
third = turns_come_round three ticks 6 3 3 2 three_sound tt refl refl refl (lit≤ tt)
    (each tt (each tt (each tt (each tt none)))) (none_does (terminate 3) ticks three tt) (each refl (each refl (each refl (each refl none)))) (none_does (set_slice 6) ticks three tt) (lit≤ tt)

pub charge_none : (task three 1).charge ≡ 0
unfolding opened reached three runnable
charge_none = refl

-- and not by the third
pub not_by_third : FirstBy step 6 3 3 three ticks → ⊥
unfolding opened reached three runnable ticks seen_first
not_by_third d = seen_first_lem d

-- ---- each proviso is needed: with any three of them alone the statement is false
abbrev pub TurnsGiven : (P Q R : ℕ → ℕ → State → Context × Call → Type 0) → Type 0
TurnsGiven P Q R = (s : State) (calls : List (Context × Call)) (l t q v : ℕ)
    → Sound s
    → So (is_runnable (task s t)) → (task s t).priority ≡ l → place_in (level s l) t ≡ q
    → slice s l ≡ v → 1 ≤ v
    → Each step (P t l) s calls
    → Each step (Q t l) s calls
    → Each step (R t l) s calls
    → (q - 1) * v ≤ charges step s calls l
    → FirstBy step l t ((q - 1) * v) s calls

abbrev Runnable : ℕ → ℕ → State → Context × Call → Type 0
Runnable t l = StaysRunnable step t

abbrev Alive : ℕ → ℕ → State → Context × Call → Type 0
Alive t l = NotTerminated step t

abbrev Prior : ℕ → ℕ → State → Context × Call → Type 0
Prior t l = KeepsPriority step t l

abbrev Unset : ℕ → ℕ → State → Context × Call → Type 0
Unset t l = SliceNotSet step l

-- 2, at place 2, would be first by the second charged tick; suspended and resumed, it goes last
suspends : List (Context × Call)
suspends = by_task (TaskSuspend 2) ∷ by_task (TaskResume 2) ∷ a_tick ∷ a_tick ∷ []

pub needs_runnable : TurnsGiven Alive Prior Unset → ⊥
unfolding opened reached three runnable suspends charges none_is seen_first
needs_runnable claim = seen_first_lem (claim three suspends 6 2 2 2 three_sound tt refl refl refl (lit≤ tt)
    (none_does (terminate 2) suspends three tt) (each refl (each refl (each refl (each refl none)))) (none_does (set_slice 6) suspends three tt) (lit≤ tt))

-- terminated with an activation counted, it is restarted at once and goes last
terminates : List (Context × Call)
terminates = by_task (TaskActivate 2) ∷ by_task (TaskTerminate 2) ∷ a_tick ∷ a_tick ∷ []

pub needs_alive : TurnsGiven Runnable Prior Unset → ⊥
unfolding opened reached three runnable terminates charges none_is seen_first
needs_alive claim = seen_first_lem (claim three terminates 6 2 2 2 three_sound tt refl refl refl (lit≤ tt)
    (each tt (each tt (each tt (each tt none)))) (each refl (each refl (each refl (each refl none)))) (none_does (set_slice 6) terminates three tt) (lit≤ tt))

-- its priority changed and changed back, it goes last
reorders : List (Context × Call)
reorders = by_task (TaskChangePriority 2 7) ∷ by_task (TaskChangePriority 2 6) ∷ a_tick ∷ a_tick ∷ []

pub needs_priority : TurnsGiven Runnable Alive Unset → ⊥
unfolding opened reached three runnable reorders charges none_is seen_first
needs_priority claim = seen_first_lem (claim three reorders 6 2 2 2 three_sound tt refl refl refl (lit≤ tt)
    (each tt (each tt (each tt (each tt none)))) (none_does (terminate 2) reorders three tt) (none_does (set_slice 6) reorders three tt) (lit≤ tt))

-- the slice set again after every tick, no charge reaches it
resets : List (Context × Call)
resets = a_tick ∷ by_task (SysTsliceTicks 6 2) ∷ a_tick ∷ by_task (SysTsliceTicks 6 2) ∷ []

pub needs_slice : TurnsGiven Runnable Alive Prior → ⊥
unfolding opened reached three runnable resets charges none_is seen_first
needs_slice claim = seen_first_lem (claim three resets 6 2 2 2 three_sound tt refl refl refl (lit≤ tt)
    (each tt (each tt (each tt (each tt none)))) (none_does (terminate 2) resets three tt) (each refl (each refl (each refl (each refl none)))) (lit≤ tt))
