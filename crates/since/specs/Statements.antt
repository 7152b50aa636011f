-- Request P10, 'when did it become ready?', over the transitions of demand 2: what it is to enter a level, seen from outside, and that
-- `ready_ticks` counts the ticks since. It is said of a kernel k, and proved of `step` and of the checked `call` (proofs/Called, Wrapped).
use Rattle.std.specs.Prelude.{◌≡◌, Bool, not, ◌&&◌, List, [], ◌∷◌, ℕ, ◌+◌, ◌≤◌, ◌<◌, ◌^◌, T as So}
use Rattle.model.specs.declared.State.{State}
use Rattle.model.specs.declared.Answer.{Answer}
use Rattle.model.specs.declared.Context.{Context}
use Rattle.model.specs.declared.Context.TheVariants.{T}
use Rattle.model.specs.declared.Call.{Call}
use Rattle.model.specs.declared.Call.TheVariants.{ReadyTicks}
use Rattle.model.specs.declared.Code.TheVariants.{NoErr}
use Rattle.model.specs.Task.{is_dormant, level_of}
use Rattle.model.specs.State.{task, time, running}
use Rattle.model.specs.Test.{one}
use Rattle.model.specs.Sound.{Sound}
use Rattle.ways.specs.Kind.{Kind, tick, exit, other, terminate, forced_release, set_slice, release, deletion, kind, is_tick}
use Rattle.turns.specs.Tally.{Kernel, reached_by}
use Rattle.turns.specs.Statements.{next, is_accepted, IsFirst, Each}

-- ---- entries
-- the level of t in a state, 0 for none
abbrev pub level_in : State → ℕ → ℕ
level_in s t = level_of (task s t)

-- the task that an accepted call of this kind ends, or 0: who runs exits, and another is terminated
abbrev pub ended_by : State → Kind → ℕ
ended_by s tick = 0
ended_by s exit = running s
ended_by s other = 0
ended_by s (terminate t) = t
ended_by s (forced_release t) = 0
ended_by s (set_slice l) = 0
ended_by s (release m) = 0
ended_by s (deletion m) = 0

-- A call of kind j, accepted or not, makes s' of s, and makes task t enter a level. No constructor asks for the mark that the record keeps.
pub data Entry (accepted : Bool) (j : Kind) (t : ℕ) (s s' : State) : Type 0 where
  -- it is in a level, and was in another or in none: by activation, creation with option 1, resume, the end of a wait, another priority
  arrives : 1 ≤ level_in s' t → (level_in s t ≡ level_in s' t → ⊥) → Entry accepted j t s s'
  -- it exits or is terminated, and a counted activation makes it runnable at once
  restarts : So accepted → ended_by s j ≡ t → 1 ≤ level_in s' t → Entry accepted j t s s'
  -- a rotation moves it: it was first of its level, is still of that level, and is no longer first
  rotates : 1 ≤ level_in s t → level_in s' t ≡ level_in s t → IsFirst s (level_in s t) t → (IsFirst s' (level_in s t) t → ⊥) → Entry accepted j t s s'

abbrev pub Enters : Kernel → ℕ → State → Context × Call → Type 0
Enters k t s a = Entry (is_accepted k s a) (kind a.1) t s (next k s a)

abbrev pub NoEntry : Kernel → ℕ → State → Context × Call → Type 0
NoEntry k t s a = Enters k t s a → ⊥

-- ---- ticks
-- how many of the calls are ticks that were accepted
unfoldable pub ticks : Kernel → State → List (Context × Call) → ℕ
ticks k s [] = 0
ticks k s (a ∷ rest) = one (is_accepted k s a && is_tick (kind a.1)) + ticks k (next k s a) rest

-- ---- the answer
abbrev pub asked : Kernel → State → ℕ → Answer
asked k s t = k s T (ReadyTicks t)

-- A run: task t enters its level by one call, the entry; then come calls at none of which it enters again, with n accepted ticks among them, and
-- it has not ended. (The time is a 32-bit number in every state that a caller can hand over; the definitions do not bound it.)
pub record Since (k : Kernel) (t n : ℕ) : Type 0 where
  pub before : State
  pub entry : Context × Call
  pub calls : List (Context × Call)
  pub sound : Sound before
  pub bounded : time before < 2 ^ 32
  pub enters : Enters k t before entry
  pub quiet : Each k (NoEntry k t) (next k before entry) calls
  pub counted : ticks k (next k before entry) calls ≡ n
  pub lives : So (not (is_dormant (task (reached_by k (next k before entry) calls) t)))

-- the state in which it is asked
abbrev pub after : {k : Kernel} {t n : ℕ} → Since k t n → State
after {k} h = reached_by k (next k h.before h.entry) h.calls

-- after such a run the answer is n, while n is below 4,294,967,296
abbrev pub CountsTheTicks : Kernel → Type 0
CountsTheTicks k = (t n : ℕ) (h : Since k t n) → n < 2 ^ 32 → ((asked k (after h) t).code ≡ NoErr) × ((asked k (after h) t).value ≡ n)

-- and that premise is needed: there are 4,294,967,296 ticks after which the answer is 0 again
pub record Wraps (k : Kernel) : Type 0 where
  pub task : ℕ
  pub run : Since k task 4294967296
  pub again : (asked k (after run) task).value ≡ 0
