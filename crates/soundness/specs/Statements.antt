-- What is proved of every call in every state: sound states stay sound, refused calls change nothing, and the first of the best level runs;
-- and that a slice that is set clears the charges of its level.
-- They speak of `Sound`, `step` and `call` of model, and are proved in proofs/Soundness.
use Rattle.std.specs.Prelude.{◌≡◌, true, List, [], ◌∷◌, ℕ, ◌≤◌, ◌<◌, T as So}
use Rattle.model.specs.declared.State.{State}
use Rattle.model.specs.declared.Context.{Context}
use Rattle.model.specs.declared.Call.{Call}
use Rattle.model.specs.Row.{first_of}
use Rattle.model.specs.State.{fresh, task, level, running, sliced}
use Rattle.model.specs.Task.{level_of}
use Rattle.model.specs.Code.{is_refusal}
use Rattle.model.specs.Call.{step, call}
use Rattle.model.specs.Test.{zeros}
use Rattle.model.specs.Sound.{Sound}

-- ---- sound states
abbrev pub FreshIsSound : Type 0
FreshIsSound = Sound fresh

abbrev pub SoundStaysSound : Type 0
SoundStaysSound = (s : State) (c : Context) (a : Call) → Sound s → Sound (step s c a).state

abbrev pub CallStaysSound : Type 0
CallStaysSound = (s : State) (c : Context) (a : Call) → Sound s → Sound (call s c a).state

-- the state that a list of calls reaches, each from its context
unfoldable pub reached : State → List (Context × Call) → State
reached s [] = s
reached s (a ∷ rest) = reached (step s a.0 a.1).state rest

abbrev pub ReachedIsSound : Type 0
ReachedIsSound = (s : State) (calls : List (Context × Call)) → Sound s → Sound (reached s calls)

-- ---- refusals, in any state, sound or not
abbrev pub RefusedIsUnchanged : Type 0
RefusedIsUnchanged = (s : State) (c : Context) (a : Call) → is_refusal (step s c a).code ≡ true → (step s c a).state ≡ s

abbrev pub RefusedCallIsUnchanged : Type 0
RefusedCallIsUnchanged = (s : State) (c : Context) (a : Call) → is_refusal (call s c a).code ≡ true → (call s c a).state ≡ s

-- ---- who runs
-- level l lists nobody: all its places hold 0
abbrev pub Empty : State → ℕ → Type 0
Empty s l = So (zeros (level s l))

-- 0 runs where every level is empty; else t runs, which stands first in a level, and every better level is empty
pub data Runs (s : State) : ℕ → Type 0 where
  nobody : ((l : ℕ) → 1 ≤ l → l ≤ 30 → Empty s l) → Runs s 0
  stands : (l t : ℕ) → 1 ≤ l → l ≤ 30 → 1 ≤ t → first_of s.levels l ≡ t → ((i : ℕ) → 1 ≤ i → i < l → Empty s i) → Runs s t

abbrev pub RunsFirst : Type 0
RunsFirst = (s : State) → Sound s → Runs s (running s)

-- the task that an answer names runs in the state that it returns
abbrev pub AnswerRunsFirst : Type 0
AnswerRunsFirst = (s : State) (c : Context) (a : Call) → Sound s → Runs (step s c a).state (step s c a).running

-- ---- charges
-- a slice that is set leaves no task of its level a charge, although only the first's is cleared
abbrev pub SliceClears : Type 0
SliceClears = (s : State) (l v t : ℕ) → Sound s → level_of (task (sliced l v s) t) ≡ l → (task (sliced l v s) t).charge ≡ 0
