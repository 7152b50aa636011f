-- The theorems of specs/Statements: sound states stay sound, refused calls change nothing, the first of the best level runs, and a slice clears.
-- They go by the ways of ways (Accepted), the fresh state (Fresh), the search for the best level (Running) and the charges (Charging).
use mathlib.Core.Path.{◌≡◌, refl}
use mathlib.Core.Bool.{Bool, true, false, cond}
use mathlib.Core.List.{[], ◌∷◌}
use Prim.Native.Nat.{ℕ}
use native.Mathlib.Omega.{arith}
use lib.Dec.{T_not as So-not}
use Rattle.model.specs.declared.State.{State}
use Rattle.model.specs.declared.Plan.{Plan}
use Rattle.model.specs.declared.Answer.{Answer}
use Rattle.model.specs.declared.Code.TheVariants.{Unsound}
use Rattle.model.specs.Row.{first_of}
use Rattle.model.specs.State.{running, sliced}
use Rattle.model.specs.Code.{is_refusal}
use Rattle.model.specs.Effect.{carried}
use Rattle.model.specs.Call.{step, call}
use Rattle.model.specs.Test.{is_sound}
use Rattle.model.specs.Sound.{Sound}
use Rattle.ways.specs.Kind.{Kind}
use Rattle.ways.specs.Entry.{Entry}
use Rattle.ways.proofs.Done.{Way, refuses, accepts}
use Rattle.ways.proofs.Ways.{way}
use Rattle.soundness.specs.Statements
use Rattle.soundness.specs.Statements.{FreshIsSound, SoundStaysSound, CallStaysSound, reached, ReachedIsSound, RefusedIsUnchanged, RefusedCallIsUnchanged, Runs, RunsFirst, AnswerRunsFirst, SliceClears}
use Rattle.soundness.proofs.Running.{Best, nobody, stands, best, row_empty}
use Rattle.soundness.proofs.Accepted.{sound_done}
use Rattle.soundness.proofs.Fresh.{sound_fresh}
use Rattle.soundness.proofs.Charging.{level_cleared}

-- ---- sound states
pub fresh_is_sound : FreshIsSound
fresh_is_sound = sound_fresh

-- a plan keeps a sound state sound, whichever way it goes
way_sound : {s : State} {j : Kind} {i : Entry} {p : Plan} → Sound s → Way s j i p → Sound (carried s p.effect)
unfolding carried
way_sound k (refuses c n d) = k
way_sound k (accepts c v e n d done) = sound_done k done

pub sound_stays_sound : SoundStaysSound
unfolding step
sound_stays_sound s c a k = way_sound k (way s c a)

-- the answer of a state that is not sound
abbrev unsound : State → Answer
unsound s = record { code = Unsound; running = 0; value = 0; state = s }

pub call_stays_sound : CallStaysSound
unfolding call
call_stays_sound s c a k = go (is_sound s)
  where
    go : (b : Bool) → Sound (cond b (step s c a) (unsound s)).state
    go true = sound_stays_sound s c a k
    go false = k

pub reached_is_sound : ReachedIsSound
unfolding reached
reached_is_sound s [] k = k
reached_is_sound s (a ∷ rest) k = reached_is_sound (step s a.0 a.1).state rest (sound_stays_sound s a.0 a.1 k)

-- ---- refusals
way_unchanged : {s : State} {j : Kind} {i : Entry} {p : Plan} → Way s j i p → is_refusal p.code ≡ true → carried s p.effect ≡ s
unfolding carried
way_unchanged (refuses c n d) e = refl
way_unchanged (accepts c v x n d done) e = absurd (So-not (is_refusal c) n (rw e tt))

pub refused_is_unchanged : RefusedIsUnchanged
unfolding step
refused_is_unchanged s c a e = way_unchanged (way s c a) e

pub refused_call_is_unchanged : RefusedCallIsUnchanged
unfolding call
refused_call_is_unchanged s c a e = go (is_sound s) e
  where
    go : (b : Bool) → is_refusal (cond b (step s c a) (unsound s)).code ≡ true → (cond b (step s c a) (unsound s)).state ≡ s
    go true e = refused_is_unchanged s c a e
    go false e = refl

-- ---- who runs
pub runs_first : RunsFirst
unfolding running
runs_first s k = go (best 30 1 s.levels)
  where
    go : {t : ℕ} → Best s.levels 30 1 t → Runs s t
    go (nobody none) = Statements.nobody (λ l low top. row_empty s.levels l (k.levels.ends l (omega arith)) (none l low (omega arith)))
    go (stands i low top some better) =
        Statements.stands i (first_of s.levels i) low (omega arith) (omega arith) refl
        (λ j first less. row_empty s.levels j (k.levels.ends j (omega arith)) (better j first less))

pub answer_runs_first : AnswerRunsFirst
unfolding step
answer_runs_first s c a k = runs_first (step s c a).state (sound_stays_sound s c a k)

-- ---- charges
pub slice_clears : SliceClears
unfolding sliced
slice_clears s l v t k e = level_cleared s l v k t e
