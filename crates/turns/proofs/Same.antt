-- A kernel that answers as `step` does in every sound state reaches the same states, so what is said of one's answers holds of the other's.
-- It rests on sound states staying sound; the checked `call` is such a kernel (tested).
use mathlib.Core.Path.{◌≡◌, refl, sym, subst}
use mathlib.Core.List.{List, [], ◌∷◌}
use Rattle.model.specs.declared.State.{State}
use Rattle.model.specs.declared.Answer.{Answer}
use Rattle.model.specs.declared.Context.{Context}
use Rattle.model.specs.declared.Call.{Call}
use Rattle.model.specs.Call.{step}
use Rattle.model.specs.Sound.{Sound}
use Rattle.soundness.proofs.Soundness.{sound_stays_sound}
use Rattle.turns.specs.Tally.{Kernel, reached_by}
use Rattle.turns.specs.Statements.{next, Each, none, each}

abbrev pub AnswersAsStep : Kernel → Type 0
AnswersAsStep k = (s : State) (c : Context) (a : Call) → Sound s → k s c a ≡ step s c a

pub sound_next : (s : State) (a : Context × Call) → Sound s → Sound (next step s a)
sound_next s a h = sound_stays_sound s a.0 a.1 h

pub sound_reached : (calls : List (Context × Call)) (s : State) → Sound s → Sound (reached_by step s calls)
unfolding reached_by
sound_reached [] s h = h
sound_reached (a ∷ rest) s h = sound_reached rest (next step s a) (sound_next s a h)

module _ (k : Kernel) (same : AnswersAsStep k) where
  -- what holds of one's answer to a call holds of the other's
  pub of_k : (P : Answer → Type 0) (s : State) (a : Context × Call) → Sound s → P (step s a.0 a.1) → P (k s a.0 a.1)
  of_k P s a h = subst P (sym (same s a.0 a.1 h))

  pub of_step : (P : Answer → Type 0) (s : State) (a : Context × Call) → Sound s → P (k s a.0 a.1) → P (step s a.0 a.1)
  of_step P s a h = subst P (same s a.0 a.1 h)

  -- what holds of each call of k holds of each call of `step`
  pub each_too : (P Q : State → Context × Call → Type 0) → ((s : State) (a : Context × Call) → Sound s → P s a → Q s a)
      → (calls : List (Context × Call)) (s : State) → Sound s → Each k P s calls → Each step Q s calls
  each_too P Q f [] s h none = none
  each_too P Q f (a ∷ rest) s h (each p ps) = each (f s a h p) (each_too P Q f rest (next step s a) (sound_next s a h) (of_step (λ y. Each k P y.state rest) s a h ps))

  pub reached_same : (calls : List (Context × Call)) (s : State) → Sound s → reached_by k s calls ≡ reached_by step s calls
  unfolding reached_by
  reached_same [] s h = refl
  reached_same (a ∷ rest) s h = rw (same s a.0 a.1 h) (reached_same rest (next step s a) (sound_next s a h))
