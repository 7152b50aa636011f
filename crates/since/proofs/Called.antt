-- The statement of specs/Statements for a kernel that answers as `step` does in every sound state, and so for the checked `call`.
-- A run of the one is a run of the other (Same of turns), and Exact has it of `step`.
use mathlib.Core.Path.{◌≡◌, refl, sym, ap, ◌∙◌, subst}
use mathlib.Core.Bool.{not, ◌&&◌}
use mathlib.Core.List.{List, [], ◌∷◌}
use Prim.Native.Nat.{ℕ, ◌+◌, ◌%◌, ◌^◌}
use native.Mathlib.Nat.{mod-eq_of_lt}
use native.Mathlib.Omega.{arith}
use lib.Dec.{T as So}
use Rattle.model.specs.declared.State.{State}
use Rattle.model.specs.declared.Answer.{Answer}
use Rattle.model.specs.declared.Context.{Context}
use Rattle.model.specs.declared.Context.TheVariants.{T}
use Rattle.model.specs.declared.Call.{Call}
use Rattle.model.specs.declared.Call.TheVariants.{ReadyTicks}
use Rattle.model.specs.declared.Code.TheVariants.{NoErr}
use Rattle.model.specs.Task.{is_dormant}
use Rattle.model.specs.State.{task}
use Rattle.model.specs.Code.{is_refusal}
use Rattle.model.specs.Call.{step, call}
use Rattle.model.specs.Test.{one}
use Rattle.model.specs.Sound.{Sound}
use Rattle.tested.proofs.Checked.{call_is_step}
use Rattle.ways.specs.Kind.{kind, is_tick}
use Rattle.turns.specs.Tally.{Kernel, reached_by}
use Rattle.turns.specs.Statements.{next, Each}
use Rattle.turns.proofs.Same.{AnswersAsStep, sound_next, sound_reached, of_k, of_step, each_too, reached_same}
use Rattle.since.specs.Statements.{Entry, NoEntry, ticks, asked, Since, after, CountsTheTicks}
use Rattle.since.proofs.Exact.{counts_mod}

module _ (k : Kernel) (same : AnswersAsStep k) where
  -- an entry by an answer
  abbrev EnteredBy : ℕ → State → Context × Call → Answer → Type 0
  EnteredBy t s a r = Entry (not (is_refusal r.code)) (kind a.1) t s r.state

  ticks_same : (calls : List (Context × Call)) (s : State) → Sound s → ticks k s calls ≡ ticks step s calls
  unfolding ticks
  ticks_same [] s h = refl
  ticks_same (a ∷ rest) s h =
      of_k k same (λ y. one (not (is_refusal y.code) && is_tick (kind a.1)) + ticks k y.state rest ≡ ticks step s (a ∷ rest)) s a h
      (ap (λ n. one (not (is_refusal (step s a.0 a.1).code) && is_tick (kind a.1)) + n) (ticks_same rest (next step s a) (sound_next s a h)))

  module _ {t n : ℕ} (h : Since k t n) where
    abbrev s : State
    s = h.before

    abbrev s₁ : State
    s₁ = next step s h.entry

    k₁ : Sound s₁
    k₁ = sound_next s h.entry h.sound

    -- from the answer to the entry on, k and `step` are the same
    from : (P : State → Type 0) → P (next k s h.entry) → P s₁
    from P p = of_step k same (λ r. P r.state) s h.entry h.sound p

    ends : after h ≡ reached_by step s₁ h.calls
    ends = ap (λ r. reached_by k r.state h.calls) (same s h.entry.0 h.entry.1 h.sound) ∙ reached_same k same h.calls s₁ k₁

    by_step : Since step t n
    by_step = record {
      before = s;
      entry = h.entry;
      calls = h.calls;
      sound = h.sound;
      bounded = h.bounded;
      enters = of_step k same (EnteredBy t s h.entry) s h.entry h.sound h.enters;
      quiet = each_too k same (NoEntry k t) (NoEntry step t) (λ z a g no yes. no (of_k k same (EnteredBy t z a) z a g yes)) h.calls s₁ k₁ (from (λ z. Each k (NoEntry k t) z h.calls) h.quiet);
      counted = sym (ticks_same h.calls s₁ k₁) ∙ from (λ z. ticks k z h.calls ≡ n) h.counted;
      lives = subst (λ z. So (not (is_dormant (task z t)))) ends h.lives;
    }

    answers : asked k (after h) t ≡ asked step (after by_step) t
    unfolding by_step
    answers = ap (λ z. asked k z t) ends ∙ same (reached_by step s₁ h.calls) T (ReadyTicks t) (sound_reached h.calls s₁ k₁)

  pub counts_mod_by : (t n : ℕ) (h : Since k t n) → ((asked k (after h) t).code ≡ NoErr) × ((asked k (after h) t).value ≡ n % 2 ^ 32)
  counts_mod_by t n h =
      let a = counts_mod t n (by_step h) in
      (ap (λ (r : Answer). r.code) (answers h) ∙ a.0, ap (λ (r : Answer). r.value) (answers h) ∙ a.1)

  -- below 4,294,967,296 ticks it is all of them
  counts_by : CountsTheTicks k
  counts_by t n h few = let a = counts_mod_by t n h in (a.0, a.1 ∙ mod-eq_of_lt (omega (arith, few)))

-- ---- of the step, and of the checked call
pub counts_the_ticks : CountsTheTicks step
counts_the_ticks = counts_by step (λ s c a h. refl)

pub counts_the_ticks_called : CountsTheTicks call
counts_the_ticks_called = counts_by call call_is_step
