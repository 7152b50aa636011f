-- The premise of CountsTheTicks is needed: one task, alone in its level, and 4,294,967,296 ticks, after which the answer is 0 again.
-- The tick of that state is computed once, for any time; the run is then n such ticks, for any n.
use mathlib.Core.Path.{◌≡◌, refl, sym, ap, ◌∙◌, subst}
use mathlib.Core.Bool.{true, not, ◌&&◌}
use mathlib.Core.List.{List, [], ◌∷◌}
use Prim.Native.Nat.{ℕ, zero, suc, ◌+◌, ◌%◌, ◌^◌}
use native.Mathlib.Omega.{arith}
use lib.Dec.{T as So, lit≤}
use Rattle.model.specs.declared.State.{State}
use Rattle.model.specs.declared.Answer.{Answer}
use Rattle.model.specs.declared.Context.{Context}
use Rattle.model.specs.declared.Call.{Call}
use Rattle.model.specs.declared.Call.TheVariants.{TaskCreate}
use Rattle.model.specs.declared.Code.TheVariants.{NoErr}
use Rattle.model.specs.Task.{is_dormant}
use Rattle.model.specs.State.{fresh, task, with_time}
use Rattle.model.specs.Code.{is_refusal}
use Rattle.model.specs.Call.{step, call}
use Rattle.model.specs.Test.{one}
use Rattle.model.specs.Sound.{Sound}
use Rattle.model.proofs.Words.{opened}
use Rattle.soundness.proofs.Changes.{sound_with_time}
use Rattle.soundness.proofs.Soundness.{fresh_is_sound}
use Rattle.tested.proofs.Checked.{call_is_step}
use Rattle.ways.specs.Kind.{kind, is_tick}
use Rattle.turns.specs.Tally.{Kernel, reached_by}
use Rattle.turns.specs.Statements.{next, Each, none, each}
use Rattle.turns.proofs.Words.{by_task, a_tick}
use Rattle.turns.proofs.Same.{AnswersAsStep, sound_next}
use Rattle.since.specs.Statements.{Entry, arrives, restarts, rotates, NoEntry, ticks, Since, Wraps}
use Rattle.since.proofs.Called.{counts_mod_by}

creation : Context × Call
creation = by_task (TaskCreate 1 5 1)

-- task 1 was created, at time 0, and it is time m
unfoldable pub alone : ℕ → State
unfolding creation
alone m = with_time m (next step fresh creation)

unfoldable pub many_ticks : ℕ → List (Context × Call)
many_ticks zero = []
many_ticks (suc n) = a_tick ∷ many_ticks n

alone_sound : (m : ℕ) → Sound (alone m)
unfolding alone
alone_sound m = sound_with_time (next step fresh creation) m (sound_next fresh creation fresh_is_sound)

-- ---- computed
-- the tick of that state is answered with 0, and only the time has changed
ticked : (m : ℕ) → step (alone m) a_tick.0 a_tick.1 ≡ record { code = NoErr; running = 1; value = 0; state = alone ((m + 1) % 2 ^ 32) }
unfolding alone creation opened
ticked m = refl

created : (step fresh creation.0 creation.1).state ≡ alone 0
unfolding alone creation opened
created = refl

entered : Entry true (kind creation.1) 1 fresh (alone 0)
unfolding alone creation opened
entered = arrives (lit≤ tt) (λ e. omega arith)

live : (m : ℕ) → So (not (is_dormant (task (alone m) 1)))
unfolding alone creation opened
live m = tt

-- between two such states nothing is entered
quiet_alone : (m n : ℕ) → Entry true (kind a_tick.1) 1 (alone m) (alone n) → ⊥
unfolding alone
quiet_alone m n (arrives some other) = other refl
quiet_alone m n (restarts a e some) = omega arith
quiet_alone m n (rotates some same f gone) = gone f

-- ---- n ticks
module _ (k : Kernel) (same : AnswersAsStep k) where
  tick_of : (m : ℕ) → k (alone m) a_tick.0 a_tick.1 ≡ record { code = NoErr; running = 1; value = 0; state = alone ((m + 1) % 2 ^ 32) }
  tick_of m = same (alone m) a_tick.0 a_tick.1 (alone_sound m) ∙ ticked m

  quiet : (n m : ℕ) → Each k (NoEntry k 1) (alone m) (many_ticks n)
  unfolding many_ticks
  quiet zero m = none
  quiet (suc n) m = each
      (subst (λ (r : Answer). Entry (not (is_refusal r.code)) (kind a_tick.1) 1 (alone m) r.state → ⊥) (sym (tick_of m)) (quiet_alone m ((m + 1) % 2 ^ 32)))
      (subst (λ (r : Answer). Each k (NoEntry k 1) r.state (many_ticks n)) (sym (tick_of m)) (quiet n ((m + 1) % 2 ^ 32)))

  counted : (n m : ℕ) → ticks k (alone m) (many_ticks n) ≡ n
  unfolding many_ticks ticks
  counted zero m = refl
  counted (suc n) m =
      subst (λ (r : Answer). one (not (is_refusal r.code) && is_tick (kind a_tick.1)) + ticks k r.state (many_ticks n) ≡ suc n) (sym (tick_of m)) (omega (arith, counted n ((m + 1) % 2 ^ 32)))

  lives : (n m : ℕ) → So (not (is_dormant (task (reached_by k (alone m) (many_ticks n)) 1)))
  unfolding many_ticks reached_by
  lives zero m = live m
  lives (suc n) m = subst (λ (r : Answer). So (not (is_dormant (task (reached_by k r.state (many_ticks n)) 1)))) (sym (tick_of m)) (lives n ((m + 1) % 2 ^ 32))

  -- the state after the creation
  begun : alone 0 ≡ next k fresh creation
  begun = sym (ap (λ (r : Answer). r.state) (same fresh creation.0 creation.1 fresh_is_sound) ∙ created)

  run : (n : ℕ) → Since k 1 n
  run n = record {
    before = fresh;
    entry = creation;
    calls = many_ticks n;
    sound = fresh_is_sound;
    bounded = lit≤ tt;
    enters = subst (λ (r : Answer). Entry (not (is_refusal r.code)) (kind creation.1) 1 fresh r.state) (sym (same fresh creation.0 creation.1 fresh_is_sound)) (unfold creation alone opened in entered);
    quiet = subst (λ z. Each k (NoEntry k 1) z (many_ticks n)) begun (quiet n 0);
    counted = subst (λ z. ticks k z (many_ticks n) ≡ n) begun (counted n 0);
    lives = subst (λ z. So (not (is_dormant (task (reached_by k z (many_ticks n)) 1)))) begun (lives n 0);
  }

  wraps : Wraps k
  wraps = record { task = 1; run = run 4294967296; again = (counts_mod_by k same 1 4294967296 (run 4294967296)).1 }

pub wraps_step : Wraps step
wraps_step = wraps step (λ s c a h. refl)

pub wraps_called : Wraps call
wraps_called = wraps call call_is_step
