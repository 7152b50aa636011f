-- Parts A and B of specs/Statements for a kernel that answers as `step` does in every sound state, and so for the checked `call`.
-- It goes by induction on the calls, each of which comes to a sound state.
use mathlib.Core.Path.{◌≡◌, refl, ap, subst}
use mathlib.Core.Bool.{Bool, not, ◌&&◌}
use mathlib.Core.List.{List, [], ◌∷◌}
use Prim.Native.Nat.{ℕ, suc, ◌+◌, ◌*◌, ◌-◌, ◌≤◌}
use lib.Dec.{T as So, eqb}
use Rattle.model.specs.declared.State.{State}
use Rattle.model.specs.declared.Answer.{Answer}
use Rattle.model.specs.declared.Context.{Context}
use Rattle.model.specs.declared.Call.{Call}
use Rattle.model.specs.declared.Code.TheVariants.{NoErr, Timeout, Released, Dlt}
use Rattle.model.specs.Task.{nothing, is_runnable, level_of}
use Rattle.model.specs.State.{task, slice, running}
use Rattle.model.specs.Code.{number, is_refusal}
use Rattle.model.specs.Call.{step, call}
use Rattle.model.specs.Test.{one}
use Rattle.model.specs.Sound.{Sound}
use Rattle.tested.proofs.Checked.{call_is_step}
use Rattle.ways.specs.Kind.{Kind, tick, terminate, forced_release, set_slice, deletion, kind, is_tick, is_release_of}
use Rattle.turns.specs.Tally.{Kernel}
use Rattle.turns.specs.Statements.{next, Does, WaitsOn, Ended, EndsSooner, by_timeout, by_forced_release, by_termination, by_deletion, HoldsBy, holds, sooner, passes, waits, still, WaitersAreServed}
use Rattle.turns.specs.Statements.{is_charged, charges, StaysRunnable, NotTerminated, KeepsPriority, SliceNotSet, FirstBy, first, charged, later, TurnsComeRound}
use Rattle.turns.proofs.Same.{AnswersAsStep, sound_next, of_k, of_step, each_too}
use Rattle.turns.proofs.Served.{waiters_are_served}
use Rattle.turns.proofs.Turns.{turns_come_round}

module _ (k : Kernel) (same : AnswersAsStep k) where
  does : (s : State) (a : Context × Call) (j : Kind) → Sound s → Does step s a j → Does k s a j
  does s a j h d = record { accepted = of_k k same (λ r. So (not (is_refusal r.code))) s a h d.accepted; is = d.is }

  -- ---- A
  ends : (s : State) (a : Context × Call) (m t : ℕ) → Sound s → EndsSooner step s a m t → EndsSooner k s a m t
  ends s a m t h (by_timeout d e) = by_timeout (does s a tick h d) (of_k k same (λ r. Ended r.state t (number Timeout)) s a h e)
  ends s a m t h (by_forced_release d e) = by_forced_release (does s a (forced_release t) h d) (of_k k same (λ r. Ended r.state t (number Released)) s a h e)
  ends s a m t h (by_termination d e) = by_termination (does s a (terminate t) h d) (of_k k same (λ r. (task r.state t).wait.kind ≡ nothing) s a h e)
  ends s a m t h (by_deletion d e) = by_deletion (does s a (deletion m) h d) (of_k k same (λ r. Ended r.state t (number Dlt)) s a h e)

  holds_by : {m t n : ℕ} {s : State} {calls : List (Context × Call)} → Sound s → HoldsBy step m t n s calls → HoldsBy k m t n s calls
  holds_by {m} {t} h (holds {n} {s} {a} {rest} r d) =
      holds (of_k k same (λ y. So (not (is_refusal y.code) && is_release_of m (kind a.1))) s a h r) (of_k k same (λ y. Ended y.state t (number NoErr)) s a h d)
  holds_by {m} {t} h (sooner {n} {s} {a} {rest} d) = sooner (ends s a m t h d)
  holds_by {m} {t} h (passes {n} {s} {a} {rest} r w d) =
      passes (of_k k same (λ y. So (not (is_refusal y.code) && is_release_of m (kind a.1))) s a h r) (of_k k same (λ y. WaitsOn y.state m t) s a h w)
      (of_k k same (λ y. HoldsBy k m t n y.state rest) s a h (holds_by (sound_next s a h) d))
  holds_by {m} {t} h (waits {n} {s} {a} {rest} r w d) =
      waits (of_k k same (λ y. So (not (not (is_refusal y.code) && is_release_of m (kind a.1)))) s a h r) (of_k k same (λ y. WaitsOn y.state m t) s a h w)
      (of_k k same (λ y. HoldsBy k m t (suc n) y.state rest) s a h (holds_by (sound_next s a h) d))
  holds_by h (still w) = still w

  pub served_by : WaitersAreServed k
  served_by s calls m t p h low top e y = holds_by h (waiters_are_served s calls m t p h low top e y)

  -- ---- B
  -- a tick is charged by the answer's code, and by what the state is
  abbrev is_charged_by : State → Context × Call → ℕ → Answer → Bool
  is_charged_by s a l y = not (is_refusal y.code) && (is_tick (kind a.1) && (eqb (level_of (task s (running s))) l && not (eqb (slice s l) 0)))

  first_by : {l t n : ℕ} {s : State} {calls : List (Context × Call)} → Sound s → FirstBy step l t n s calls → FirstBy k l t n s calls
  first_by h (first e) = first e
  first_by {l} {t} h (charged {n} {s} {a} {rest} c d) =
      charged (of_k k same (λ y. So (is_charged_by s a l y)) s a h c) (of_k k same (λ y. FirstBy k l t n y.state rest) s a h (first_by (sound_next s a h) d))
  first_by {l} {t} h (later {n} {s} {a} {rest} c d) =
      later (of_k k same (λ y. So (not (is_charged_by s a l y))) s a h c) (of_k k same (λ y. FirstBy k l t (suc n) y.state rest) s a h (first_by (sound_next s a h) d))

  charges_same : (calls : List (Context × Call)) (s : State) (l : ℕ) → Sound s → charges k s calls l ≡ charges step s calls l
  unfolding charges
  charges_same [] s l h = refl
  charges_same (a ∷ rest) s l h =
      of_k k same (λ y. one (is_charged_by s a l y) + charges k y.state rest l ≡ one (is_charged step s a l) + charges step (next step s a) rest l) s a h
      (ap (λ n. one (is_charged step s a l) + n) (charges_same rest (next step s a) l (sound_next s a h)))

  pub rounds_by : TurnsComeRound k
  rounds_by s calls l t q v h runs e y z some stays alive keeps unset enough =
      first_by h
      (turns_come_round s calls l t q v h runs e y z some
      (each_too k same (StaysRunnable k t) (StaysRunnable step t) (λ s a h p. of_step k same (λ r. So (is_runnable (task r.state t))) s a h p) calls s h stays)
      (each_too k same (NotTerminated k t) (NotTerminated step t) (λ s a h p d. p (does s a (terminate t) h d)) calls s h alive)
      (each_too k same (KeepsPriority k t l) (KeepsPriority step t l) (λ s a h p. of_step k same (λ r. (task r.state t).priority ≡ l) s a h p) calls s h keeps)
      (each_too k same (SliceNotSet k l) (SliceNotSet step l) (λ s a h p d. p (does s a (set_slice l) h d)) calls s h unset)
      (subst (λ n. (q - 1) * v ≤ n) (charges_same calls s l h) enough))

-- ---- of the checked call
pub waiters_are_served_called : WaitersAreServed call
waiters_are_served_called = served_by call call_is_step

pub turns_come_round_called : TurnsComeRound call
turns_come_round_called = rounds_by call call_is_step
