-- A step on a lent state, from what its parts say: who runs, the records looked at, the plan, and its effect.
-- Rests on the definitions of model/specs/Call alone.
use mathlib.Core.Path.{◌≡◌, sym, ap, ◌∙◌}
use Prim.Native.Nat.{ℕ}
use Rattle.model.specs.declared.State.{State}
use Rattle.model.specs.declared.Context.{Context}
use Rattle.model.specs.declared.Call.{Call}
use Rattle.model.specs.declared.Plan.{Plan}
use Rattle.model.specs.declared.Answer.{Answer}
use Rattle.model.specs.declared.Call.TheVariants.{OnQueue}
use Rattle.model.specs.declared.QueueService.{QueueService}
use Rattle.model.specs.Row.{best_from}
use Rattle.model.specs.State.{running}
use Rattle.model.specs.Services.{is_mine}
use Rattle.model.specs.Effect.{carried_from, carried}
use Rattle.model.specs.State.{task, data_queue}
use Rattle.model.specs.Call.{plan, planned_from, planned, step_from, step}
use Rattle.carry.specs.Queue.{of_queue}
use Rattle.step.proofs.Queues.{own_effects}

pub stepped : (s : State) (c : Context) (a : Call) (run : ℕ) (p : Plan) (s₁ : State)
    → p ≡ planned_from run s c a → s₁ ≡ carried_from run s p.effect
    → record { code = p.code; running = running s₁; value = p.value; state = s₁ } ≡ step_from run s c a
stepped s c a run p s₁ e f = rw (f, e)

-- a service of data queues, whose effects are carried out apart
pub queue_stepped : (s : State) (c : Context) (q : ℕ) (v : QueueService) (run : ℕ) (p : Plan) (s₁ : State)
    → p ≡ planned_from run s c (OnQueue q v) → s₁ ≡ carried_from 0 s (of_queue p.effect)
    → record { code = p.code; running = running s₁; value = p.value; state = s₁ } ≡ step_from run s c (OnQueue q v)
unfolding plan
queue_stepped s c q v run p s₁ e f =
    stepped s c (OnQueue q v) run p s₁ e (f ∙ ap (λ (x : Plan). carried_from 0 s (of_queue x.effect)) e
    ∙ (own_effects (is_mine c (OnQueue q v)) q v run (task s run) (data_queue s q)).own run s ∙ sym (ap (λ (x : Plan). carried_from run s x.effect) e))

-- where `run` runs, the step is that of the model
pub step_from_lem : (s : State) (run : ℕ) (c : Context) (a : Call) → run ≡ best_from 30 1 s.levels → step_from run s c a ≡ step s c a
unfolding step planned carried running
step_from_lem s run c a e = rw e

-- who runs after a step is who runs before the next one
pub runs_on : (r : Answer) (run : ℕ) (s : State) (c : Context) (a : Call) → r ≡ step_from run s c a → r.running ≡ best_from 30 1 r.state.levels
unfolding running
runs_on r run s c a e = ap (λ (x : Answer). x.running) e ∙ sym (ap (λ (x : Answer). best_from 30 1 x.state.levels) e)
