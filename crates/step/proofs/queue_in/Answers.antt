-- `step::queue_in` meets its contract: the effects of these services are carried out apart.
use mathlib.Core.Path.{◌∙◌}
use Rattle.step.proofs.Stepping as law
use Rattle.step.proofs.queue_in.Goals as goal

pub returns-in-Ok : goal.returns-in-Ok
returns-in-Ok c = c.answered.ensures ∙ law.queue_stepped c.args.s.now c.args.c c.args.queue c.args.service c.args.run _ _ (rw c.in-Ok.is at c.queue_plan_in.ensures.plan) c.carry_queue.ensures
