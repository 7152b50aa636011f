-- `effects::is_due` meets its contract: each turn leaves the rest to look at.
use mathlib.Core.Path.{sym, ◌∙◌}
use native.Mathlib.Omega.{arith}
use Rattle.effects.proofs.Falling as law
use Rattle.effects.proofs.is_due.Goals as goal

pub returns-then-ends : goal.returns-then-ends
returns-then-ends c = law.due_off _ c.args.tasks.now _ c.loop-t.invariant (omega arith) (sym c.ends.ensures ∙ c.if-ends.true)

pub loop-t-preserved : goal.loop-t-preserved
loop-t-preserved c = law.due_on _ c.args.tasks.now _ c.loop-t.invariant (omega arith) (sym c.ends.ensures ∙ c.if-ends.false)

pub returns : goal.returns
returns c = law.due_end _ c.args.tasks.now _ c.loop-t.invariant (omega (arith, c.loop-t-test.false))
