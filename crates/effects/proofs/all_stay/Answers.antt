-- `effects::all_stay` meets its contract: each turn leaves the rest to look at.
use mathlib.Core.Path.{sym, ◌∙◌}
use borrow.Author.Tests.{not-true}
use native.Mathlib.Omega.{arith}
use Rattle.effects.proofs.Falling as law
use Rattle.effects.proofs.all_stay.Goals as goal

pub returns-then-not-stays : goal.returns-then-not-stays
returns-then-not-stays c = law.stay_off _ c.args.tasks.now _ c.loop-t.invariant (omega arith) (sym c.stays.ensures ∙ not-true _ c.if-not-stays.true-raw)

pub loop-t-preserved : goal.loop-t-preserved
loop-t-preserved c = law.stay_on _ c.args.tasks.now _ c.loop-t.invariant (omega arith) (sym c.stays.ensures ∙ c.if-not-stays.false)

pub returns : goal.returns
returns c = law.stay_end _ c.args.tasks.now _ c.loop-t.invariant (omega (arith, c.loop-t-test.false))
