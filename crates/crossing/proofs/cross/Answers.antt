-- `crossing::cross` meets its contract. The invariant: what is left of the row crosses off what the whole row does.
-- Rests on Steps.
use mathlib.Core.Path.{sym, ◌∙◌}
use native.Mathlib.Omega.{arith}
use lib.ListN.{length-set}
use borrow.Author.Tests.{not-false}
use Rattle.crossing.proofs.Steps.{crosses_on}
use Rattle.crossing.proofs.cross.Goals as goal

pub loop-i-preserved : goal.loop-i-preserved
loop-i-preserved c =
    let l = c.loop-i in
    let k = c.is_listed-listed in
    let s = crosses_on c.args.l l.wants c.args.q.now l.i (omega arith) c.if-t-eq0.false (sym k.ensures ∙ not-false k.result c.if-not-listed.false-raw) in
    (simp length-set l.invariant.0, l.invariant.1 ∙ s.0, l.invariant.2 ∙ s.1)
