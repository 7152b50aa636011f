-- `text::words::begins` meets its contract.
-- It rests on the laws of `begins`.
use mathlib.Core.Path.{sym, ap, ◌∙◌}
use native.Mathlib.Omega.{arith}
use lib.ListN.{length}
use Rattle.std.proofs.lemmas.Slice.Zip.{Zip-more, either_empty_from_Zip}
use Rattle.text.proofs.Begins.{begins_next, begins_end}
use Rattle.text.proofs.words.begins.Goals as goal

pub loop-x-preserved : goal.loop-x-preserved
loop-x-preserved c =
    let k = Zip-more _ c.next.new.self _ _ c.in-Some.is c.next.ensures.steps in
    (omega (arith, ap length k.0, ap length k.1, c.loop-x.invariant.0), sym (begins_next c.loop-x.same _ _ _ _) ∙ rw (k.0, k.1) at c.loop-x.invariant.1)

pub returns : goal.returns
returns c = sym (begins_end c.loop-x.same _ _ c.loop-x.invariant.0 (either_empty_from_Zip _ c.next.new.self _ c.in-None.is c.next.ensures.steps)) ∙ c.loop-x.invariant.1
