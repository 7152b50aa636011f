-- `runner::write` meets its contract. The invariant: what is left of the rows, put where it stands, gives the whole answer.
use mathlib.Core.Path.{refl, ◌∙◌}
use native.Mathlib.Omega.{arith}
use Rattle.runner.specs.Kept.{kept_rows}
use Rattle.runner.proofs.Writing as law
use Rattle.runner.proofs.Writing.{left}
use Rattle.runner.proofs.write.Goals as goal

pub loop-i-init : goal.loop-i-init
loop-i-init c = (omega arith, refl, law.header_room c.args.answer.now _ (kept_rows 1 c.args.kept.now) _ c.requires.1 c.put_text-out.ensures.0 c.put_text-out.ensures.1, refl)

pub loop-i-preserved : goal.loop-i-preserved
loop-i-preserved c = (
  omega arith,
  c.answer-in-loop-i-1.given ∙ c.loop-i.invariant.1,
  law.room c.args.kept.now c.loop-i.i c.loop-i-test.true _ _ c.slot_kept.ensures c.runs_kept.ensures _ _ _ _ c.loop-i.invariant.2 c.put_row-out.ensures.0 c.put_row-out.ensures.1,
  law.goes c.args.kept.now c.loop-i.i c.loop-i-test.true _ _ c.slot_kept.ensures c.runs_kept.ensures _ _ _ _ c.loop-i.invariant.2 c.put_row-out.ensures.0 c.put_row-out.ensures.1 _ c.loop-i.invariant.3,
)

pub returns : goal.returns
returns c = law.headed c.args.answer.now _ _ (kept_rows 1 c.args.kept.now) _ c.requires.1 c.put_text-out.ensures.0 c.put_text-out.ensures.1 (law.over c.args.kept.now _ _ c.loop-i.i _ c.loop-i-test.false c.loop-i.invariant.3)
