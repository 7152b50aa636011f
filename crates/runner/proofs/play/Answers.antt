-- `runner::play` meets its contract: what the loop keeps is Left of Playing.
use mathlib.Core.Path.{refl, sym, ◌∙◌}
use native.Mathlib.Omega.{arith}
use Rattle.text.proofs.Places.{part_of}
use Rattle.lines.specs.Lines.{line_of}
use Rattle.runner.proofs.Playing as law
use Rattle.runner.proofs.Playing.{Left}
use Rattle.runner.proofs.play.Goals as goal

pub loop-at-init : goal.loop-at-init
loop-at-init c = rw c.fresh-s.ensures (law.starts _ _ _ _ c.requires.0 c.requires.1 c.requires.3)

pub overflow_add-result : goal.overflow_add-result
overflow_add-result c = record { fits = omega (arith, law.few _ _ _ _ _ _ _ _ _ c.requires.2 c.loop-at.invariant c.loop-at-test.true) }

pub returns-in_default : goal.returns-in_default
returns-in_default c = law.stops _ _ _ _ _ _ _ _ _ c.requires.2 c.loop-at.invariant c.loop-at-test.true (sym (part_of (line_of c.args.wide) c.args.file.now c.loop-at.at c.read_line.ensures) ∙ c.in_default.is) _ refl

pub bounds-kept-n : goal.bounds-kept-n
bounds-kept-n c = law.room _ _ _ _ _ _ _ _ _ c.requires.2 c.loop-at.invariant c.loop-at-test.true _ (sym (part_of (line_of c.args.wide) c.args.file.now c.loop-at.at c.read_line.ensures) ∙ c.in-Some.is)

pub overflow_add-n : goal.overflow_add-n
overflow_add-n c = record { fits = omega (arith, law.room _ _ _ _ _ _ _ _ _ c.requires.2 c.loop-at.invariant c.loop-at-test.true _ (sym (part_of (line_of c.args.wide) c.args.file.now c.loop-at.at c.read_line.ensures) ∙ c.in-Some.is)) }

pub overflow_cast-n : goal.overflow_cast-n
overflow_cast-n c = record { fits = omega (arith, law.room _ _ _ _ _ _ _ _ _ c.requires.2 c.loop-at.invariant c.loop-at-test.true _ (sym (part_of (line_of c.args.wide) c.args.file.now c.loop-at.at c.read_line.ensures) ∙ c.in-Some.is)) }

pub overflow_add-total : goal.overflow_add-total
overflow_add-total c = record { fits = omega (arith, c.row_width-total.ensures.1, c.loop-at.invariant.short, law.room _ _ _ _ _ _ _ _ _ c.requires.2 c.loop-at.invariant c.loop-at-test.true _ (sym (part_of (line_of c.args.wide) c.args.file.now c.loop-at.at c.read_line.ensures) ∙ c.in-Some.is)) }

pub overflow_add-at : goal.overflow_add-at
overflow_add-at c = record { fits = omega (arith, c.requires.2, (law.within _ _ _ _ _ _ _ _ _ c.requires.2 c.loop-at.invariant c.loop-at-test.true _ (sym (part_of (line_of c.args.wide) c.args.file.now c.loop-at.at c.read_line.ensures) ∙ c.in-Some.is)).1) }

pub loop-at-smaller : goal.loop-at-smaller
loop-at-smaller c = let w = law.within _ _ _ _ _ _ _ _ _ c.requires.2 c.loop-at.invariant c.loop-at-test.true _ (sym (part_of (line_of c.args.wide) c.args.file.now c.loop-at.at c.read_line.ensures) ∙ c.in-Some.is) in omega (arith, w.0, w.1)

pub loop-at-preserved : goal.loop-at-preserved
loop-at-preserved c = law.turns _ _ _ _ _ _ _ _ _ c.requires.2 c.loop-at.invariant c.loop-at-test.true _ (sym (part_of (line_of c.args.wide) c.args.file.now c.loop-at.at c.read_line.ensures) ∙ c.in-Some.is) _ _ c.step_in-code.ensures _ _ _ c.slot.ensures c.keep.ensures c.row_width-total.ensures

pub returns : goal.returns
returns c = law.ends _ _ _ _ _ _ _ _ _ c.requires.2 c.loop-at.invariant _ c.loop-at-test.false refl refl
