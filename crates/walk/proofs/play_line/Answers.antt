-- `walk::play_line` meets its contract: past the end, a line that does not read, and one that does.
use mathlib.Core.Path.{sym, ◌∙◌}
use native.Mathlib.Omega.{arith}
use Rattle.text.proofs.Places.{part_of}
use Rattle.lines.specs.Lines.{line_of}
use Rattle.walk.proofs.Playing as law
use Rattle.walk.proofs.play_line.Goals as goal

pub returns-then-file-at : goal.returns-then-file-at
returns-then-file-at c = law.beyond _ _ _ _ _ c.if-file-at.true

pub returns-in_err-context : goal.returns-in_err-context
returns-in_err-context c = rw c.from_residual.ensures (law.faulted _ _ _ _ (sym (part_of (line_of c.args.wide) c.args.file.now c.args.at c.read_line.ensures) ∙ c.in_err-context.was))

pub overflow_add-result : goal.overflow_add-result
overflow_add-result c = record { fits = omega (arith, c.well_formed, c.ranges, law.reaches c.args.wide c.args.file.now c.args.at _ c.if-file-at.false (sym (part_of (line_of c.args.wide) c.args.file.now c.args.at c.read_line.ensures) ∙ c.in_ok-context.was)) }

pub returns : goal.returns
returns c = law.played _ _ c.args.s.now _ _ _ _ (sym (part_of (line_of c.args.wide) c.args.file.now c.args.at c.read_line.ensures) ∙ c.in_ok-context.was) c.step_in-answer.ensures
