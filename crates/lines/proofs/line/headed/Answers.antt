-- `lines::line::headed` meets its contract: what is read is within the bytes.
-- It rests on the same of the definitions.
use native.Mathlib.Omega.{arith}
use lib.ListN.{length, drop}
use Rattle.text.proofs.Begins.{begins_in}
use Rattle.text.proofs.Places.{part_of}
use Rattle.text.proofs.Reading.{got}
use Rattle.lines.specs.Fields.{end_of}
use Rattle.lines.proofs.Within.{after, end_in}
use Rattle.lines.proofs.line.headed.Goals as goal

pub slice_bounds-line_end-count : goal.slice_bounds-line_end-count
slice_bounds-line_end-count c = begins_in c.args.s.now c.args.t.now (got c.begins.ensures c.if-not-begins.false)

pub slice_bounds-line_end-start : goal.slice_bounds-line_end-start
slice_bounds-line_end-start c = begins_in c.args.s.now c.args.t.now (got c.begins.ensures c.if-not-begins.false)

pub overflow_add-result : goal.overflow_add-result
overflow_add-result c =
    let s = c.args.s.now in
    let n = length c.args.t.now in
    let rest = rw (got (part_of end_of s n c.line_end.ensures) c.in_ok-next.was) at (end_in (drop n s)) in
    omega (arith, after s n c.in_ok-next.next (begins_in s c.args.t.now (got c.begins.ensures c.if-not-begins.false)) rest, c.well_formed)
