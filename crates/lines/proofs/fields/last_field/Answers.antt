-- `lines::fields::last_field` meets its contract: what is read is within the bytes.
-- It rests on the same of the definitions.
use native.Mathlib.Omega.{arith}
use lib.ListN.{drop}
use Rattle.text.proofs.Places.{part_of}
use Rattle.text.proofs.Reading.{got}
use Rattle.lines.specs.Fields.{end_of}
use Rattle.lines.proofs.Within.{after, field_in, end_in}
use Rattle.lines.proofs.fields.last_field.Goals as goal

pub slice_bounds-line_end-count : goal.slice_bounds-line_end-count
slice_bounds-line_end-count c = rw (got c.field.ensures c.in_ok-value.was) at (field_in c.args.takes c.args.s.now)

pub slice_bounds-line_end-start : goal.slice_bounds-line_end-start
slice_bounds-line_end-start c = rw (got c.field.ensures c.in_ok-value.was) at (field_in c.args.takes c.args.s.now)

pub overflow_add-result : goal.overflow_add-result
overflow_add-result c =
    let s = c.args.s.now in
    let n = c.in_ok-value.field-0.next in
    let first = rw (got c.field.ensures c.in_ok-value.was) at (field_in c.args.takes s) in
    let rest = rw (got (part_of end_of s n c.line_end.ensures) c.in_ok-end.was) at (end_in (drop n s)) in
    omega (arith, after s n c.in_ok-end.end first rest, c.well_formed)
