-- `lines::fields::read_fields` meets its contract: what is read is within the bytes.
-- It rests on the same of the definitions.
use native.Mathlib.Omega.{arith}
use Prim.Native.Nat.{◌+◌, ◌≤◌}
use lib.ListN.{length, drop}
use Rattle.text.proofs.Places.{part_of}
use Rattle.text.proofs.Reading.{got}
use Rattle.lines.specs.Fields.{comma_field, tail_of}
use Rattle.lines.proofs.Within.{after, comma_in, tail_in}
use Rattle.lines.proofs.fields.read_fields.Goals as goal
use Rattle.lines.proofs.fields.read_fields.Goals.{In_ok-a, In_ok-b}

-- after the field a, and after the field b
one : (c : In_ok-a) → c.in_ok-a.field-0.next ≤ length c.args.s.now
one c = rw (got c.comma_field.ensures c.in_ok-a.was) at (comma_in c.takes_at.result c.args.s.now)

two : (c : In_ok-b) → c.in_ok-a.field-0.next + c.in_ok-b.field-0.next ≤ length c.args.s.now
two c =
    let s = c.args.s.now in
    let i = c.in_ok-a.field-0.next in
    let first = rw (got c.comma_field.ensures c.in_ok-a.was) at (comma_in c.takes_at.result s) in
    let rest = rw (got (part_of (comma_field _) s i c.comma_field-2.ensures) c.in_ok-b.was) at (comma_in c.takes_at-2.result (drop i s)) in
    after s i c.in_ok-b.field-0.next first rest

pub slice_bounds-comma_field-count : goal.slice_bounds-comma_field-count
slice_bounds-comma_field-count c = one (goal.at.slice_bounds-comma_field-count c).In_ok-a

pub slice_bounds-comma_field-start : goal.slice_bounds-comma_field-start
slice_bounds-comma_field-start c = one (goal.at.slice_bounds-comma_field-start c).In_ok-a

pub overflow_add-at : goal.overflow_add-at
overflow_add-at c = omega (arith, two (goal.at.overflow_add-at c).In_ok-b, c.well_formed)

pub slice_bounds-read_tail-count : goal.slice_bounds-read_tail-count
slice_bounds-read_tail-count c = two (goal.at.slice_bounds-read_tail-count c).In_ok-b

pub slice_bounds-read_tail-start : goal.slice_bounds-read_tail-start
slice_bounds-read_tail-start c = two (goal.at.slice_bounds-read_tail-start c).In_ok-b

pub overflow_add-result : goal.overflow_add-result
overflow_add-result c =
    let s = c.args.s.now in
    let n = c.in_ok-a.field-0.next + c.in_ok-b.field-0.next in
    let rest = rw (got (part_of (tail_of c.args.wide c.args.number) s n c.read_tail.ensures) c.in_ok-c.was) at (tail_in c.args.wide c.args.number (drop n s)) in
    omega (arith, after s n c.in_ok-c.field-0.next (two (goal.at.overflow_add-result c).In_ok-b) rest, c.well_formed)
