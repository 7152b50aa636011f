-- `lines::line::read_line` meets its contract: what is read is within the bytes, and the number of a known name makes its call.
-- It rests on the same of the definitions.
use Prim.Native.Nat.{◌+◌, ◌≤◌}
use mathlib.Core.Path.{◌≡◌}
use mathlib.Core.Bool.{true}
use native.Mathlib.Omega.{arith}
use lib.ListN.{length, drop}
use Rattle.text.proofs.Places.{part_of}
use Rattle.text.proofs.Reading.{got}
use Rattle.services.specs.Names.{name_of}
use Rattle.services.specs.Calls.{is_service}
use Rattle.services.proofs.Known.{name_known, call_made, call_there}
use Rattle.lines.specs.Fields.{fields_of}
use Rattle.lines.specs.Lines.{line_of}
use Rattle.lines.proofs.Within.{after, letter_in, name_in_lem, fields_in}
use Rattle.lines.proofs.line.read_line.Goals as goal
use Rattle.lines.proofs.line.read_line.Goals.{In_ok-context, In_ok-number}

-- after the letter, and after the name, whose number is a service's
one : (c : In_ok-context) → 2 ≤ length c.args.s.now
one c = rw (got c.read_letter.ensures c.in_ok-context.was) at (letter_in c.args.s.now)

two : (c : In_ok-number) → 2 + c.in_ok-number.field-0.next ≤ length c.args.s.now
two c =
    let s = c.args.s.now in
    let first = rw (got c.read_letter.ensures c.in_ok-context.was) at (letter_in s) in
    let rest = rw (got (part_of name_of s 2 c.read_name.ensures) c.in_ok-number.was) at (name_in_lem (drop 2 s)) in
    after s 2 c.in_ok-number.field-0.next first rest

known : (c : In_ok-number) → is_service c.in_ok-number.field-0.number ≡ true
known c = rw (got (part_of name_of c.args.s.now 2 c.read_name.ensures) c.in_ok-number.was) at (name_known (drop 2 c.args.s.now))

pub slice_bounds-read_name-count : goal.slice_bounds-read_name-count
slice_bounds-read_name-count c = one (goal.at.slice_bounds-read_name-count c).In_ok-context

pub slice_bounds-read_name-start : goal.slice_bounds-read_name-start
slice_bounds-read_name-start c = one (goal.at.slice_bounds-read_name-start c).In_ok-context

pub overflow_add-at : goal.overflow_add-at
overflow_add-at c = omega (arith, two (goal.at.overflow_add-at c).In_ok-number, c.well_formed)

pub slice_bounds-read_fields-count : goal.slice_bounds-read_fields-count
slice_bounds-read_fields-count c = two (goal.at.slice_bounds-read_fields-count c).In_ok-number

pub slice_bounds-read_fields-start : goal.slice_bounds-read_fields-start
slice_bounds-read_fields-start c = two (goal.at.slice_bounds-read_fields-start c).In_ok-number

pub returns-in_err-call : goal.returns-in_err-call
returns-in_err-call c =
    absurd (call_there _ _ _ _ _ (known (goal.at.returns-in_err-call c).In_ok-number) c.call_of.ensures c.in_err-call.was)

pub overflow_add-result : goal.overflow_add-result
overflow_add-result c =
    let a = c.args in
    let s = a.s.now in
    let n = 2 + c.in_ok-number.field-0.next in
    let rest = rw (got (part_of (fields_of a.wide c.in_ok-number.field-0.number) s n c.read_fields.ensures) c.in_ok-a.was) at (fields_in a.wide c.in_ok-number.field-0.number (drop n s)) in
    omega (arith, after s n c.in_ok-a.field-0.next (two (goal.at.overflow_add-result c).In_ok-number) rest, c.well_formed)

pub returns : goal.returns
unfolding line_of
returns c =
    let s = c.args.s.now in
    let n = 2 + c.in_ok-number.field-0.next in
    rw
    (call_made _ _ _ _ _ (known (goal.at.returns c).In_ok-number) c.call_of.ensures c.in_ok-call.was)
    (rw
    (got c.read_letter.ensures c.in_ok-context.was, got (part_of name_of s 2 c.read_name.ensures) c.in_ok-number.was, got (part_of (fields_of c.args.wide c.in_ok-number.field-0.number) s n c.read_fields.ensures) c.in_ok-a.was))
