-- `lines::fields::read_tail` meets its contract: what stands before the last field, then the last field in the part after it.
-- It rests on the law of tails, and on what is read being within the bytes.
use mathlib.Core.Path.{◌≡◌}
use mathlib.Core.Bool.{cond}
use native.Mathlib.Omega.{arith}
use lib.ListN.{drop}
use Rattle.text.proofs.Places.{part_of}
use Rattle.text.proofs.Reading.{got}
use Rattle.services.specs.Takes.{takes_at}
use Rattle.lines.specs.Fields.{last_field}
use Rattle.lines.proofs.Within.{after, by_table, last_in, middle_in}
use Rattle.lines.proofs.Tails.{tail_parts}
use Rattle.lines.proofs.fields.read_tail.Goals as goal
use Rattle.lines.proofs.fields.read_tail.Goals.{After-last_field}

-- what the last field was read from
part : (c : After-last_field) → let a = c.args in c.last_field.result ≡ last_field (takes_at a.number (cond a.wide 3 2)) (drop c.in_ok-value.field-0.next a.s.now)
part c = by_table last_field _ c.last_takes-takes.ensures (part_of (last_field _) c.args.s.now _ c.last_field.ensures)

pub slice_bounds-last_field-count : goal.slice_bounds-last_field-count
slice_bounds-last_field-count c = let a = c.args in rw (got c.middle.ensures c.in_ok-value.was) at (middle_in a.wide a.number a.s.now)

pub slice_bounds-last_field-start : goal.slice_bounds-last_field-start
slice_bounds-last_field-start c = let a = c.args in rw (got c.middle.ensures c.in_ok-value.was) at (middle_in a.wide a.number a.s.now)

pub returns-in_err-last : goal.returns-in_err-last
returns-in_err-last c =
    let a = c.args in
    rw (c.from_residual-in_err-last.ensures, tail_parts a.wide a.number a.s.now, got c.middle.ensures c.in_ok-value.was, got (part (goal.at.returns-in_err-last c).After-last_field) c.in_err-last.was)

pub overflow_add-next : goal.overflow_add-next
overflow_add-next c =
    let a = c.args in
    let s = a.s.now in
    let n = c.in_ok-value.field-0.next in
    let first = rw (got c.middle.ensures c.in_ok-value.was) at (middle_in a.wide a.number s) in
    let rest = rw (got (part (goal.at.overflow_add-next c).After-last_field) c.in_ok-last.was) at (last_in (takes_at a.number (cond a.wide 3 2)) (drop n s)) in
    omega (arith, after s n c.in_ok-last.last.next first rest, c.well_formed)

pub returns-then-wide : goal.returns-then-wide
returns-then-wide c =
    let a = c.args in
    rw (tail_parts a.wide a.number a.s.now, got c.middle.ensures c.in_ok-value.was, got (part (goal.at.returns-then-wide c).After-last_field) c.in_ok-last.was, c.if-wide.true)

pub returns : goal.returns
returns c =
    let a = c.args in
    rw (tail_parts a.wide a.number a.s.now, got c.middle.ensures c.in_ok-value.was, got (part (goal.at.returns c).After-last_field) c.in_ok-last.was, c.if-wide.false)
