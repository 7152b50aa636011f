-- `text::number::read_number` meets its contract.
-- It rests on the laws of reading, digit by digit.
use mathlib.Core.Path.{◌≡◌, ◌∙◌}
use Prim.Native.Nat.{◌+◌, ◌-◌, ◌*◌}
use lib.ListN.{get_or}
use native.Mathlib.Omega.{arith}
use Rattle.text.proofs.Reading.{a_digit, left_on, left_stop, left_end, left_over}
use Rattle.text.proofs.number.read_number.Goals as goal

pub returns-in_err-checked_mul : goal.returns-in_err-checked_mul
returns-in_err-checked_mul c =
    let more = left_on _ _ _ c.loop-b.invariant.2 c.loop-b-test.true (a_digit _ c.is_ascii_digit.ensures.value c.if-not-is_ascii_digit.false) in
    c.from_residual.ensures ∙ left_over _ _ _ more (omega (arith, c.in_err-checked_mul.ensures))

pub returns-in_err-value : goal.returns-in_err-value
returns-in_err-value c =
    let more = left_on _ _ _ c.loop-b.invariant.2 c.loop-b-test.true (a_digit _ c.is_ascii_digit.ensures.value c.if-not-is_ascii_digit.false) in
    c.from_residual-in_err-value.ensures ∙ left_over _ _ _ more (omega (arith, c.in_ok-checked_mul.ensures, c.in_err-value.ensures, c.from-digit.ensures))

pub loop-b-preserved : goal.loop-b-preserved
loop-b-preserved c =
    let more = left_on _ _ _ c.loop-b.invariant.2 c.loop-b-test.true (a_digit _ c.is_ascii_digit.ensures.value c.if-not-is_ascii_digit.false) in
    let e : c.in_ok-value.value ≡ c.loop-b.value * 10 + (get_or c.args.s.now c.loop-b.b-index 0 - 48) = omega (arith, c.in_ok-checked_mul.ensures, c.in_ok-value.ensures, c.from-digit.ensures) in
    (omega arith, omega (arith, c.in_ok-value.ensures), rw e more)

pub returns : goal.returns
returns c =
    rw (c.byte_at.ensures, c.loop-b.invariant.0) at c.numeral.ensures
    ∙ elim c.loop-b-test.branch [
      | goal.else-loop-b-test e ↦ left_end _ _ _ c.loop-b.invariant.2 c.loop-b.invariant.1 e.loop-b-test.false
      | goal.then-loop-b-test+then-not-is_ascii_digit e ↦ left_stop _ _ _ c.loop-b.invariant.2 c.loop-b.invariant.1 e.loop-b-test.true (a_digit _ e.is_ascii_digit.ensures.value e.if-not-is_ascii_digit.true)
    ]
