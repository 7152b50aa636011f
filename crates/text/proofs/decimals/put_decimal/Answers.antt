-- `text::decimals::put_decimal` meets its contract: at the first digit's place no other is left, and it is stored there.
-- It rests on Backwards and on the laws of stores.
use Prim.Native.Nat.{ℕ, ◌+◌, ◌≤◌}
use mathlib.Core.Path.{◌≡◌, ap, sym, ◌∙◌}
use native.Mathlib.Omega.{arith}
use lib.ListN.{length}
use Rattle.text.specs.Decimal.{decimal}
use Rattle.text.proofs.Backwards as law
use Rattle.text.proofs.Stores.{room, put_room, after_room}
use Rattle.text.proofs.decimals.put_decimal.Goals as goal

pub loop-k-preserved : goal.loop-k-preserved
loop-k-preserved c =
    law.held_more c.args.buf.now c.args.at c.args.n c.loop-k.buf c.loop-k.k c.loop-k.rest (omega (arith, c.loop-k-test.true)) c.loop-k.invariant

pub overflow_cast-buf-2 : goal.overflow_cast-buf-2
overflow_cast-buf-2 c = omega (arith, law.held_one c.args.buf.now c.args.at c.args.n c.loop-k.buf c.loop-k.k c.loop-k.rest (omega (arith, c.loop-k-test.false)) c.loop-k.invariant)

pub overflow_add-buf-2 : goal.overflow_add-buf-2
overflow_add-buf-2 c = omega (arith, law.held_one c.args.buf.now c.args.at c.args.n c.loop-k.buf c.loop-k.k c.loop-k.rest (omega (arith, c.loop-k-test.false)) c.loop-k.invariant)

pub bounds-buf-at : goal.bounds-buf-at
bounds-buf-at c =
    omega (arith, law.some c.args.n, c.width-digits.ensures, room c.args.at c.width-digits.result (length c.args.buf.now) c.has_room.ensures c.if-not-has_room.false)

pub returns : goal.returns
returns c =
    let a = c.args in
    let h : a.at + length (decimal a.n) ≤ length a.buf.now = omega (arith, c.width-digits.ensures, room a.at c.width-digits.result (length a.buf.now) c.has_room.ensures c.if-not-has_room.false) in (
      ap (λ (m : ℕ). a.at + m) c.width-digits.ensures ∙ sym (after_room a.buf.now a.at (decimal a.n) h),
      law.held_all a.buf.now a.at a.n c.loop-k.buf c.loop-k.k c.loop-k.rest (omega (arith, c.loop-k-test.false)) c.loop-k.invariant
          ∙ sym (put_room a.buf.now a.at (decimal a.n) h),
    )
