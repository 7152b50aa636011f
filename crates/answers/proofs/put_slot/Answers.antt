-- `answers::put_slot` meets its contract: with a sign and without.
use Prim.Native.Nat.{◌+◌, ◌-◌, ◌≤◌}
use mathlib.Core.List.{◌++◌}
use lib.ListN.{length}
use borrow.Author.Tests.{lt-ltb, le-ltb}
use Rattle.text.specs.Bytes.{bytes}
use Rattle.text.specs.Decimal.{decimal}
use Rattle.answers.specs.Slots.{slot_text}
use Rattle.answers.proofs.Placing as law
use Rattle.answers.proofs.put_slot.Goals as goal

pub returns-then-v-lt12 : goal.returns-then-v-lt12
unfolding slot_text
returns-then-v-lt12 c =
    let a = c.args in
    let under = lt-ltb _ _ c.if-v-lt12.true in
    let h : a.at + length (bytes "-" ++ decimal (12 - a.v)) ≤ length a.buf.now = rw under at c.requires in
    let p = law.then _ _ (bytes "-") (decimal (12 - a.v)) _ _ _ _ h c.put_byte-next.ensures.0 c.put_byte-next.ensures.1
    (λ g. law.placed _ _ _ _ _ g (rw c.from.ensures at c.put_decimal.ensures.0) (rw c.from.ensures at c.put_decimal.ensures.1)) in
    rw under (p.place, p.stores)

pub returns : goal.returns
unfolding slot_text
returns c =
    let a = c.args in
    let over = le-ltb _ _ c.if-v-lt12.false in
    let h : a.at + length (decimal (a.v - 12)) ≤ length a.buf.now = rw over at c.requires in
    let p = law.placed _ _ _ _ _ h (rw c.from-2.ensures at c.put_decimal-2.ensures.0) (rw c.from-2.ensures at c.put_decimal-2.ensures.1) in
    rw over (p.place, p.stores)
