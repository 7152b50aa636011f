-- `answers::put_row` meets its contract: where there is room, its parts stand one after the other.
use Prim.Native.Nat.{◌+◌, ◌≤◌}
use mathlib.Core.List.{◌++◌}
use native.Mathlib.Omega.{arith}
use lib.ListN.{length, length-append}
use Rattle.text.specs.Bytes.{bytes}
use Rattle.text.specs.Decimal.{decimal}
use Rattle.text.proofs.Stores.{room, put_none, after_none}
use Rattle.answers.specs.Slots.{slot_text, kept_text}
use Rattle.answers.proofs.Placing as law
use Rattle.answers.proofs.put_row.Goals as goal
use Rattle.answers.proofs.put_row.Goals.{After-put_byte-b, After-put_decimal-a, After-put_byte, After-put_byte-f, After-put_decimal-e, After-put_byte-d, After-put_slot-c}

pub returns-then-not-row_fits : goal.returns-then-not-row_fits
returns-then-not-row_fits c =
    let a = c.args in
    let t = kept_text a.n a.v a.running in
    (after_none a.buf.now a.at t c.row_fits.ensures c.if-not-row_fits.true, put_none a.buf.now a.at t c.row_fits.ensures c.if-not-row_fits.true)

pub put_slot-c-requires : goal.put_slot-c-requires
unfolding kept_text
put_slot-c-requires c =
    let byte = (goal.at.put_slot-c-requires c).After-put_byte-b in let number = (goal.at.put_slot-c-requires c).After-put_decimal-a in let a = c.args in
    let t₃ = bytes "," ++ (decimal a.running ++ bytes "\r\n") in
    let t₂ = slot_text a.v ++ t₃ in
    let t₁ = bytes "," ++ t₂ in
    let h : a.at + length (decimal a.n ++ t₁) ≤ length a.buf.now = room _ _ _ c.row_fits.ensures c.if-not-row_fits.false in
    let p = law.placed a.buf.now a.at (decimal a.n) _ _ (omega (arith, h, length-append (decimal a.n) t₁)) number.put_decimal-a.ensures.0 number.put_decimal-a.ensures.1 in
    let g = law.room_after _ _ (decimal a.n) t₁ _ _ h p in
    let q = law.placed _ _ (bytes ",") _ _ (omega (arith, g)) byte.put_byte-b.ensures.0 byte.put_byte-b.ensures.1 in
    omega (arith, law.room_after _ _ (bytes ",") t₂ _ _ g q, length-append (slot_text a.v) t₃)

pub returns : goal.returns
unfolding kept_text
returns c =
    let feed = (goal.at.returns c).After-put_byte in let return = (goal.at.returns c).After-put_byte-f in let task = (goal.at.returns c).After-put_decimal-e in let second = (goal.at.returns c).After-put_byte-d in let code = (goal.at.returns c).After-put_slot-c in let first = (goal.at.returns c).After-put_byte-b in let number = (goal.at.returns c).After-put_decimal-a in let a = c.args in
    let h = room _ _ _ c.row_fits.ensures c.if-not-row_fits.false in
    let t₅ = bytes "\r" ++ bytes "\n" in
    let t₄ = decimal a.running ++ t₅ in
    let t₃ = bytes "," ++ t₄ in
    let t₂ = slot_text a.v ++ t₃ in
    let t₁ = bytes "," ++ t₂ in
    law.whole a.buf.now a.at (decimal a.n ++ t₁) _ _ h
    (law.then a.buf.now a.at (decimal a.n) t₁ _ _ _ _ h number.put_decimal-a.ensures.0 number.put_decimal-a.ensures.1
    (λ g₁. law.then _ _ (bytes ",") t₂ _ _ _ _ g₁ first.put_byte-b.ensures.0 first.put_byte-b.ensures.1
    (λ g₂. let o = law.stored _ _ (slot_text a.v) _ _ code.put_slot-c.ensures in
    law.followed _ _ (slot_text a.v) t₃ _ _ _ _ o
    (law.then _ _ (bytes ",") t₄ _ _ _ _ (law.room_after _ _ (slot_text a.v) t₃ _ _ g₂ o) second.put_byte-d.ensures.0 second.put_byte-d.ensures.1
    (λ g₄. law.then _ _ (decimal a.running) t₅ _ _ _ _ g₄ (rw c.from.ensures at task.put_decimal-e.ensures.0) (rw c.from.ensures at task.put_decimal-e.ensures.1)
    (λ g₅. law.then _ _ (bytes "\r") (bytes "\n") _ _ _ _ g₅ return.put_byte-f.ensures.0 return.put_byte-f.ensures.1
    (λ g₆. law.placed _ _ (bytes "\n") _ _ g₆ feed.put_byte.ensures.0 feed.put_byte.ensures.1)))))))
