-- How long the text of a kept code and of a row is, and can be. Rests on the digits of text.
use mathlib.Core.Path.{◌≡◌}
use mathlib.Core.Bool.{cond}
use mathlib.Core.List.{◌∷◌}
use Prim.Native.Nat.{ℕ, ◌+◌, ◌-◌, ◌^◌, ◌≤◌, ◌<◌}
use native.Mathlib.Omega.{arith}
use lib.Dec.{ltb}
use native.Mathlib.Decide.{dec_lt}
use lib.ListN.{length, length-append}
use borrow.Author.Tests.{lt-ltb, le-ltb}
use Rattle.text.specs.Decimal.{decimal}
use Rattle.text.proofs.Digits.{width_most}
use Rattle.answers.specs.Slots.{slot_text, kept_text}

pub slot_most : (v : ℕ) → v < 256 → length (slot_text v) ≤ 3
unfolding slot_text
slot_most v h = go (dec_lt v 12)
  where
    go : Dec (v < 12) → length (cond (ltb v 12) (45 ∷ decimal (12 - v)) (decimal (v - 12))) ≤ 3
    go (yes p) = rw (lt-ltb v 12 p) (omega (arith, width_most 1 (12 - v) (omega arith)))
    go (no p) = rw (le-ltb v 12 (omega arith)) (width_most 2 (v - 12) (omega arith))

pub row_width : (n v r : ℕ) → length (kept_text n v r) ≡ length (decimal n) + length (slot_text v) + length (decimal r) + 4
unfolding kept_text
row_width n v r = simp length-append (omega arith)

-- the longest row: ten digits, three places for the code, three digits and four bytes
pub row_most : (n v r : ℕ) → n < 2 ^ 32 → v < 256 → r < 256 → length (kept_text n v r) ≤ 20
row_most n v r f g h = omega (arith, row_width n v r, width_most 9 n (omega arith), slot_most v g, width_most 2 r (omega arith))
