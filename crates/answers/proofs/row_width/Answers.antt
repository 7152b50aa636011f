-- `answers::row_width` meets its contract: part by part.
use Prim.Native.Nat.{◌+◌, ◌≤◌}
use mathlib.Core.Path.{◌≡◌}
use native.Mathlib.Omega.{arith}
use lib.ListN.{length}
use Rattle.answers.specs.Slots.{kept_text}
use Rattle.answers.proofs.Widths.{row_width, row_most}
use Rattle.answers.proofs.row_width.Goals as goal
use Rattle.answers.proofs.row_width.Goals.{After-width-2}

pub overflow_add-result : goal.overflow_add-result
overflow_add-result c =
    let a = c.args in
    record { fits = omega (arith, c.width.ensures, c.slot_width.ensures, row_width a.n a.v a.running, row_most a.n a.v a.running (omega arith) (omega arith) (omega arith)) }

-- the sum of the parts
sum : (c : After-width-2) → let a = c.args in (c.width.result + c.slot_width.result + c.width-2.result + 4 ≡ length (kept_text a.n a.v a.running)) × (length (kept_text a.n a.v a.running) ≤ 20)
sum c =
    let a = c.args in
    (rw (row_width a.n a.v a.running, ← (rw c.from.ensures at c.width-2.ensures), ← c.slot_width.ensures, ← c.width.ensures), row_most a.n a.v a.running (omega arith) (omega arith) (omega arith))

pub overflow_add-result-2 : goal.overflow_add-result-2
overflow_add-result-2 c = record { fits = omega (arith, (sum c).0, (sum c).1) }

pub overflow_add-result-3 : goal.overflow_add-result-3
overflow_add-result-3 c = record { fits = omega (arith, (sum c).0, (sum c).1) }

pub returns : goal.returns
returns c = ((sum c).0, omega (arith, (sum c).0, (sum c).1))
