-- `answers::slot_width` meets its contract: a number below 13 has two digits at most.
use Prim.Native.Nat.{◌-◌}
use native.Mathlib.Omega.{arith}
use Rattle.text.proofs.Digits.{width_most}
use Rattle.answers.proofs.slot_width.Goals as goal

pub overflow_add-result : goal.overflow_add-result
overflow_add-result c = record { fits = omega (arith, rw c.from.ensures at c.width.ensures, width_most 1 (12 - c.args.v) (omega arith)) }
