-- What the loop of `runner::write` keeps, and what falls.
use Prim.Native.Nat.{◌+◌, ◌-◌, ◌≤◌}
use mathlib.Core.Path.{◌≡◌}
use lib.ListN.{length}
use lib.Seq.{sets}
use Rattle.runner.specs.Kept.{kept_rows}
use Rattle.runner.proofs.Writing.{left}
use Rattle.runner.proofs.write.Given as goal

abbrev pub invariant-loop-i : goal.invariant-loop-i
invariant-loop-i l =
    (l.i ≤ length l.kept) × (length l.answer ≡ length l.initial.answer) × (l.out + length (left l.kept l.i) ≤ length l.answer) × (sets l.answer l.out (left l.kept l.i) ≡ sets l.initial.answer l.initial.out (kept_rows 1 l.kept))

abbrev pub decreases-loop-i : goal.decreases-loop-i
decreases-loop-i l = length l.kept - l.i
