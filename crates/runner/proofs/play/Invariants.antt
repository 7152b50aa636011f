-- What the loop of `runner::play` keeps, and what falls.
use Prim.Native.Nat.{◌-◌}
use lib.ListN.{length}
use Rattle.runner.proofs.Playing.{Left}
use Rattle.runner.proofs.play.Given as goal

abbrev pub invariant-loop-at : goal.invariant-loop-at
invariant-loop-at l =
    Left l.wide l.file l.h l.kept l.at l.n l.total l.run l.s

abbrev pub decreases-loop-at : goal.decreases-loop-at
decreases-loop-at l =
    length l.file - l.at
