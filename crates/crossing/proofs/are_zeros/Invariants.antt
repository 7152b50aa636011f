-- What the loop of `crossing::are_zeros` keeps.
use mathlib.Core.Bool.{◌&&◌}
use mathlib.Core.Path.{◌≡◌}
use lib.ListN.{drop}
use Rattle.model.specs.Test.{zeros}
use Rattle.crossing.proofs.are_zeros.Given as goal

abbrev pub invariant-loop-x : goal.invariant-loop-x
invariant-loop-x l = zeros l.q ≡ (l.clear && zeros (drop l.x-index l.q))
