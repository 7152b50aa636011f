-- What the loop of `sound::is_rest_free` keeps.
use mathlib.Core.Bool.{◌&&◌}
use mathlib.Core.Path.{◌≡◌}
use lib.ListN.{drop}
use Rattle.model.specs.Test.{zeros}
use Rattle.sound.proofs.is_rest_free.Given as goal

abbrev pub invariant-loop-i : goal.invariant-loop-i
invariant-loop-i l = zeros (drop l.taken l.places) ≡ (l.free && zeros (drop l.i l.places))
