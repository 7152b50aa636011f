-- What the loop of `crossing::cross_all` keeps.
use mathlib.Core.Path.{◌≡◌}
use lib.ListN.{length, drop}
use Rattle.crossing.specs.Crossing.{crosses_all}
use Rattle.crossing.proofs.cross_all.Given as goal

abbrev pub invariant-loop-l : goal.invariant-loop-l
invariant-loop-l l = (length l.wants ≡ 25) × (crosses_all 0 l.ls l.initial.wants ≡ crosses_all l.l (drop l.l l.ls) l.wants)
