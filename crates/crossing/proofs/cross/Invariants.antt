-- What the loop of `crossing::cross` keeps.
use mathlib.Core.Path.{◌≡◌}
use lib.ListN.{length, drop}
use Rattle.crossing.specs.Crossing.{crosses, crossed}
use Rattle.crossing.proofs.cross.Given as goal

abbrev pub invariant-loop-i : goal.invariant-loop-i
invariant-loop-i l =
    (length l.wants ≡ length l.initial.wants) × (crosses l.l l.q l.initial.wants ≡ crosses l.l (drop l.i l.q) l.wants) × (crossed l.l l.q l.initial.wants ≡ crossed l.l (drop l.i l.q) l.wants)
