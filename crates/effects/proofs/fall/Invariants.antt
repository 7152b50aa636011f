-- What the loop of `effects::fall` keeps: the timeouts that are left fall to what the whole falls to.
use Prim.Native.Nat.{◌-◌}
use mathlib.Core.Path.{◌≡◌}
use Rattle.effects.specs.Falling.{fall_all}
use Rattle.effects.proofs.fall.Given as goal

abbrev pub invariant-loop-t : goal.invariant-loop-t
invariant-loop-t l = fall_all (25 - l.t) l.t l.tasks ≡ fall_all 24 1 l.initial.tasks
