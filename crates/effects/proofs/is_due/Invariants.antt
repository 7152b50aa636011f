-- What the loop of `effects::is_due` keeps: what is left says it of the whole.
use Prim.Native.Nat.{◌-◌}
use mathlib.Core.Path.{◌≡◌}
use Rattle.effects.specs.Falling.{is_due}
use Rattle.effects.proofs.is_due.Given as goal

abbrev pub invariant-loop-t : goal.invariant-loop-t
invariant-loop-t l = is_due (25 - l.t) l.t l.tasks ≡ is_due 24 1 l.tasks
