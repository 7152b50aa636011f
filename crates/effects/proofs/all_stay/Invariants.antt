-- What the loop of `effects::all_stay` keeps: what is left says it of the whole.
use Prim.Native.Nat.{◌-◌}
use mathlib.Core.Path.{◌≡◌}
use Rattle.effects.specs.Falling.{all_stay}
use Rattle.effects.proofs.all_stay.Given as goal

abbrev pub invariant-loop-t : goal.invariant-loop-t
invariant-loop-t l = all_stay (25 - l.t) l.t l.tasks ≡ all_stay 24 1 l.tasks
