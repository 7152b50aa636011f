-- What the loop of `effects::lapse` keeps: what is left to lapse makes of the state what the whole makes of it at entry.
use Prim.Native.Nat.{◌-◌}
use mathlib.Core.Path.{◌≡◌}
use Rattle.model.specs.Effect.{lapsed}
use Rattle.effects.proofs.lapse.Given as goal

abbrev pub invariant-loop-t : goal.invariant-loop-t
invariant-loop-t l = lapsed (25 - l.t) l.t l.s ≡ lapsed 24 1 l.initial.s
