-- `effects::fall` meets its contract: each turn leaves the rest to fall.
use native.Mathlib.Omega.{arith}
use Rattle.effects.proofs.Falling as law
use Rattle.effects.proofs.fall.Goals as goal

pub loop-t-preserved : goal.loop-t-preserved
loop-t-preserved c = rw c.fallen.ensures (law.fall_on _ _ _ (omega arith) c.loop-t.invariant)

pub returns : goal.returns
returns c = law.fall_end _ _ _ (omega (arith, c.loop-t-test.false)) c.loop-t.invariant
