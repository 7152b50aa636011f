-- What the loop of `rows::best` keeps.
use mathlib.Core.Path.{◌≡◌}
use Prim.Native.Nat.{◌-◌}
use Rattle.model.specs.Row.{best_from}
use Rattle.rows.proofs.best.Given as goal

abbrev pub invariant-loop-l : goal.invariant-loop-l
invariant-loop-l l = best_from (31 - l.l) l.l l.ls ≡ best_from 30 1 l.ls
