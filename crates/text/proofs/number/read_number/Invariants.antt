-- What the loop of `text::number::read_number` keeps: what is left gives what the whole gives.
use Prim.Native.Nat.{◌<◌}
use mathlib.Core.Path.{◌≡◌}
use Rattle.text.proofs.Reading.{Left}
use Rattle.text.proofs.number.read_number.Given as goal

abbrev pub invariant-loop-b : goal.invariant-loop-b
invariant-loop-b l = (l.n ≡ l.b-index) × (l.value < 4294967296) × Left l.s l.value l.b-index
