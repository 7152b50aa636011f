-- What the loop of `sound::slices_sound` keeps.
use mathlib.Core.Path.{◌≡◌}
use Rattle.model.specs.Test.{below}
use Rattle.sound.specs.Parts.{slice_at}
use Rattle.sound.proofs.slices_sound.Given as goal

abbrev pub invariant-loop-slice : goal.invariant-loop-slice
invariant-loop-slice l = l.sound ≡ below l.slice-index (slice_at l.numbers)
