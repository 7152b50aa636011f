-- What the loop of `sound::flags_sound` keeps.
use mathlib.Core.Path.{◌≡◌}
use Rattle.model.specs.Test.{below}
use Rattle.sound.specs.Parts.{flag_at}
use Rattle.sound.proofs.flags_sound.Given as goal

abbrev pub invariant-loop-f : goal.invariant-loop-f
invariant-loop-f l = l.sound ≡ below l.f (flag_at l.numbers l.waits)
