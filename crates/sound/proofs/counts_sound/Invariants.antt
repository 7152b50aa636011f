-- What the loop of `sound::counts_sound` keeps.
use mathlib.Core.Path.{◌≡◌}
use Rattle.model.specs.Test.{below}
use Rattle.sound.specs.Parts.{count_at}
use Rattle.sound.proofs.counts_sound.Given as goal

abbrev pub invariant-loop-m : goal.invariant-loop-m
invariant-loop-m l = l.sound ≡ below l.m (count_at l.numbers l.waits)
