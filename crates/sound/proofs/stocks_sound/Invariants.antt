-- What the loop of `sound::stocks_sound` keeps.
use mathlib.Core.Path.{◌≡◌}
use Rattle.model.specs.Test.{below}
use Rattle.sound.specs.Parts.{stock_at}
use Rattle.sound.proofs.stocks_sound.Given as goal

abbrev pub invariant-loop-q : goal.invariant-loop-q
invariant-loop-q l = l.sound ≡ below l.q (stock_at l.numbers l.waits)
