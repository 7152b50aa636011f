-- What the loop of `effects::tell_all` keeps: what is left to tell makes of the state what the whole makes of it at entry.
use mathlib.Core.Path.{◌≡◌}
use lib.ListN.{drop}
use Rattle.model.specs.Effect.{told_all}
use Rattle.effects.proofs.tell_all.Given as goal

abbrev pub invariant-loop-t : goal.invariant-loop-t
invariant-loop-t l = told_all l.news (drop l.t-index l.t-items) l.s ≡ told_all l.news l.t-items l.initial.s
