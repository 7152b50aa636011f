-- `services::takes::takes_b` meets its contract: number by number, the rest nothing.
-- It rests on the table, and on the tests that antt computes over it.
use mathlib.Core.Path.{sym}
use mathlib.Core.List.{[], ◌∷◌}
use Rattle.model.proofs.Words.{table}
use Rattle.services.specs.Takes.{takes_in, takes_at}
use Rattle.services.proofs.Numbers.{has, below}
use Rattle.services.proofs.Taken.{others_blank}
use Rattle.services.proofs.takes.takes_b.Goals as goal

pub returns-in_default : goal.returns-in_default
unfolding takes_at takes_in table has below
returns-in_default c = sym (others_blank (1 ∷ 14 ∷ 15 ∷ 17 ∷ 21 ∷ 24 ∷ 26 ∷ 27 ∷ 28 ∷ 29 ∷ 30 ∷ 31 ∷ 32 ∷ 34 ∷ 36 ∷ 37 ∷ 38 ∷ 39 ∷ []) 1 tt _ c.in_default.in_default-own.rest)
