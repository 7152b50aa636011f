-- `services::takes::takes_a` meets its contract: number by number, the rest a number each.
-- It rests on the table, and on the tests that antt computes over it.
use native.Mathlib.Omega.{arith}
use mathlib.Core.Path.{sym}
use mathlib.Core.List.{[], ◌∷◌}
use Rattle.services.specs.declared.takes.Takes.TheVariants.{Plain}
use Rattle.model.proofs.Words.{table}
use Rattle.services.specs.Takes.{takes_in, takes_at}
use Rattle.services.proofs.Numbers.{has, below}
use Rattle.services.proofs.Taken.{past_table, others_take}
use Rattle.services.proofs.takes.takes_a.Goals as goal

pub returns-in-1-to-41 : goal.returns-in-1-to-41
unfolding takes_at takes_in table has below
returns-in-1-to-41 c = sym (others_take (0 ∷ 5 ∷ 9 ∷ 16 ∷ []) 0 Plain tt _ c.in-1-to-41.in_default-own.rest (omega arith))

pub returns-in_default : goal.returns-in_default
returns-in_default c = sym (past_table _ 0 (omega arith))
