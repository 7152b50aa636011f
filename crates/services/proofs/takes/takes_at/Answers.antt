-- `services::takes::takes_at` meets its contract: place by place, and past the fourth.
-- It rests on no service taking more than four numbers.
use mathlib.Core.Path.{sym}
use native.Mathlib.Omega.{arith}
use Rattle.services.proofs.Numbers.{above}
use Rattle.services.proofs.Taken.{past_d}
use Rattle.services.proofs.takes.takes_at.Goals as goal

pub returns-in_default : goal.returns-in_default
returns-in_default c = sym (past_d _ _ (above 4 0 _ Unit c.in_default.in_default-own.rest (omega arith)))
