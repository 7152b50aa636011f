-- A service by its number: the call that it makes of the numbers a, b, c and d.
-- It rests on the table of services; a number that names no service makes no call.
use Rattle.std.specs.Prelude.{ℕ, Bool, cond, Option, Some, None}
use Rattle.model.specs.Plan.{within}
use Rattle.model.specs.Services.{service}
use Rattle.model.specs.declared.Call.{Call}

-- how many services there are
abbrev pub how_many : ℕ
how_many = 41

abbrev pub is_service : ℕ → Bool
is_service n = within 1 n how_many

unfoldable pub asked : ℕ → ℕ → ℕ → ℕ → ℕ → Option Call
asked n a b c d = cond (is_service n) (Some ((service n).call a b c d)) None
