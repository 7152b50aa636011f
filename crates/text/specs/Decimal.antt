-- A number in decimal, as bytes.
-- It assumes nothing.
use Rattle.std.specs.Prelude.{ℕ, zero, suc, ◌+◌, ◌/◌, ◌%◌, cond, List, [], ◌∷◌, ◌++◌, ltb}

-- in at most that many digits
unfoldable pub decimal_in : ℕ → ℕ → List ℕ
decimal_in zero n = []
decimal_in (suc f) n = let more = decimal_in f (n / 10) ++ ((48 + n % 10) ∷ []) in cond (ltb n 10) ((48 + n) ∷ []) more

-- the digits of n, the first being the most significant, with no leading zero: n + 1 digits are more than it has
unfoldable pub decimal : ℕ → List ℕ
decimal n = decimal_in (suc n) n
