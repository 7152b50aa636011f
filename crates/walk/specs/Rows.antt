-- The answer of a list as text: the header `n,code,running`, and a row for each call from the fresh state, CRLF after each.
-- Rests on the checked call.
use Rattle.std.specs.Prelude.{ℕ, suc, ◌+◌, List, [], ◌∷◌, ◌++◌, ℤ, pos, negsuc}
use Rattle.text.specs.Bytes.{bytes}
use Rattle.text.specs.Decimal.{decimal}
use Rattle.model.specs.declared.State.{State}
use Rattle.model.specs.declared.Code.{Code}
use Rattle.model.specs.declared.Answer.{Answer}
use Rattle.model.specs.declared.Context.{Context}
use Rattle.model.specs.declared.Call.{Call}
use Rattle.model.specs.Code.{number}
use Rattle.model.specs.State.{fresh}
use Rattle.model.specs.Call as Calls
use Rattle.walk.specs.Script.{Script, done, fault, next}

-- a call's code and running task
pub record Row : Type 0 where
  pub code : Code
  pub running : ℕ

-- the rows of a script from a state, each call through `by`
unfoldable pub rows_by : (State → Context → Call → Answer) → State → Script → List Row
rows_by by s done = []
rows_by by s (fault l) = []
rows_by by s (next x c rest) = let r = by s x c in record { code = r.code; running = r.running } ∷ rows_by by r.state rest

-- the runner starts fresh, and every call is the checked one
abbrev pub rows_of : Script → List Row
rows_of script = rows_by Calls.call fresh script

-- ---- text
abbrev pub signed : ℤ → List ℕ
signed (pos n) = decimal n
signed (negsuc n) = 45 ∷ decimal (suc n)

-- call number, code, running task
unfoldable pub row_text : ℕ → Row → List ℕ
row_text n r = decimal n ++ (44 ∷ (signed (number r.code) ++ (44 ∷ (decimal r.running ++ bytes "\r\n"))))

-- the rows from call n on
unfoldable pub rows_text : ℕ → List Row → List ℕ
rows_text n [] = []
rows_text n (r ∷ rest) = row_text n r ++ rows_text (n + 1) rest

unfoldable pub text_of : Script → List ℕ
text_of script = bytes "n,code,running\r\n" ++ rows_text 1 (rows_of script)
