-- One row of an answer: its code as a number, its text, and the one number that is kept of it until the answer is known to fit.
-- Rests on the decimal numbers of text.
use Rattle.std.specs.Prelude.{cond, ℕ, ◌+◌, ◌-◌, ◌/◌, ◌%◌, List, ◌∷◌, ◌++◌, ltb}
use Rattle.text.specs.Bytes.{bytes}
use Rattle.text.specs.Decimal.{decimal}
use Rattle.model.specs.declared.Code.{Code}
use Rattle.model.specs.declared.Code.TheVariants.{NoErr, Pending, Overflow, WContext, WState, Timeout, WrongParam, IlUse, NoExs, Dlt, Released, Unsound}

-- the paper's number plus 12
abbrev pub slot_of : Code → ℕ
slot_of NoErr = 12
slot_of Pending = 13
slot_of Overflow = 11
slot_of WContext = 10
slot_of WState = 9
slot_of Timeout = 8
slot_of WrongParam = 7
slot_of IlUse = 4
slot_of NoExs = 3
slot_of Dlt = 2
slot_of Released = 1
slot_of Unsound = 0

unfoldable pub slot_text : ℕ → List ℕ
slot_text v = cond (ltb v 12) (45 ∷ decimal (12 - v)) (decimal (v - 12))

unfoldable pub kept_text : ℕ → ℕ → ℕ → List ℕ
kept_text n v running = decimal n ++ (44 ∷ (slot_text v ++ (44 ∷ (decimal running ++ bytes "\r\n"))))

-- ---- what is kept of a row
-- The nine codes that a call of a list answers, from -9 to 1, in this order, have 25 numbers each: one for each task, and one for nobody.
-- The other three answer no call of a list, and begin after them.
abbrev pub base_of : Code → ℕ
base_of NoErr = 175
base_of Pending = 200
base_of Overflow = 150
base_of WContext = 125
base_of WState = 100
base_of Timeout = 75
base_of WrongParam = 50
base_of IlUse = 25
base_of NoExs = 0
base_of Dlt = 225
base_of Released = 225
base_of Unsound = 225

abbrev pub kept_of : Code → ℕ → ℕ
kept_of c running = base_of c + cond (ltb 24 running) 24 running

-- the code of what is kept
unfoldable pub slot_in : ℕ → ℕ
slot_in k = cond (ltb k 50) (3 + k / 25) (5 + k / 25)

-- and its running task
abbrev pub runs_in : ℕ → ℕ
runs_in k = k % 25
