-- The text of what is kept of a script's rows.
-- It rests on the definitions of specs/.
use Prim.Native.Nat.{ℕ, ◌+◌, ◌≤◌}
use mathlib.Core.Path.{◌≡◌, refl}
use mathlib.Core.List.{List, [], ◌∷◌, map}
use Rattle.text.specs.Decimal.{decimal, decimal_in}
use Rattle.model.specs.declared.Code.{Code}
use Rattle.model.specs.declared.Code.TheVariants.{NoErr, Pending, Overflow, WContext, WState, Timeout, WrongParam, IlUse, NoExs, Dlt, Released, Unsound}
use Rattle.model.specs.Code.{number}
use Rattle.walk.specs.Rows.{Row, signed, row_text, rows_text}
use Rattle.answers.specs.Slots.{slot_of, slot_text, kept_text, base_of}
use Rattle.answers.proofs.Kept.{kept_says}
use Rattle.runner.specs.Kept.{kept_rows, keep}

-- ---- rows
slot_text_lem : (c : Code) → slot_text (slot_of c) ≡ signed (number c)
unfolding slot_text decimal decimal_in
slot_text_lem NoErr = refl
slot_text_lem Pending = refl
slot_text_lem Overflow = refl
slot_text_lem WContext = refl
slot_text_lem WState = refl
slot_text_lem Timeout = refl
slot_text_lem WrongParam = refl
slot_text_lem IlUse = refl
slot_text_lem NoExs = refl
slot_text_lem Dlt = refl
slot_text_lem Released = refl
slot_text_lem Unsound = refl

pub row_kept : (n : ℕ) (r : Row) → row_text n r ≡ kept_text n (slot_of r.code) r.running
unfolding row_text kept_text
row_kept n r = rw (slot_text_lem r.code)

-- ---- what is kept
-- rows that a number each can say: a code of those that answer calls, and a task's number
abbrev pub Kept : List Row → Type 0
Kept [] = Unit
Kept (r ∷ rows) = (base_of r.code ≤ 200) × (r.running ≤ 24) × Kept rows

pub rows_kept : (n : ℕ) (rows : List Row) → Kept rows → rows_text n rows ≡ kept_rows n (map keep rows)
unfolding rows_text kept_rows
rows_kept n [] k = refl
rows_kept n (r ∷ rows) k =
    let y = kept_says r.code r.running k.0 k.1 in
    rw (y.slot, y.runs, row_kept n r, rows_kept (n + 1) rows k.2)
