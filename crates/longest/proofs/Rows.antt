-- How long the text of a script's rows is at most: the digits of the call numbers and eight bytes a row, the first row's code and task taking one byte less.
-- It rests on Codes, and on the laws of soundness and tested: every state on the way is sound, so each checked call is the step.
use mathlib.Core.Path.{◌≡◌, refl, sym, subst}
use mathlib.Core.List.{List, ◌∷◌}
use Prim.Native.Nat.{ℕ, zero, suc, ◌+◌, ◌-◌, ◌*◌, ◌≤◌}
use native.Mathlib.Omega.{arith}
use lib.ListN.{length, length-append}
use Rattle.text.specs.Decimal.{decimal, decimal_in}
use Rattle.model.specs.declared.State.{State}
use Rattle.model.specs.declared.Context.{Context}
use Rattle.model.specs.declared.Call.{Call}
use Rattle.model.specs.Row.{row, best_from}
use Rattle.model.specs.State.{fresh, running}
use Rattle.model.specs.Code.{number}
use Rattle.model.specs.Call.{step, call}
use Rattle.model.specs.Sound.{Sound}
use Rattle.soundness.proofs.Soundness.{fresh_is_sound, sound_stays_sound}
use Rattle.tested.proofs.Same.{sound_exactly}
use Rattle.walk.specs.Script.{Script, done, fault, next}
use Rattle.walk.specs.Rows.{Row, rows_by, rows_of, signed, row_text, rows_text}
use Rattle.longest.proofs.Codes.{step-code, step_task, step_idle}

-- ---- digits
-- of the m numbers from n on
unfoldable pub digits_from : ℕ → ℕ → ℕ
digits_from n zero = 0
digits_from n (suc m) = length (decimal n) + digits_from (n + 1) m

pub digits_grow : (m most n : ℕ) → m ≤ most → digits_from n m ≤ digits_from n most
unfolding digits_from
digits_grow zero most n h = omega arith
digits_grow (suc m) zero n h = absurd (omega arith)
digits_grow (suc m) (suc most) n h = omega (arith, digits_grow m most (n + 1) (omega arith))

pub digits_all : digits_from 1 3639 ≡ 13449
unfolding digits_from decimal decimal_in
digits_all = refl

-- ---- a row and those after it
pub row_text_lem : (n : ℕ) (r : Row) (rows : List Row)
    → length (rows_text n (r ∷ rows)) ≡ length (decimal n) + length (signed (number r.code)) + length (decimal r.running) + 4 + length (rows_text (n + 1) rows)
unfolding rows_text row_text
row_text_lem n r rows = simp length-append (omega arith)

pub next_rows : (s : State) (x : Context) (c : Call) (p : Script) → Sound s
    → rows_by call s (next x c p) ≡ record { code = (step s x c).code; running = (step s x c).running } ∷ rows_by call (step s x c).state p
unfolding rows_by call
next_rows s x c p k = rw ((sound_exactly s).1 k)

-- ---- all rows
abbrev Most : ℕ → ℕ → List Row → Type 0
Most less n rows = length (rows_text n rows) ≤ digits_from n (length rows) + 8 * length rows - less

module _ (s : State) (x : Context) (c : Call) (p : Script) (k : Sound s) where
  most_next : (less n : ℕ) → length (signed (number (step s x c).code)) + length (decimal (step s x c).running) + less ≤ 4
      → Most 0 (n + 1) (rows_by call (step s x c).state p) → Most less n (rows_by call s (next x c p))
  unfolding digits_from
  most_next less n h rest =
      subst (Most less n) (sym (next_rows s x c p k))
      (omega (arith, row_text_lem n (record { code = (step s x c).code; running = (step s x c).running }) (rows_by call (step s x c).state p)))

rows_most : (p : Script) (s : State) (n : ℕ) → Sound s → Most 0 n (rows_by call s p)
unfolding rows_text rows_by
rows_most done s n k = omega arith
rows_most (fault l) s n k = omega arith
rows_most (next x c p) s n k = most_next s x c p k 0 n (omega (arith, step-code s x c, step_task s x c k)) (rows_most p (step s x c).state (n + 1) (sound_stays_sound s x c k))

nobody_runs : running fresh ≡ 0
unfolding running best_from row
nobody_runs = refl

pub all_most : (p : Script) → Most 1 1 (rows_of p)
unfolding rows_text rows_by
all_most done = omega arith
all_most (fault l) = omega arith
all_most (next x c p) =
    let k = fresh_is_sound in most_next fresh x c p k 1 1 (omega (arith, step_idle fresh x c k nobody_runs)) (rows_most p (step fresh x c).state 2 (sound_stays_sound fresh x c k))
