-- How the runner keeps the answers of a list until it knows that they fit: one number a call.
-- Nothing of this is promised; laws in proofs/ say that the text of what is kept is the text of the rows.
use Rattle.std.specs.Prelude.{◌≡◌, ◌<◌, ℕ, ◌+◌, Result, Ok, Err, List, [], ◌∷◌, ◌++◌, map, length, take}
use Rattle.model.specs.State.{fresh}
use Rattle.model.specs.Call.{step}
use Rattle.answers.specs.Slots.{kept_text, kept_of, slot_in, runs_in}
use Rattle.runner.specs.declared.Played.{Played}
use Rattle.runner.specs.declared.Refusal.{Refusal}
use Rattle.runner.specs.declared.Refusal.TheVariants.{Unreadable}
use Rattle.walk.specs.Script.{Script, fault_of}
use Rattle.walk.specs.Rows.{Row, rows_by, rows_text}

-- the rows from call n on, of what is kept of them
unfoldable pub kept_rows : ℕ → List ℕ → List ℕ
kept_rows n [] = []
kept_rows n (k ∷ ks) = kept_text n (slot_in k) (runs_in k) ++ kept_rows (n + 1) ks

abbrev pub keep : Row → ℕ
keep x = kept_of x.code x.running

-- all its answers, and the length of their text
pub record Answered (r : Played) (kept : List ℕ) (p : Script) : Type 0 where
  pub none : fault_of p ≡ 0
  pub count : r.count ≡ length (rows_by step fresh p)
  pub rows : take r.count kept ≡ map keep (rows_by step fresh p)
  pub total : r.total ≡ 16 + length (rows_text 1 (rows_by step fresh p))

-- what playing a script leaves: these, or its first fault
abbrev pub Plays : Result Played Refusal → List ℕ → Script → Type 0
Plays (Ok r) kept p = (length kept ≡ 3639) × Answered r kept p
Plays (Err e) kept p = (length kept ≡ 3639) × (e ≡ Unreadable (fault_of p)) × (0 < fault_of p)
