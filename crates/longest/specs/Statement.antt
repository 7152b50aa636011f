-- How many calls a file can hold and how long its answer can be, if the file is not too long: at most 65,536 bytes.
-- They speak of the rows, the text and the outcome of runner, and are proved in proofs/Longest and proofs/Reached.
use Rattle.std.specs.Prelude.{◌≡◌, Bool, true, false, List, ◌∷◌, ◌++◌, ℕ, zero, suc, ◌≤◌, length, Some, Ok, Err}
use Rattle.text.specs.Bytes.{bytes}
use Rattle.lines.specs.Lines.{header_of}
use Rattle.runner.specs.declared.Refusal.TheVariants.{Short}
use Rattle.walk.specs.Script.{script_of}
use Rattle.walk.specs.Rows.{rows_of, text_of}
use Rattle.runner.specs.Outcome.{ran_of}

abbrev pub FewCalls : Type 0
FewCalls = (file : List ℕ) → length file ≤ 65536 → length (rows_of (script_of file)) ≤ 3639

-- on lines of six fields
abbrev pub FewWideCalls : Type 0
FewWideCalls = (file : List ℕ) (h : ℕ) → length file ≤ 65536 → header_of file ≡ Some (record { wide = true; next = h }) → length (rows_of (script_of file)) ≤ 3448

abbrev pub ShortAnswer : Type 0
ShortAnswer = (file : List ℕ) → length file ≤ 65536 → length (text_of (script_of file)) ≤ 42576

-- so a buffer of that many bytes is never too short
abbrev pub RoomEnough : Type 0
RoomEnough = (file : List ℕ) (room : ℕ) → 42576 ≤ room → ran_of file room ≡ Err Short → ⊥

-- the buffer of runlist
abbrev pub NeverShort : Type 0
NeverShort = (file : List ℕ) → ran_of file 65536 ≡ Err Short → ⊥

-- ---- files that hold so many calls, and one that has so long an answer
-- a call that is refused, in five fields or in six
abbrev pub refusal : Bool → List ℕ
refusal false = bytes "I,tn_task_exit,,,"
refusal true = bytes "I,tn_task_exit,,,,"

-- n of them, each with a line end, and one more without
unfoldable pub refusals : Bool → ℕ → List ℕ
refusals wide zero = refusal wide
refusals wide (suc n) = refusal wide ++ (10 ∷ refusals wide n)

-- the first call creates task 10, which runs from then on
unfoldable pub longest : List ℕ
longest = bytes "ctx,service,a,b,c\n" ++ (bytes "T,tn_task_create,10,1,1\n" ++ refusals false 3637)

abbrev pub Reached : Type 0
Reached = (length (rows_of (script_of longest)) ≡ 3639) × (ran_of longest 42576 ≡ Ok 42576)

-- on lines of six fields
unfoldable pub longest_wide : List ℕ
longest_wide = bytes "ctx,service,a,b,c,d\n" ++ refusals true 3447

abbrev pub WideReached : Type 0
WideReached = (length longest_wide ≤ 65536) × (header_of longest_wide ≡ Some (record { wide = true; next = 20 })) × (length (rows_of (script_of longest_wide)) ≡ 3448)
