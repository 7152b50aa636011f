-- One list in two spellings, with the word `forever` and with the digits that it stands for: the same calls and the same answer.
-- They speak of the script and the outcome of a file, and are proved in proofs/Same.
use Rattle.std.specs.Prelude.{ℕ, ◌≤◌, ◌≡◌, List, [], ◌∷◌, ◌++◌, length}
use Rattle.text.specs.Bytes.{bytes}
use Rattle.walk.specs.Script.{script_of, fault_of}
use Rattle.runner.specs.Outcome.{ran_of, buffer_of}

-- the digits that the word stands for
abbrev pub in_digits : List ℕ
in_digits = bytes "4294967295"

-- t is s with some of its words written in digits, wherever they stand
pub data Spelled : List ℕ → List ℕ → Type 0 where
  done : Spelled [] []
  same : {s t : List ℕ} (b : ℕ) → Spelled s t → Spelled (b ∷ s) (b ∷ t)
  word : {s t : List ℕ} → Spelled s t → Spelled (bytes "forever" ++ s) (in_digits ++ t)

-- if every line of s reads
abbrev pub SameCalls : Type 0
SameCalls = (s t : List ℕ) → Spelled s t → fault_of (script_of s) ≡ 0 → script_of t ≡ script_of s

-- and t, which is the longer, is not too long: the same number, and the same bytes in any buffer
abbrev pub SameAnswer : Type 0
SameAnswer = (s t buffer : List ℕ) → Spelled s t → fault_of (script_of s) ≡ 0 → length t ≤ 65536
    → (ran_of t (length buffer) ≡ ran_of s (length buffer)) × (buffer_of (ran_of t (length buffer)) t buffer ≡ buffer_of (ran_of s (length buffer)) s buffer)
