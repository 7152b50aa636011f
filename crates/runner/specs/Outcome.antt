-- What becomes of a file and an answer buffer: the number that the editor gets, and every byte of the buffer.
-- Checked in this order: file too long, first unreadable line, buffer too short.
use Rattle.std.specs.Prelude.{ℕ, ◌+◌, ◌<◌, ◌≤◌, ◌^◌, cond, List, eqb, ltb, length, ℤ, pos, Result, Ok, Err}
use Rattle.std.proofs.lemmas.List.Edits.{sets}
use Rattle.model.specs.Code.{minus}
use Rattle.runner.specs.declared.Refusal.{Refusal}
use Rattle.runner.specs.declared.Refusal.TheVariants.{TooLong, Unreadable, Short}
use Rattle.walk.specs.Script.{Script, script_of, fault_of}
use Rattle.walk.specs.Rows.{text_of}

unfoldable pub judged : Script → ℕ → Result ℕ Refusal
judged script room =
    cond (eqb (fault_of script) 0)
    (cond (ltb room (length (text_of script))) (Err Short) (Ok (length (text_of script))))
    (Err (Unreadable (fault_of script)))

-- a file, and how many bytes the buffer has
unfoldable pub ran_of : List ℕ → ℕ → Result ℕ Refusal
ran_of file room = cond (ltb 65536 (length file)) (Err TooLong) (judged (script_of file) room)

-- bytes written; -1, file too long; -2, buffer too short; -(10 + line), first unreadable line
abbrev pub signed_of : Result ℕ Refusal → ℤ
signed_of (Ok n) = pos n
signed_of (Err TooLong) = minus 1
signed_of (Err Short) = minus 2
signed_of (Err (Unreadable l)) = minus (l + 10)

-- the buffer is written only where the whole answer fits; bytes beyond those written stay
abbrev pub buffer_of : Result ℕ Refusal → List ℕ → List ℕ → List ℕ
buffer_of (Ok n) file b = sets b 0 (text_of (script_of file))
buffer_of (Err e) file b = b

-- how large the numbers can be: a buffer has fewer than 2 ^ 63 bytes, and a file that is not too long few lines
abbrev pub Small : Result ℕ Refusal → Type 0
Small (Ok n) = n < 2 ^ 63
Small (Err TooLong) = Unit
Small (Err Short) = Unit
Small (Err (Unreadable l)) = l ≤ 65538
