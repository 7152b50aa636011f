-- What the lines of a file give: the calls in order, to the end or to the first line that can't be read, the header being line 1.
-- Rests on the reader of one line.
use Rattle.std.specs.Prelude.{ℕ, zero, suc, ◌+◌, ◌-◌, Bool, Option, Some, None, List, [], ◌∷◌}
use Rattle.model.specs.declared.Context.{Context}
use Rattle.model.specs.declared.Call.{Call}
use Rattle.lines.specs.declared.line.Line.{Line}
use Rattle.lines.specs.declared.line.Header.{Header}
use Rattle.lines.specs.Lines.{line_of, header_of}

pub data Script : Type 0 where
  done : Script
  fault : ℕ → Script
  next : Context → Call → Script → Script

abbrev pub line_then : Option Line → ℕ → (Context → Call → ℕ → Script) → Script
line_then (Some x) l f = f x.context x.call x.next
line_then None l f = fault l

-- the lines of s, wide or not, after its first k bytes; the first of them is line l
unfoldable pub script_in : Bool → ℕ → List ℕ → ℕ → Script
script_in wide k [] l = done
script_in wide (suc k) (b ∷ s) l = script_in wide k s l
script_in wide zero (b ∷ s) l = line_then (line_of wide (b ∷ s)) l (λ x c n. next x c (script_in wide (n - 1) s (l + 1)))

abbrev pub header_then : Option Header → (Bool → ℕ → Script) → Script
header_then (Some x) f = f x.wide x.next
header_then None f = fault 1

unfoldable pub script_of : List ℕ → Script
script_of file = header_then (header_of file) (λ wide h. script_in wide h file 2)

-- the first line that can't be read, or 0
unfoldable pub fault_of : Script → ℕ
fault_of done = 0
fault_of (fault l) = l
fault_of (next x c rest) = fault_of rest
