-- One line of a list of calls, from its first byte on, and the header.
-- It rests on the table of services and on the fields.
use Rattle.std.specs.Prelude.{ℕ, ◌+◌, Bool, true, false, cond, Option, Some, None, List, length, drop}
use Rattle.text.specs.Bytes.{bytes, begins}
use Rattle.model.specs.declared.Context.{Context}
use Rattle.model.specs.declared.Context.TheVariants.{T, I}
use Rattle.model.specs.Services.{service}
use Rattle.services.specs.Names.{name_of}
use Rattle.lines.specs.declared.line.Line.{Line}
use Rattle.lines.specs.declared.line.Header.{Header}
use Rattle.lines.specs.Fields.{and_then, end_of, fields_of}

-- the context, T or I, and the comma after it
unfoldable pub letter_of : List ℕ → Option Context
letter_of s = cond (begins s (bytes "T,")) (Some T) (cond (begins s (bytes "I,")) (Some I) None)

-- context, service, numbers and the line end: each is read in the part that begins at its first byte
unfoldable pub line_of : Bool → List ℕ → Option Line
line_of wide s =
    and_then (letter_of s) (λ x.
    and_then (name_of (drop 2 s)) (λ k.
    and_then (fields_of wide k.number (drop (2 + k.next) s)) (λ f.
    Some (record { context = x; call = (service k.number).call f.a f.b f.c f.d; next = 2 + k.next + f.next }))))

-- the header t and its line end
unfoldable pub headed : List ℕ → Bool → List ℕ → Option Header
headed t wide s = cond (begins s t) (and_then (end_of (drop (length t) s)) (λ k. Some (record { wide = wide; next = length t + k }))) None

-- its lines are wide, of six fields, or of five
unfoldable pub header_of : List ℕ → Option Header
header_of s = cond (begins s (bytes "ctx,service,a,b,c,d")) (headed (bytes "ctx,service,a,b,c,d") true s) (headed (bytes "ctx,service,a,b,c") false s)
