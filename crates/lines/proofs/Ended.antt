-- A line or header that more bytes follow has a line end, so it has at least 18 bytes; a wide line has 19 and its header 20.
-- It rests on the definitions of specs/, and on the least lengths of Long.
use Prim.Native.Nat.{ℕ, ◌+◌, ◌*◌, ◌<◌, ◌≤◌}
use mathlib.Core.Bool.{Bool, true, false}
use mathlib.Core.List.{List}
use native.Mathlib.Omega.{arith}
use lib.Dec.{eqb}
use lib.ListN.{length, drop, length-drop}
use borrow.Author.Tests.{eqb-true}
use Rattle.std.specs.Prelude.{Option, Some, None, IfSome}
use Rattle.text.specs.declared.number.Number.{Number}
use Rattle.text.specs.Bytes.{bytes, begins}
use Rattle.text.proofs.Reading.{cond_by}
use Rattle.services.specs.declared.takes.Takes.{Takes}
use Rattle.services.specs.Takes.{takes_at}
use Rattle.services.specs.Names.{name_of}
use Rattle.lines.specs.declared.fields.Tail.{Tail}
use Rattle.lines.specs.declared.fields.Fields.{Fields}
use Rattle.lines.specs.declared.line.Line.{Line}
use Rattle.lines.specs.declared.line.Header.{Header}
use Rattle.lines.specs.Fields.{field_of, comma_field, end_of, last_field, zero_if_blank, narrow_tail, wide_tail, tail_of, fields_of}
use Rattle.lines.specs.Lines.{letter_of, line_of, headed, header_of}
use Rattle.lines.proofs.Within.{then_by}
use Rattle.lines.proofs.Long.{extra, anything, name_has, comma_has}

-- of l bytes an answer takes n: that many at least, if more follow
abbrev pub Before : ℕ → ℕ → ℕ → Type 0
Before n l least = n < l → least ≤ n

abbrev EndEnds : Option ℕ → ℕ → Type 0
EndEnds o l = IfSome o (λ k. Before k l 1)

abbrev NumberEnds : Option Number → ℕ → Type 0
NumberEnds o l = IfSome o (λ x. Before x.next l 1)

abbrev TailEnds : Bool → Option Tail → ℕ → Type 0
TailEnds wide o l = IfSome o (λ x. Before x.next l (1 + extra wide))

abbrev FieldsEnd : Bool → Option Fields → ℕ → Type 0
FieldsEnd wide o l = IfSome o (λ x. Before x.next l (3 + extra wide))

abbrev pub LineEnds : Bool → Option Line → ℕ → Type 0
LineEnds wide o l = IfSome o (λ x. Before x.next l (18 + extra wide))

abbrev pub HeaderEnds : Option Header → ℕ → Type 0
HeaderEnds o l = IfSome o (λ x. Before x.next l (18 + 2 * extra x.wide))

-- k of the bytes after the first n
after : (s : List ℕ) (n k most least : ℕ) → Before k (length (drop n s)) least → most ≤ n + least → Before (n + k) (length s) most
after s n k most least g h p = omega (arith, g (simp length-drop (omega arith)))

-- ---- the fields
end_ends : (s : List ℕ) → EndEnds (end_of s) (length s)
unfolding end_of
end_ends s =
    let P : Option ℕ → Type 0 = λ (o : Option ℕ). EndEnds o (length s) in
    cond_by P (eqb (length s) 0) (Some 0) _ (λ e h. omega (arith, eqb-true (length s) 0 e))
    (cond_by P (begins s (bytes "\n")) (Some 1) _ (λ _ h. omega arith)
    (cond_by P (begins s (bytes "\r\n")) (Some 2) None (λ _ h. omega arith) tt))

last_ends : (takes : Takes) (s : List ℕ) → NumberEnds (last_field takes s) (length s)
unfolding last_field
last_ends takes s =
    then_by _ (field_of takes s) _ (anything (field_of takes s)) (λ x _.
    then_by _ (end_of (drop x.next s)) _ (end_ends (drop x.next s)) (λ k g. after s x.next k 1 1 g (omega arith)))

tail_ends : (wide : Bool) (n : ℕ) (s : List ℕ) → TailEnds wide (tail_of wide n s) (length s)
unfolding tail_of wide_tail narrow_tail
tail_ends true n s =
    then_by _ (comma_field (takes_at n 2) s) _ (comma_has (takes_at n 2) s) (λ c h.
    then_by _ (last_field (takes_at n 3) (drop c.next s)) _ (last_ends (takes_at n 3) (drop c.next s)) (λ d g. after s c.next d.next 2 1 g (omega arith)))
tail_ends false n s =
    then_by _ (zero_if_blank (takes_at n 3)) _ (anything (zero_if_blank (takes_at n 3))) (λ d _.
    then_by _ (last_field (takes_at n 2) s) _ (last_ends (takes_at n 2) s) (λ c g. g))

fields_end : (wide : Bool) (n : ℕ) (s : List ℕ) → FieldsEnd wide (fields_of wide n s) (length s)
unfolding fields_of
fields_end wide n s =
    then_by _ (comma_field (takes_at n 0) s) _ (comma_has (takes_at n 0) s) (λ a h.
    then_by _ (comma_field (takes_at n 1) (drop a.next s)) _ (comma_has (takes_at n 1) (drop a.next s)) (λ b g.
    then_by _ (tail_of wide n (drop (a.next + b.next) s)) _ (tail_ends wide n (drop (a.next + b.next) s)) (λ t k.
    after s (a.next + b.next) t.next (3 + extra wide) (1 + extra wide) k (omega arith))))

-- ---- the line and the header
pub line_ends : (wide : Bool) (s : List ℕ) → LineEnds wide (line_of wide s) (length s)
unfolding line_of
line_ends wide s =
    then_by _ (letter_of s) _ (anything (letter_of s)) (λ x _.
    then_by _ (name_of (drop 2 s)) _ (name_has (drop 2 s)) (λ k h.
    then_by _ (fields_of wide k.number (drop (2 + k.next) s)) _ (fields_end wide k.number (drop (2 + k.next) s)) (λ f g.
    after s (2 + k.next) f.next (18 + extra wide) (3 + extra wide) g (omega arith))))

headed_ends : (t : List ℕ) (wide : Bool) (s : List ℕ) → 17 + 2 * extra wide ≤ length t → HeaderEnds (headed t wide s) (length s)
unfolding headed
headed_ends t wide s h =
    cond_by (λ (o : Option Header). HeaderEnds o (length s)) (begins s t) _ None
    (λ _. then_by _ (end_of (drop (length t) s)) _ (end_ends (drop (length t) s)) (λ k g. after s (length t) k (18 + 2 * extra wide) 1 g (omega (arith, h)))) tt

pub header_ends : (s : List ℕ) → HeaderEnds (header_of s) (length s)
unfolding header_of
header_ends s =
    cond_by (λ (o : Option Header). HeaderEnds o (length s)) (begins s (bytes "ctx,service,a,b,c,d")) (headed (bytes "ctx,service,a,b,c,d") true s) (headed (bytes "ctx,service,a,b,c") false s)
    (λ _. headed_ends (bytes "ctx,service,a,b,c,d") true s (omega arith)) (headed_ends (bytes "ctx,service,a,b,c") false s (omega arith))
