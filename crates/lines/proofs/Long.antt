-- A line that reads has at least 17 bytes: context and comma, the shortest name with its comma, two commas more; a wide one has a
-- third comma, and 18. The header has 17, or 19. It rests on the table of services.
use Prim.Native.Nat.{ℕ, ◌+◌, ◌*◌, ◌≤◌}
use mathlib.Core.Bool.{Bool, true, false, cond}
use mathlib.Core.List.{List, [], ◌∷◌}
use native.Mathlib.Omega.{arith}
use lib.Dec.{T as So, eqb}
use lib.ListN.{length, get_or, drop}
use Rattle.std.specs.Prelude.{Option, Some, None, IfSome}
use Rattle.text.specs.declared.number.Number.{Number}
use Rattle.text.specs.Bytes.{bytes, begins}
use Rattle.text.proofs.Reading.{cond_by}
use Rattle.model.specs.Services.{Service, services}
use Rattle.model.proofs.Words.{table}
use Rattle.services.specs.declared.names.Name.{Name}
use Rattle.services.specs.Names.{label, begun, name_in, name_of}
use Rattle.services.specs.declared.takes.Takes.{Takes}
use Rattle.services.specs.Takes.{takes_at}
use Rattle.services.proofs.Numbers.{both_left, both_right}
use Rattle.services.proofs.Held.{is_long, begun_long}
use Rattle.services.proofs.Keys.{long}
use Rattle.lines.specs.declared.fields.Tail.{Tail}
use Rattle.lines.specs.declared.fields.Fields.{Fields}
use Rattle.lines.specs.declared.line.Line.{Line}
use Rattle.lines.specs.declared.line.Header.{Header}
use Rattle.lines.specs.Fields.{field_of, comma_field, end_of, last_field, zero_if_blank, narrow_tail, wide_tail, tail_of, fields_of}
use Rattle.lines.specs.Lines.{letter_of, line_of, headed, header_of}
use Rattle.lines.proofs.Within.{then_by}

-- each answer's length is at least that
abbrev pub NameHas : Option Name → Type 0
NameHas o = IfSome o (λ x. 13 ≤ x.next)

abbrev pub NumberHas : Option Number → Type 0
NumberHas o = IfSome o (λ x. 1 ≤ x.next)

-- the comma that only a wide line has
abbrev pub extra : Bool → ℕ
extra wide = cond wide 1 0

abbrev TailHas : Bool → Option Tail → Type 0
TailHas wide o = IfSome o (λ x. extra wide ≤ x.next)

abbrev FieldsHas : Bool → Option Fields → Type 0
FieldsHas wide o = IfSome o (λ x. 2 + extra wide ≤ x.next)

abbrev pub LineHas : Bool → Option Line → Type 0
LineHas wide o = IfSome o (λ x. 17 + extra wide ≤ x.next)

abbrev pub HeaderHas : Option Header → Type 0
HeaderHas o = IfSome o (λ x. 17 + 2 * extra x.wide ≤ x.next)

-- of an answer of which nothing is asked
abbrev pub Any : {A : Type 0} → A → Type 0
Any x = Unit

pub anything : {A : Type 0} (o : Option A) → IfSome o Any
anything (Some x) = tt
anything None = tt

name_among : (xs : List Service) → So (long xs) → (k : ℕ) (s : List ℕ) → NameHas (name_in xs k s)
unfolding name_in long
name_among [] t k s = tt
name_among (x ∷ xs) t k s =
    cond_by NameHas (begun s x) (Some (record { number = k; next = length (label x) })) (name_in xs (k + 1) s)
    (begun_long s x (both_left (is_long x) (long xs) t)) (name_among xs (both_right (is_long x) (long xs) t) (k + 1) s)

pub name_has : (s : List ℕ) → NameHas (name_of s)
unfolding name_of table long label
name_has s = name_among services tt 1 s

pub comma_has : (takes : Takes) (s : List ℕ) → NumberHas (comma_field takes s)
unfolding comma_field
comma_has takes s =
    then_by _ (field_of takes s) _ (anything (field_of takes s)) (λ x _.
    cond_by NumberHas (eqb (get_or s x.next 0) 44) (Some (record { value = x.value; next = x.next + 1 })) None (λ e. omega arith) tt)

tail_has : (wide : Bool) (n : ℕ) (s : List ℕ) → TailHas wide (tail_of wide n s)
unfolding tail_of wide_tail narrow_tail
tail_has true n s =
    then_by _ (comma_field (takes_at n 2) s) _ (comma_has (takes_at n 2) s) (λ c h.
    then_by _ (last_field (takes_at n 3) (drop c.next s)) _ (anything (last_field (takes_at n 3) (drop c.next s))) (λ d _. omega arith))
tail_has false n s =
    then_by _ (zero_if_blank (takes_at n 3)) _ (anything (zero_if_blank (takes_at n 3))) (λ d _.
    then_by _ (last_field (takes_at n 2) s) _ (anything (last_field (takes_at n 2) s)) (λ c _. omega arith))

fields_has : (wide : Bool) (n : ℕ) (s : List ℕ) → FieldsHas wide (fields_of wide n s)
unfolding fields_of
fields_has wide n s =
    then_by _ (comma_field (takes_at n 0) s) _ (comma_has (takes_at n 0) s) (λ a h.
    then_by _ (comma_field (takes_at n 1) (drop a.next s)) _ (comma_has (takes_at n 1) (drop a.next s)) (λ b g.
    then_by _ (tail_of wide n (drop (a.next + b.next) s)) _ (tail_has wide n (drop (a.next + b.next) s)) (λ t k. omega arith)))

pub line_has : (wide : Bool) (s : List ℕ) → LineHas wide (line_of wide s)
unfolding line_of
line_has wide s =
    then_by _ (letter_of s) _ (anything (letter_of s)) (λ x _.
    then_by _ (name_of (drop 2 s)) _ (name_has (drop 2 s)) (λ k h.
    then_by _ (fields_of wide k.number (drop (2 + k.next) s)) _ (fields_has wide k.number (drop (2 + k.next) s)) (λ f g. omega arith)))

headed_has : (t : List ℕ) (wide : Bool) (s : List ℕ) → 17 + 2 * extra wide ≤ length t → HeaderHas (headed t wide s)
unfolding headed
headed_has t wide s h =
    cond_by HeaderHas (begins s t) _ None (λ _. then_by _ (end_of (drop (length t) s)) _ (anything (end_of (drop (length t) s))) (λ k _. omega (arith, h))) tt

pub header_has : (s : List ℕ) → HeaderHas (header_of s)
unfolding header_of
header_has s =
    cond_by HeaderHas (begins s (bytes "ctx,service,a,b,c,d")) (headed (bytes "ctx,service,a,b,c,d") true s) (headed (bytes "ctx,service,a,b,c") false s)
    (λ _. headed_has (bytes "ctx,service,a,b,c,d") true s (omega arith)) (headed_has (bytes "ctx,service,a,b,c") false s (omega arith))
