-- What is read lies within the bytes, and a line that reads has at least one.
-- It rests on the definitions of specs/, and on the same of numbers and words in text.
use Prim.Native.Nat.{ℕ, ◌+◌, ◌<◌, ◌≤◌}
use mathlib.Core.Path.{◌≡◌, ap, ◌∙◌}
use mathlib.Core.Bool.{Bool, true, false, cond}
use mathlib.Core.List.{List, [], ◌∷◌}
use native.Mathlib.Omega.{arith}
use lib.Dec.{eqb}
use lib.ListN.{length, get_or, drop, length-drop}
use borrow.Author.Tests.{eqb-true}
use Rattle.std.specs.Prelude.{Option, Some, None, IfSome}
use Rattle.text.specs.declared.number.Number.{Number}
use Rattle.text.specs.Number.{number_of}
use Rattle.text.specs.Bytes.{bytes, begins}
use Rattle.text.proofs.Places.{is_within}
use Rattle.text.proofs.Begins.{begins_in}
use Rattle.text.proofs.Reading.{NumberIn, cond_by, number_in}
use Rattle.model.specs.declared.Context.{Context}
use Rattle.model.specs.Services.{Service, services}
use Rattle.services.specs.declared.names.Name.{Name}
use Rattle.services.specs.Names.{label, begun, name_in, name_of}
use Rattle.services.specs.declared.takes.Takes.{Takes}
use Rattle.services.specs.declared.takes.Takes.TheVariants.{Blank, Plain, Timeout}
use Rattle.services.specs.Takes.{takes_at}
use Rattle.services.proofs.Held.{begun-begins}
use Rattle.lines.specs.declared.fields.Said.{Said}
use Rattle.lines.specs.declared.fields.Said.TheVariants.{Says, Forever}
use Rattle.lines.specs.declared.fields.Tail.{Tail}
use Rattle.lines.specs.declared.fields.Fields.{Fields}
use Rattle.lines.specs.declared.line.Line.{Line}
use Rattle.lines.specs.declared.line.Header.{Header}
use Rattle.lines.specs.Fields.{and_then, word, number_or, said_of, meant, field_of, comma_field, end_of, last_field, zero_if_blank, narrow_tail, wide_tail, middle_of, tail_of, fields_of}
use Rattle.lines.specs.Lines.{letter_of, line_of, headed, header_of}

-- what is made of a value of which P holds has Q, if each such value's has
pub then_by : {A B : Type 0} {P : A → Type 0} (Q : B → Type 0) (o : Option A) (f : A → Option B) → IfSome o P → ((x : A) → P x → IfSome (f x) Q) → IfSome (and_then o f) Q
then_by Q None f h g = tt
then_by Q (Some x) f h g = g x h

-- each answer's length is at most that
abbrev SaidIn : Said → ℕ → Type 0
SaidIn (Says v n) l = n ≤ l
SaidIn (Forever n) l = n ≤ l

abbrev pub EndIn : Option ℕ → ℕ → Type 0
EndIn o l = IfSome o (λ k. k ≤ l)

abbrev pub TailIn : Option Tail → ℕ → Type 0
TailIn o l = IfSome o (λ x. x.next ≤ l)

abbrev pub FieldsIn : Option Fields → ℕ → Type 0
FieldsIn o l = IfSome o (λ x. x.next ≤ l)

abbrev pub LetterIn : Option Context → ℕ → Type 0
LetterIn o l = IfSome o (λ x. 2 ≤ l)

abbrev pub NameIn : Option Name → ℕ → Type 0
NameIn o l = IfSome o (λ x. x.next ≤ l)

abbrev pub LineIn : Option Line → ℕ → Type 0
LineIn o l = IfSome o (λ x. (0 < x.next) × (x.next ≤ l))

abbrev pub HeaderIn : Option Header → ℕ → Type 0
HeaderIn o l = IfSome o (λ x. x.next ≤ l)

-- a length within what is left after n bytes, added to n
pub after : (s : List ℕ) (n k : ℕ) → n ≤ length s → k ≤ length (drop n s) → n + k ≤ length s
after s n k h g = omega (arith, simp length-drop at g)

-- what a callee ensures of the kind that it is handed, said of the table's
pub by_table : {r : Option Number} (f : Takes → List ℕ → Option Number) (s : List ℕ) {x y : Takes} → x ≡ y → r ≡ f x s → r ≡ f y s
by_table f s e h = h ∙ ap (λ (k : Takes). f k s) e

-- ---- the fields

said_in : (s : List ℕ) → IfSome (said_of s) (λ t. SaidIn t (length s))
unfolding said_of
said_in s = go (number_of s) (number_in s)
  where
    go : (o : Option Number) → NumberIn o (length s) → IfSome (number_or o (cond (begins s word) (Some (Forever (length word))) None)) (λ t. SaidIn t (length s))
    go (Some x) h = h
    go None h = cond_by (λ (o : Option Said). IfSome o (λ t. SaidIn t (length s))) (begins s word) (Some (Forever (length word))) None (λ e. begins_in s word e) tt

meant_in : (takes : Takes) (l : ℕ) (t : Said) → SaidIn t l → NumberIn (meant t takes) l
meant_in takes l (Says v n) h = h
meant_in Blank l (Forever n) h = tt
meant_in Plain l (Forever n) h = tt
meant_in Timeout l (Forever n) h = h

pub field_in : (takes : Takes) (s : List ℕ) → NumberIn (field_of takes s) (length s)
unfolding field_of
field_in Blank s = omega arith
field_in Plain s = then_by _ (said_of s) _ (said_in s) (meant_in Plain (length s))
field_in Timeout s = then_by _ (said_of s) _ (said_in s) (meant_in Timeout (length s))

pub comma_in : (takes : Takes) (s : List ℕ) → NumberIn (comma_field takes s) (length s)
unfolding comma_field
comma_in takes s =
    then_by _ (field_of takes s) _ (field_in takes s) (λ x _.
    cond_by (λ (o : Option Number). NumberIn o (length s)) (eqb (get_or s x.next 0) 44) (Some (record { value = x.value; next = x.next + 1 })) None
    (λ e. omega (arith, is_within s x.next 44 (omega arith) (eqb-true (get_or s x.next 0) 44 e))) tt)

pub end_in : (s : List ℕ) → EndIn (end_of s) (length s)
unfolding end_of
end_in s =
    let P : Option ℕ → Type 0 = λ (o : Option ℕ). EndIn o (length s) in
    cond_by P (eqb (length s) 0) (Some 0) _ (λ _. omega arith)
    (cond_by P (begins s (bytes "\n")) (Some 1) _ (λ e. begins_in s (bytes "\n") e)
    (cond_by P (begins s (bytes "\r\n")) (Some 2) None (λ e. begins_in s (bytes "\r\n") e) tt))

pub last_in : (takes : Takes) (s : List ℕ) → NumberIn (last_field takes s) (length s)
unfolding last_field
last_in takes s =
    then_by _ (field_of takes s) _ (field_in takes s) (λ x h.
    then_by _ (end_of (drop x.next s)) _ (end_in (drop x.next s)) (λ k g. after s x.next k h g))

blank_in : (d : Takes) (l : ℕ) → NumberIn (zero_if_blank d) l
blank_in Blank l = omega arith
blank_in Plain l = tt
blank_in Timeout l = tt

pub tail_in : (wide : Bool) (n : ℕ) (s : List ℕ) → TailIn (tail_of wide n s) (length s)
unfolding tail_of wide_tail narrow_tail
tail_in true n s =
    then_by _ (comma_field (takes_at n 2) s) _ (comma_in (takes_at n 2) s) (λ c h.
    then_by _ (last_field (takes_at n 3) (drop c.next s)) _ (last_in (takes_at n 3) (drop c.next s)) (λ d g. after s c.next d.next h g))
tail_in false n s =
    then_by _ (zero_if_blank (takes_at n 3)) _ (blank_in (takes_at n 3) (length s)) (λ d _.
    then_by _ (last_field (takes_at n 2) s) _ (last_in (takes_at n 2) s) (λ c h. h))

pub middle_in : (wide : Bool) (n : ℕ) (s : List ℕ) → NumberIn (middle_of wide n s) (length s)
unfolding middle_of
middle_in true n s = comma_in (takes_at n 2) s
middle_in false n s = blank_in (takes_at n 3) (length s)

pub fields_in : (wide : Bool) (n : ℕ) (s : List ℕ) → FieldsIn (fields_of wide n s) (length s)
unfolding fields_of
fields_in wide n s =
    then_by _ (comma_field (takes_at n 0) s) _ (comma_in (takes_at n 0) s) (λ a h.
    then_by _ (comma_field (takes_at n 1) (drop a.next s)) _ (comma_in (takes_at n 1) (drop a.next s)) (λ b g.
    then_by _ (tail_of wide n (drop (a.next + b.next) s)) _ (tail_in wide n (drop (a.next + b.next) s)) (λ t k.
    after s (a.next + b.next) t.next (after s a.next b.next h g) k)))

-- ---- the line and the header

pub letter_in : (s : List ℕ) → LetterIn (letter_of s) (length s)
unfolding letter_of
letter_in s =
    let P : Option Context → Type 0 = λ (o : Option Context). LetterIn o (length s) in
    cond_by P (begins s (bytes "T,")) _ _ (λ e. begins_in s (bytes "T,") e)
    (cond_by P (begins s (bytes "I,")) _ None (λ e. begins_in s (bytes "I,") e) tt)

name_among : (xs : List Service) (k : ℕ) (s : List ℕ) → NameIn (name_in xs k s) (length s)
unfolding name_in
name_among [] k s = tt
name_among (x ∷ xs) k s =
    cond_by (λ (o : Option Name). NameIn o (length s)) (begun s x) (Some (record { number = k; next = length (label x) })) (name_in xs (k + 1) s)
    (λ e. begins_in s (label x) (begun-begins s x e)) (name_among xs (k + 1) s)

pub name_in_lem : (s : List ℕ) → NameIn (name_of s) (length s)
unfolding name_of
name_in_lem s = name_among services 1 s

pub line_in : (wide : Bool) (s : List ℕ) → LineIn (line_of wide s) (length s)
unfolding line_of
line_in wide s =
    then_by _ (letter_of s) _ (letter_in s) (λ x h.
    then_by _ (name_of (drop 2 s)) _ (name_in_lem (drop 2 s)) (λ k g.
    then_by _ (fields_of wide k.number (drop (2 + k.next) s)) _ (fields_in wide k.number (drop (2 + k.next) s)) (λ f e.
    (omega arith, after s (2 + k.next) f.next (after s 2 k.next h g) e))))

headed_in : (t : List ℕ) (wide : Bool) (s : List ℕ) → HeaderIn (headed t wide s) (length s)
unfolding headed
headed_in t wide s =
    cond_by (λ (o : Option Header). HeaderIn o (length s)) (begins s t) _ None
    (λ e. then_by _ (end_of (drop (length t) s)) _ (end_in (drop (length t) s)) (λ k g. after s (length t) k (begins_in s t e) g)) tt

pub header_in : (s : List ℕ) → HeaderIn (header_of s) (length s)
unfolding header_of
header_in s =
    cond_by (λ (o : Option Header). HeaderIn o (length s)) (begins s (bytes "ctx,service,a,b,c,d")) (headed (bytes "ctx,service,a,b,c,d") true s) (headed (bytes "ctx,service,a,b,c") false s)
    (λ _. headed_in (bytes "ctx,service,a,b,c,d") true s) (headed_in (bytes "ctx,service,a,b,c") false s)
