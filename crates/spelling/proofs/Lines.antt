-- A line or a header that reads in the one spelling reads in the other, to the same call, and what follows is spelled alike.
-- It rests on the laws of its fields, and on no service's name having an f or a 4, which antt computes.
use Prim.Native.Nat.{ℕ, ◌+◌}
use mathlib.Core.Path.{◌≡◌, refl}
use mathlib.Core.Bool.{Bool, true, false, cond, ◌&&◌}
use mathlib.Core.List.{List, [], ◌∷◌}
use lib.Dec.{T as So}
use lib.ListN.{length, drop}
use lib.Seq.{drop-drop}
use Rattle.std.specs.Prelude.{Option, Some, None, IfSome}
use Rattle.text.specs.Bytes.{bytes, begins}
use Rattle.text.proofs.Reading.{cond_by}
use Rattle.model.specs.declared.Context.{Context}
use Rattle.model.specs.Services.{Service, services}
use Rattle.model.proofs.Words.{table}
use Rattle.services.specs.declared.names.Name.{Name}
use Rattle.services.specs.declared.takes.Takes.{Takes}
use Rattle.services.specs.declared.takes.Takes.TheVariants.{Blank, Plain, Timeout}
use Rattle.services.specs.Names.{label, begun, name_in, name_of}
use Rattle.services.specs.Takes.{takes_at}
use Rattle.services.proofs.Numbers.{both_left, both_right}
use Rattle.services.proofs.Held.{begun-begins}
use Rattle.lines.specs.declared.fields.Tail.{Tail}
use Rattle.lines.specs.declared.fields.Fields.{Fields}
use Rattle.lines.specs.declared.line.Line.{Line}
use Rattle.lines.specs.declared.line.Header.{Header}
use Rattle.lines.specs.Fields.{and_then, comma_field, end_of, last_field, zero_if_blank, narrow_tail, wide_tail, tail_of, fields_of}
use Rattle.lines.specs.Lines.{letter_of, line_of, headed, header_of}
use Rattle.lines.proofs.Within.{then_by}
use Rattle.spelling.specs.Statement.{Spelled}
use Rattle.spelling.proofs.Spelled.{clean, begins_same, begins_rest, Reads, both_read, further}
use Rattle.spelling.proofs.Fields.{comma_on, last_on, end_same, end_on}

-- ---- the fields c and d
abbrev TailOn : Option Tail → Option Tail → List ℕ → List ℕ → Type 0
TailOn o r s t = IfSome o (λ x. Reads (λ n. Some (record { c = x.c; d = x.d; next = n })) r (drop x.next s) t)

module _ {s t : List ℕ} (n : ℕ) (p : Spelled s t) where
  narrow_on : TailOn (narrow_tail n s) (narrow_tail n t) s t
  unfolding narrow_tail
  narrow_on = go (takes_at n 3)
    where
      go : (d : Takes)
          → TailOn (and_then (zero_if_blank d) (λ d. and_then (last_field (takes_at n 2) s) (λ c. Some (record { c = c.value; d = d.value; next = c.next }))))
          (and_then (zero_if_blank d) (λ d. and_then (last_field (takes_at n 2) t) (λ c. Some (record { c = c.value; d = d.value; next = c.next })))) s t
      go Blank =
          then_by _ (last_field (takes_at n 2) s) _ (last_on (takes_at n 2) p) (λ c x.
          record { next = x.next; reads = simp x.reads; follows = x.follows })
      go Plain = tt
      go Timeout = tt

  wide_on : TailOn (wide_tail n s) (wide_tail n t) s t
  unfolding wide_tail
  wide_on =
      then_by _ (comma_field (takes_at n 2) s) _ (comma_on (takes_at n 2) p) (λ c x.
      then_by _ (last_field (takes_at n 3) (drop c.next s)) _ (last_on (takes_at n 3) x.follows) (λ d y.
      record { next = x.next + y.next; reads = simp x.reads (simp y.reads); follows = further s t c.next d.next x.next y }))

tail_on : {s t : List ℕ} (wide : Bool) (n : ℕ) → Spelled s t → TailOn (tail_of wide n s) (tail_of wide n t) s t
unfolding tail_of
tail_on true n p = wide_on n p
tail_on false n p = narrow_on n p

-- ---- all fields
abbrev FieldsOn : Option Fields → Option Fields → List ℕ → List ℕ → Type 0
FieldsOn o r s t = IfSome o (λ x. Reads (λ n. Some (record { a = x.a; b = x.b; c = x.c; d = x.d; next = n })) r (drop x.next s) t)

fields_on : {s t : List ℕ} (wide : Bool) (n : ℕ) → Spelled s t → FieldsOn (fields_of wide n s) (fields_of wide n t) s t
unfolding fields_of
fields_on {s} {t} wide n p =
    then_by _ (comma_field (takes_at n 0) s) _ (comma_on (takes_at n 0) p) (λ a x.
    then_by _ (comma_field (takes_at n 1) (drop a.next s)) _ (comma_on (takes_at n 1) x.follows) (λ b y.
    then_by _ (tail_of wide n (drop (a.next + b.next) s)) _ (tail_on wide n (further s t a.next b.next x.next y)) (λ f z.
    record { next = x.next + y.next + z.next; reads = simp x.reads (simp y.reads (simp z.reads)); follows = further s t (a.next + b.next) f.next (x.next + y.next) z })))

-- ---- context and service
letter_same : {s t : List ℕ} → Spelled s t → letter_of t ≡ letter_of s
unfolding letter_of clean
letter_same p = rw (begins_same (bytes "T,") tt p, begins_same (bytes "I,") tt p)

abbrev LetterOn : Option Context → List ℕ → List ℕ → Type 0
LetterOn o s t = IfSome o (λ x. Spelled (drop 2 s) (drop 2 t))

letter_on : {s t : List ℕ} → Spelled s t → LetterOn (letter_of s) s t
unfolding letter_of clean
letter_on {s} {t} p =
    let P : Option Context → Type 0 = λ (o : Option Context). LetterOn o s t in
    cond_by P (begins s (bytes "T,")) _ _ (λ e. begins_rest (bytes "T,") tt p e)
    (cond_by P (begins s (bytes "I,")) _ None (λ e. begins_rest (bytes "I,") tt p e) tt)

unfoldable clean_all : List Service → Bool
clean_all [] = true
clean_all (x ∷ xs) = clean (label x) && clean_all xs

abbrev NameOn : Option Name → List ℕ → List ℕ → Type 0
NameOn o s t = IfSome o (λ x. Spelled (drop x.next s) (drop x.next t))

name_among : {s t : List ℕ} (xs : List Service) → So (clean_all xs) → (k : ℕ) → Spelled s t → (name_in xs k t ≡ name_in xs k s) × NameOn (name_in xs k s) s t
unfolding name_in clean_all
name_among [] c k p = (refl, tt)
name_among {s} {t} (x ∷ xs) c k p =
    let here = both_left (clean (label x)) (clean_all xs) c in
    let more = name_among xs (both_right (clean (label x)) (clean_all xs) c) (k + 1) p in (
      rw (begins_same (label x) here p, more.0),
      cond_by (λ (o : Option Name). NameOn o s t) (begun s x) _ (name_in xs (k + 1) s) (λ e. begins_rest (label x) here p (begun-begins s x e)) more.1,
    )

name_on : {s t : List ℕ} → Spelled s t → (name_of t ≡ name_of s) × NameOn (name_of s) s t
unfolding name_of table label clean clean_all
name_on p = name_among services tt 1 p

-- ---- the line
abbrev pub LineOn : Option Line → Option Line → List ℕ → List ℕ → Type 0
LineOn o r s t = IfSome o (λ x. Reads (λ n. Some (record { context = x.context; call = x.call; next = n })) r (drop x.next s) t)

pub line_on : {s t : List ℕ} (wide : Bool) → Spelled s t → LineOn (line_of wide s) (line_of wide t) s t
unfolding line_of
line_on {s} {t} wide p =
    then_by _ (letter_of s) _ (both_read _ (letter_of s) (letter_of t) (letter_same p) (letter_on p)) (λ x h.
    let q = name_on h.1 in
    then_by _ (name_of (drop 2 s)) _ (both_read _ (name_of (drop 2 s)) (name_of (drop 2 t)) q.0 q.1) (λ k g.
    then_by _ (fields_of wide k.number (drop (2 + k.next) s)) _ (fields_on wide k.number (rw (drop-drop k.next 2 s, drop-drop k.next 2 t) at g.1)) (λ f y.
    record { next = 2 + k.next + y.next; reads = simp h.0 (simp g.0 (simp y.reads)); follows = further s t (2 + k.next) f.next (2 + k.next) y })))

-- ---- the header: it has as many bytes in both
abbrev pub HeaderOn : Option Header → List ℕ → List ℕ → Type 0
HeaderOn o s t = IfSome o (λ x. Spelled (drop x.next s) (drop x.next t))

headed_on : {s t : List ℕ} (u : List ℕ) (wide : Bool) → So (clean u) → Spelled s t → (headed u wide t ≡ headed u wide s) × HeaderOn (headed u wide s) s t
unfolding headed
headed_on {s} {t} u wide c p = go (begins s u) refl
  where
    rest : begins s u ≡ true → Spelled (drop (length u) s) (drop (length u) t)
    rest e = begins_rest u c p e

    the_end : List ℕ → Option Header
    the_end s = and_then (end_of (drop (length u) s)) (λ k. Some (record { wide = wide; next = length u + k }))

    go : (b : Bool) → begins s u ≡ b → (cond (begins t u) (the_end t) None ≡ cond b (the_end s) None) × HeaderOn (cond b (the_end s) None) s t
    go true e = (
      rw (begins_same u c p, e, end_same (rest e)),
      then_by _ (end_of (drop (length u) s)) _ (end_on (rest e)) (λ k y. rw (drop-drop k (length u) s, drop-drop k (length u) t) at y),
    )
    go false e = (rw (begins_same u c p, e), tt)

pub header_on : {s t : List ℕ} → Spelled s t → (header_of t ≡ header_of s) × HeaderOn (header_of s) s t
unfolding header_of clean
header_on {s} {t} p =
    let wide = headed_on (bytes "ctx,service,a,b,c,d") true tt p in
    let narrow = headed_on (bytes "ctx,service,a,b,c") false tt p in (
      rw (begins_same (bytes "ctx,service,a,b,c,d") tt p, wide.0, narrow.0),
      cond_by (λ (o : Option Header). HeaderOn o s t) (begins s (bytes "ctx,service,a,b,c,d")) (headed (bytes "ctx,service,a,b,c,d") true s) (headed (bytes "ctx,service,a,b,c") false s) (λ _. wide.1) narrow.1,
    )
