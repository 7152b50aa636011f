-- A field that reads in the one spelling reads in the other, to the same number, and what follows is spelled alike: by its comma or its line end.
-- It rests on the laws of two spellings, and on what ends a field being neither a digit nor the first byte of the word.
use Prim.Native.Nat.{ℕ, ◌+◌}
use mathlib.Core.Path.{◌≡◌, refl, sym, ap, ◌∙◌}
use mathlib.Core.Bool.{Bool, true, false, cond, false≢true}
use mathlib.Core.List.{List, [], ◌∷◌, ◌++◌}
use native.Mathlib.Omega.{arith}
use lib.Dec.{eqb}
use lib.ListN.{length, get_or, drop}
use lib.Seq.{drop-drop}
use borrow.Author.Tests.{eq-eqb, eqb-true}
use Rattle.std.specs.Prelude.{Option, Some, None, IfSome}
use Rattle.text.specs.declared.number.Number.{Number}
use Rattle.text.specs.Number.{is_digit, digits, value_after, numeral, number_of}
use Rattle.text.specs.Bytes.{bytes, begins}
use Rattle.text.proofs.Begins.{begins_at}
use Rattle.text.proofs.Reading.{cond_by}
use Rattle.model.specs.Task.{endless}
use Rattle.services.specs.declared.takes.Takes.{Takes}
use Rattle.services.specs.declared.takes.Takes.TheVariants.{Blank, Plain, Timeout}
use Rattle.lines.specs.declared.fields.Said.{Said}
use Rattle.lines.specs.declared.fields.Said.TheVariants.{Forever}
use Rattle.lines.specs.Fields.{and_then, word as forever, number_or, said_of, meant, field_of, comma_field, end_of, last_field}
use Rattle.lines.proofs.Within.{then_by}
use Rattle.spelling.specs.Statement.{in_digits, Spelled, done, same, word}
use Rattle.spelling.proofs.Spelled.{NoWord, head_same, tail_same, empty_same, clean, begins_same, begins_rest, digits_same, number_same, number_counted, Reads, both_read, at_drop, not_empty}

-- ---- what may end a field
abbrev pub Stops : ℕ → Type 0
Stops b = (b ≡ 102 → ⊥) × (is_digit b ≡ false)

-- ---- a number, and the word
number_on : {s t : List ℕ} → Spelled s t → (x : Number) → number_of s ≡ Some x → Stops (get_or s x.next 0) → (number_of t ≡ Some x) × Spelled (drop x.next s) (drop x.next t)
number_on {s} {t} p x e stop =
    let q : x.next ≡ length (digits s) = rw e at (number_counted s) in
    let clear : get_or s (length (digits s)) 0 ≡ 102 → ⊥ = rw q at stop.0 in
    (number_same p clear ∙ e, rw (← q) at (digits_same p clear).1)

-- digits that a stop follows are the endless wait
spelled_out : (t : List ℕ) → is_digit (get_or t 0 0) ≡ false → number_of (in_digits ++ t) ≡ Some (record { value = endless; next = 10 })
unfolding number_of numeral digits is_digit value_after
spelled_out [] h = refl
spelled_out (b ∷ t) h = rw h

word_unread : (s : List ℕ) → number_of (102 ∷ s) ≡ None
unfolding number_of numeral digits is_digit value_after
word_unread s = refl

word_said : (s : List ℕ) → begins s (bytes "orever") ≡ true → said_of (102 ∷ s) ≡ Some (Forever 7)
unfolding said_of begins
word_said s e = rw (word_unread s, e)

-- what is said of s, where that is taken
abbrev said_in : Takes → List ℕ → Option Number
said_in takes s = and_then (said_of s) (λ w. meant w takes)

-- the number x, of n bytes
abbrev pub of : Number → ℕ → Option Number
of x n = Some (record { value = x.value; next = n })

abbrev Ticks : List ℕ → List ℕ → Type 0
Ticks rest t = Reads (λ n. Some (record { value = endless; next = n })) (said_in Timeout t) rest t

word_on : {s t : List ℕ} → Spelled s t → begins s forever ≡ true → Stops (get_or s 7 0) → Ticks (drop 7 s) t
unfolding begins said_of clean
word_on done e stop = absurd (false≢true e)
word_on (same {s} {t} b p) e stop = go (eqb b 102) refl e
  where
    go : (x : Bool) → eqb b 102 ≡ x → cond x (begins s (bytes "orever")) false ≡ true → Ticks (drop 6 s) (b ∷ t)
    go true q e =
        rw (eqb-true b 102 q)
        (record { next = 7; reads = rw (word_said t (begins_same (bytes "orever") tt p ∙ e)); follows = begins_rest (bytes "orever") tt p e })
    go false q e = absurd (false≢true e)
word_on (word {s} {t} p) e stop =
    record {
      next = 10;
      reads = rw (spelled_out t (ap is_digit (head_same p stop.0) ∙ stop.1));
      follows = p;
    }

-- ---- a field, by what is taken there
abbrev FieldOn : Option Number → Option Number → List ℕ → List ℕ → Type 0
FieldOn o r s t = IfSome o (λ x. Stops (get_or s x.next 0) → Reads (of x) r (drop x.next s) t)

said_on : {s t : List ℕ} (takes : Takes) → Spelled s t → FieldOn (said_in takes s) (said_in takes t) s t
unfolding said_of
said_on {s} {t} takes p = go (number_of s) refl
  where
    worded : (takes : Takes) → begins s forever ≡ true → FieldOn (meant (Forever (length forever)) takes) (said_in takes t) s t
    worded Blank q = tt
    worded Plain q = tt
    worded Timeout q = λ stop. word_on p q stop

    go : (o : Option Number) → number_of s ≡ o
        → FieldOn (and_then (number_or o (cond (begins s forever) (Some (Forever (length forever))) None)) (λ w. meant w takes)) (said_in takes t) s t
    go (Some x) e = λ stop. let y = number_on p x e stop in record { next = x.next; reads = rw y.0; follows = y.1 }
    go None e = cond_by (λ (o : Option Said). FieldOn (and_then o (λ w. meant w takes)) (said_in takes t) s t) (begins s forever) (Some (Forever (length forever))) None (worded takes) tt

field_on : {s t : List ℕ} (takes : Takes) → Spelled s t → FieldOn (field_of takes s) (field_of takes t) s t
unfolding field_of
field_on Blank p = λ stop. record { next = 0; reads = refl; follows = p }
field_on Plain p = said_on Plain p
field_on Timeout p = said_on Timeout p

-- ---- with the comma after it
abbrev pub On : Option Number → Option Number → List ℕ → List ℕ → Type 0
On o r s t = IfSome o (λ x. Reads (of x) r (drop x.next s) t)

comma_stops : (b : ℕ) → b ≡ 44 → Stops b
unfolding is_digit
comma_stops b e = (λ q. omega (arith, e, q), rw e)

pub comma_on : {s t : List ℕ} (takes : Takes) → Spelled s t → On (comma_field takes s) (comma_field takes t) s t
unfolding comma_field
comma_on {s} {t} takes p =
    then_by _ (field_of takes s) _ (field_on takes p) (λ x f.
    cond_by (λ (o : Option Number). On o (comma_field takes t) s t) (eqb (get_or s x.next 0) 44) (of x (x.next + 1)) None
    (λ q. let e = eqb-true (get_or s x.next 0) 44 q in made x e (f (comma_stops (get_or s x.next 0) e))) tt)
  where
    made : (x : Number) → get_or s x.next 0 ≡ 44 → Reads (of x) (field_of takes t) (drop x.next s) t → Reads (of x) (comma_field takes t) (drop (x.next + 1) s) t
    made x e y =
        let at : get_or (drop x.next s) 0 0 ≡ 44 = at_drop x.next s ∙ e in
        let clear : NoWord (drop x.next s) = λ q. omega (arith, at, q) in
        let byte : get_or t y.next 0 ≡ 44 = sym (at_drop y.next t) ∙ head_same y.follows clear ∙ at in
        record {
          next = y.next + 1;
          reads = simp y.reads (simp (eq-eqb _ 44 byte));
          follows = rw (drop-drop 1 x.next s, drop-drop 1 y.next t) at (tail_same y.follows clear);
        }

-- ---- with the line end after it
pub end_same : {s t : List ℕ} → Spelled s t → end_of t ≡ end_of s
unfolding end_of clean
end_same p = rw (empty_same p, begins_same (bytes "\n") tt p, begins_same (bytes "\r\n") tt p)

abbrev EndStops : Option ℕ → List ℕ → Type 0
EndStops o s = IfSome o (λ k. Stops (get_or s 0 0))

abbrev pub EndOn : Option ℕ → List ℕ → List ℕ → Type 0
EndOn o s t = IfSome o (λ k. Spelled (drop k s) (drop k t))

empty_stops : (s : List ℕ) → eqb (length s) 0 ≡ true → Stops (get_or s 0 0)
unfolding is_digit
empty_stops [] e = (λ q. omega (arith, q), refl)
empty_stops (b ∷ s) e = absurd (false≢true (sym (not_empty b s) ∙ e))

byte_stops : (s u : List ℕ) (b : ℕ) → begins s (b ∷ u) ≡ true → Stops b → Stops (get_or s 0 0)
byte_stops s u b e stop = rw (begins_at s (b ∷ u) e 0 (omega arith)) stop

end_stops : (s : List ℕ) → EndStops (end_of s) s
unfolding end_of is_digit
end_stops s =
    let P : Option ℕ → Type 0 = λ (o : Option ℕ). EndStops o s in
    cond_by P (eqb (length s) 0) (Some 0) _ (λ e. empty_stops s e)
    (cond_by P (begins s (bytes "\n")) (Some 1) _ (λ e. byte_stops s [] 10 e ((λ q. omega (arith, q)), refl))
    (cond_by P (begins s (bytes "\r\n")) (Some 2) None (λ e. byte_stops s (bytes "\n") 13 e ((λ q. omega (arith, q)), refl)) tt))

pub end_on : {s t : List ℕ} → Spelled s t → EndOn (end_of s) s t
unfolding end_of clean
end_on {s} {t} p =
    let P : Option ℕ → Type 0 = λ (o : Option ℕ). EndOn o s t in
    cond_by P (eqb (length s) 0) (Some 0) _ (λ _. p)
    (cond_by P (begins s (bytes "\n")) (Some 1) _ (λ e. begins_rest (bytes "\n") tt p e)
    (cond_by P (begins s (bytes "\r\n")) (Some 2) None (λ e. begins_rest (bytes "\r\n") tt p e) tt))

pub last_on : {s t : List ℕ} (takes : Takes) → Spelled s t → On (last_field takes s) (last_field takes t) s t
unfolding last_field
last_on {s} {t} takes p =
    then_by _ (field_of takes s) _ (field_on takes p) (λ x f.
    then_by _ (end_of (drop x.next s)) _ (both_read _ (end_of (drop x.next s)) (end_of (drop x.next s)) refl (end_stops (drop x.next s))) (λ k e.
    made x f k e.0 e.1))
  where
    made : (x : Number) → (Stops (get_or s x.next 0) → Reads (of x) (field_of takes t) (drop x.next s) t)
        → (k : ℕ) → end_of (drop x.next s) ≡ Some k → Stops (get_or (drop x.next s) 0 0) → Reads (of x) (last_field takes t) (drop (x.next + k) s) t
    made x f k e stop =
        let y = f (rw (at_drop x.next s) at stop) in
        record {
          next = y.next + k;
          reads = simp y.reads (simp (end_same y.follows ∙ e));
          follows = rw (drop-drop k x.next s, drop-drop k y.next t) at (rw e at (end_on y.follows));
        }
