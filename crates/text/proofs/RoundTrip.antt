-- What the printer writes the reader reads back: the two definitions fit each other.
-- It rests on the laws of a number's digits and of reading them.
use Prim.Native.Nat.{ℕ, zero, suc, ◌+◌, ◌-◌, ◌*◌, ◌/◌, ◌%◌, ◌<◌, ◌≤◌}
use mathlib.Core.Path.{◌≡◌, refl, ap, ◌∙◌}
use mathlib.Core.Bool.{Bool, true, false}
use mathlib.Core.List.{List, [], ◌∷◌, ◌++◌, append_assoc, append-nil}
use native.Mathlib.Omega.{arith}
use Rattle.std.specs.Prelude.{Some}
use lib.Dec.{ltb}
use lib.ListN.{length, get_or, length-append, get_or-append}
use borrow.Author.Tests.{ltb-true, ltb-false, le-leb, ne_eqb}
use Rattle.text.specs.Number.{is_digit, digits, value_after, numeral, number_of}
use Rattle.text.specs.Decimal.{decimal}
use Rattle.text.proofs.Digits.{decimal_one, decimal_step}
use Rattle.text.proofs.Reading.{digit_in}

value_append : (v : ℕ) (xs ys : List ℕ) → value_after v (xs ++ ys) ≡ value_after (value_after v xs) ys
unfolding value_after
value_append v [] ys = refl
value_append v (x ∷ xs) ys = value_append (v * 10 + (x - 48)) xs ys

-- what is read of n's digits, whatever follows them
record Printed (n : ℕ) : Type 0 where
  all : (rest : List ℕ) → digits (decimal n ++ rest) ≡ decimal n ++ digits rest
  value : value_after 0 (decimal n) ≡ n
  some : 0 < length (decimal n)
  -- above 0 the first is no 0, and a single one is below 10
  first : 0 < n → 48 < get_or (decimal n) 0 0
  single : 9 < n → 1 < length (decimal n)

one : (n : ℕ) → n ≤ 9 → Printed n
unfolding digits value_after
one n h =
    let e = decimal_one n h in
    record {
      all = λ rest. rw (e, digit_in (48 + n) (omega arith) (omega arith));
      value = rw e (omega arith);
      some = rw e (omega arith);
      first = λ p. rw e (omega arith);
      single = λ p. absurd (omega arith);
    }

more : (n : ℕ) → 9 < n → Printed (n / 10) → Printed n
unfolding digits value_after
more n h p =
    let e = decimal_step n h in
    let w : length (decimal n) ≡ length (decimal (n / 10)) + 1 = rw e (simp length-append) in
    record {
      all = λ rest. rw (e, append_assoc, append_assoc, p.all ((48 + n % 10) ∷ rest), digit_in (48 + n % 10) (omega arith) (omega arith));
      value = rw (e, value_append, p.value) (omega arith);
      some = omega (arith, w);
      first = λ q. rw (e, get_or-append (decimal (n / 10)) ((48 + n % 10) ∷ []) 0 0 p.some) (p.first (omega arith));
      single = λ q. omega (arith, w, p.some);
    }

printed : (f n : ℕ) → n < f → Printed n
printed zero n h = absurd (omega arith)
printed (suc f) n h = go (ltb n 10) refl (λ q. printed f (n / 10) q)
  where
    go : (b : Bool) → ltb n 10 ≡ b → (n / 10 < f → Printed (n / 10)) → Printed n
    go true e ih = one n (omega (arith, ltb-true n 10 e))
    go false e ih = more n (ltb-false n 10 e) (ih (omega (arith, ltb-false n 10 e)))

none : (rest : List ℕ) → is_digit (get_or rest 0 0) ≡ false → digits rest ≡ []
unfolding digits
none [] e = refl
none (b ∷ rest) e = rw e

-- the number is read back, and the reader stops at what follows, if that is no digit
pub read_back : (n : ℕ) → n < 4294967296 → (rest : List ℕ) → is_digit (get_or rest 0 0) ≡ false → number_of (decimal n ++ rest) ≡ Some (record { value = n; next = length (decimal n) })
unfolding number_of numeral
read_back n h rest e = go (ltb n 10) refl
  where
    p : Printed n
    p = printed (suc n) n (omega arith)

    d : digits (decimal n ++ rest) ≡ decimal n
    d = p.all rest ∙ ap (λ (l : List ℕ). decimal n ++ l) (none rest e) ∙ append-nil (decimal n)

    f : get_or (decimal n ++ rest) 0 0 ≡ get_or (decimal n) 0 0
    f = get_or-append (decimal n) rest 0 0 p.some

    go : (b : Bool) → ltb n 10 ≡ b → number_of (decimal n ++ rest) ≡ Some (record { value = n; next = length (decimal n) })
    go true q = let g = decimal_one n (omega (arith, ltb-true n 10 q)) in rw (d, p.value, le-leb n 4294967295 (omega arith), g)
    go false q =
        let g : 9 < n = ltb-false n 10 q in
        rw (d, p.value, le-leb n 4294967295 (omega arith), f, ne_eqb (length (decimal n)) 0 (λ r. omega (arith, p.some)), ne_eqb (length (decimal n)) 1 (λ r. omega (arith, p.single g)), ne_eqb (get_or (decimal n) 0 0) 48 (λ r. omega (arith, p.first (omega arith))))
