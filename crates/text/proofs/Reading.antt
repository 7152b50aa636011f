-- The number at the start of a list, digit by digit: what the loop of `read_number` goes by, and that its digits lie within the list.
-- It rests on the definitions of specs/Number.
use Prim.Native.Nat.{ℕ, suc, ◌+◌, ◌-◌, ◌*◌, ◌<◌, ◌≤◌}
use mathlib.Core.Path.{◌≡◌, refl, sym, ap, ◌∙◌}
use mathlib.Core.Bool.{Bool, true, false, cond}
use mathlib.Core.List.{List, [], ◌∷◌}
use native.Mathlib.Omega.{arith}
use lib.Dec.{leb, eqb}
use Rattle.std.specs.Prelude.{Option, Some, None, IfSome}
use lib.ListN.{length, get_or, drop, drop_of_length-le}
use borrow.Author.Tests.{le-leb, lt-leb}
use Rattle.std.specs.Char.{is_ascii_digit}
use Rattle.text.specs.declared.number.Number.{Number}
use Rattle.text.specs.Number.{is_digit, digits, value_after, numeral, number_of}
use Rattle.text.proofs.Places.{next}

pub digit_in : (b : ℕ) → 48 ≤ b → b ≤ 57 → is_digit b ≡ true
unfolding is_digit
digit_in b h g = rw (le-leb 48 b h, le-leb b 57 g)

-- std's test of a byte is ours
pub a_digit : {r x : Bool} (b : ℕ) → r ≡ is_ascii_digit b → r ≡ x → is_digit b ≡ x
unfolding is_digit
a_digit b e h = sym e ∙ h

value_grows : (v : ℕ) (ds : List ℕ) → v ≤ value_after v ds
unfolding value_after
value_grows v [] = omega arith
value_grows v (d ∷ ds) = omega (arith, value_grows (v * 10 + (d - 48)) ds)

-- what is left from the place i on gives what the whole gives, after i digits of the value v
pub record Left (s : List ℕ) (v i : ℕ) : Type 0 where
  pub value : value_after v (digits (drop i s)) ≡ value_after 0 (digits s)
  pub count : i + length (digits (drop i s)) ≡ length (digits s)

module _ (s : List ℕ) (v i : ℕ) (l : Left s v i) where
  pub left_on : i < length s → is_digit (get_or s i 0) ≡ true → Left s (v * 10 + (get_or s i 0 - 48)) (i + 1)
  unfolding digits value_after
  left_on h e =
      let m : digits (drop i s) ≡ get_or s i 0 ∷ digits (drop (i + 1) s) = rw (next s i h, e) in
      record {
        value = ap (λ (ds : List ℕ). value_after v ds) (sym m) ∙ l.value;
        count = omega (arith, ap length m, l.count);
      }

  left_none : v < 4294967296 → digits (drop i s) ≡ [] → numeral (get_or s 0 0) v i ≡ number_of s
  unfolding number_of value_after
  left_none h e =
      let p : v ≡ value_after 0 (digits s) = rw e at l.value in
      let q : i ≡ length (digits s) = omega (arith, ap length e, l.count) in
      rw (← p, ← q, le-leb v 4294967295 (omega arith))

  pub left_stop : v < 4294967296 → i < length s → is_digit (get_or s i 0) ≡ false → numeral (get_or s 0 0) v i ≡ number_of s
  unfolding digits
  left_stop h g e = left_none h (rw (next s i g, e))

  pub left_end : v < 4294967296 → length s ≤ i → numeral (get_or s 0 0) v i ≡ number_of s
  unfolding digits
  left_end h g = left_none h (rw (drop_of_length-le s g))

  pub left_over : 4294967295 < v → None ≡ number_of s
  unfolding number_of
  left_over h = rw (lt-leb (value_after 0 (digits s)) 4294967295 (omega (arith, value_grows v (digits (drop i s)), l.value)))

-- ---- the digits lie within the list

abbrev pub NumberIn : Option Number → ℕ → Type 0
NumberIn o l = IfSome o (λ x. x.next ≤ l)

-- what a call's result was found to be, said of what the callee ensures of it
pub got : {A : Type 0} {r x y : A} → r ≡ x → r ≡ y → x ≡ y
got p q = sym p ∙ q

-- a fact of a choice, from the fact of each side
pub cond_by : {A : Type 0} (P : A → Type 0) (b : Bool) (x y : A) → (b ≡ true → P x) → P y → P (cond b x y)
cond_by P true x y p q = p refl
cond_by P false x y p q = q

digits_in : (s : List ℕ) → length (digits s) ≤ length s
unfolding digits
digits_in [] = omega arith
digits_in (b ∷ s) = cond_by (λ (ds : List ℕ). length ds ≤ suc (length s)) (is_digit b) (b ∷ digits s) [] (λ e. omega (arith, digits_in s)) (omega arith)

pub number_in : (s : List ℕ) → NumberIn (number_of s) (length s)
unfolding number_of numeral
number_in s =
    let n = length (digits s) in
    let v = value_after 0 (digits s) in
    let x : Number = record { value = v; next = n } in
    let P : Option Number → Type 0 = λ (o : Option Number). NumberIn o (length s) in
    cond_by P (leb v 4294967295) (numeral (get_or s 0 0) v n) None
    (λ _. cond_by P (eqb n 0) None _ (λ _. tt)
    (cond_by P (eqb n 1) (Some x) _ (λ _. digits_in s)
    (cond_by P (eqb (get_or s 0 0) 48) None (Some x) (λ _. tt) (digits_in s))))
    tt
