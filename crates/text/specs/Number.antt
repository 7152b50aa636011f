-- A decimal number at the start of a list of bytes: digits without sign or needless leading zero, at most 4,294,967,295.
-- It assumes nothing.
use Rattle.std.specs.Prelude.{ℕ, ◌+◌, ◌-◌, ◌*◌, Bool, cond, ◌&&◌, Option, Some, None, List, [], ◌∷◌, leb, eqb, length, get_or}
use Rattle.text.specs.declared.number.Number.{Number}

-- the byte is `0` to `9`
unfoldable pub is_digit : ℕ → Bool
is_digit b = leb 48 b && leb b 57

-- the digits that begin s: they end at the first byte that is none, or with s
unfoldable pub digits : List ℕ → List ℕ
digits [] = []
digits (b ∷ s) = cond (is_digit b) (b ∷ digits s) []

-- the value of digits that follow others of the value v
unfoldable pub value_after : ℕ → List ℕ → ℕ
value_after v [] = v
value_after v (d ∷ ds) = value_after (v * 10 + (d - 48)) ds

-- n digits of the value v, the first of them b: at least one, and no needless leading zero
unfoldable pub numeral : ℕ → ℕ → ℕ → Option Number
numeral b v n =
    let x : Number = record { value = v; next = n } in
    cond (eqb n 0) None (cond (eqb n 1) (Some x) (cond (eqb b 48) None (Some x)))

-- the number that begins s, at most 4,294,967,295, with the count of its digits
unfoldable pub number_of : List ℕ → Option Number
number_of s =
    let v = value_after 0 (digits s) in
    cond (leb v 4294967295) (numeral (get_or s 0 0) v (length (digits s))) None
