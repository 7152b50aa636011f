-- What follows the field b, read as its code reads it: what stands before the last field, then the last field and the line end.
-- It rests on the definitions of both kinds of tail.
use Prim.Native.Nat.{ℕ, ◌+◌}
use mathlib.Core.Path.{◌≡◌, refl, sym}
use mathlib.Core.Bool.{Bool, true, false, cond}
use mathlib.Core.List.{List}
use native.Mathlib.Omega.{arith}
use lib.ListN.{drop}
use Rattle.std.specs.Prelude.{Option, Some, None}
use Rattle.text.specs.declared.number.Number.{Number}
use Rattle.services.specs.declared.takes.Takes.{Takes}
use Rattle.services.specs.declared.takes.Takes.TheVariants.{Blank, Plain, Timeout}
use Rattle.services.specs.Takes.{takes_at}
use Rattle.lines.specs.declared.fields.Tail.{Tail}
use Rattle.lines.specs.Fields.{and_then, last_field, zero_if_blank, narrow_tail, wide_tail, middle_of, tail_of}

-- x stands before the last field, and y is the last
abbrev pub both : Bool → Number → Number → Tail
both wide x y = let n = x.next + y.next in cond wide (record { c = x.value; d = y.value; next = n }) (record { c = y.value; d = 0; next = n })

pub tail_parts : (wide : Bool) (n : ℕ) (s : List ℕ)
    → tail_of wide n s ≡ and_then (middle_of wide n s) (λ x. and_then (last_field (takes_at n (cond wide 3 2)) (drop x.next s)) (λ y. Some (both wide x y)))
unfolding middle_of tail_of wide_tail narrow_tail
tail_parts true n s = refl
tail_parts false n s = go (takes_at n 3)
  where
    last : (o : Option Number) → and_then o (λ c. Some (both false (record { value = 0; next = 0 }) c)) ≡ and_then o (λ c. Some (record { c = c.value; d = 0; next = c.next }))
    last (Some c) = let e : 0 + c.next ≡ c.next = omega arith in rw e
    last None = refl

    go : (d : Takes)
        → and_then (zero_if_blank d) (λ d. and_then (last_field (takes_at n 2) s) (λ c. Some (record { c = c.value; d = d.value; next = c.next })))
        ≡ and_then (zero_if_blank d) (λ x. and_then (last_field (takes_at n 2) (drop x.next s)) (λ y. Some (both false x y)))
    go Blank = sym (last (last_field (takes_at n 2) s))
    go Plain = refl
    go Timeout = refl
