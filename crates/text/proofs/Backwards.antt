-- A number's digits stored one by one, the last one first: what the loop of `put_decimal` goes by.
-- It rests on the laws of stores and of a number's digits.
use Prim.Native.Nat.{ℕ, ◌+◌, ◌-◌, ◌/◌, ◌%◌, ◌<◌, ◌≤◌}
use mathlib.Core.Path.{◌≡◌, ap, sym, ◌∙◌}
use mathlib.Core.List.{List}
use native.Mathlib.Decide.{dec_le}
use native.Mathlib.Omega.{arith}
use lib.ListN.{length, set}
use lib.Seq.{sets}
use Rattle.text.specs.Decimal.{decimal}
use Rattle.text.proofs.Digits.{decimal_one, decimal_step, width_one, width_step}
use Rattle.text.proofs.Stores.{set_then}

pub some : (n : ℕ) → 1 ≤ length (decimal n)
some n = go (dec_le n 9)
  where
    go : Dec (n ≤ 9) → 1 ≤ length (decimal n)
    go (yes p) = omega (arith, width_one n p)
    go (no p) = omega (arith, width_step n (omega arith))

module _ (l : List ℕ) (at n : ℕ) where
  -- the places from k on are done: the digits of what is left of n fill those before
  abbrev pub Held : List ℕ → ℕ → ℕ → Type 0
  Held buf k rest = (k ≡ at + length (decimal rest)) × (sets buf at (decimal rest) ≡ sets l at (decimal n))

  -- before the first digit there is more than one left
  more : (buf : List ℕ) (k rest : ℕ) → at + 1 < k → Held buf k rest → 9 < rest
  more buf k rest h e = go (dec_le rest 9)
    where
      go : Dec (rest ≤ 9) → 9 < rest
      go (yes p) = absurd (omega (arith, width_one rest p, e.0))
      go (no p) = omega arith

  pub held_more : (buf : List ℕ) (k rest : ℕ) → at + 1 < k → Held buf k rest → Held (set buf (k - 1) (48 + rest % 10)) (k - 1) (rest / 10)
  held_more buf k rest h e =
      let q = more buf k rest h e in
      let i : k - 1 ≡ at + length (decimal (rest / 10)) = omega (arith, width_step rest q, e.0) in
      (i, set_then buf at (decimal (rest / 10)) (48 + rest % 10) (k - 1) i ∙ ap (λ (t : List ℕ). sets buf at t) (sym (decimal_step rest q)) ∙ e.1)

  -- at the first digit no other is left
  pub held_one : (buf : List ℕ) (k rest : ℕ) → k ≤ at + 1 → Held buf k rest → rest ≤ 9
  held_one buf k rest h e = go (dec_le rest 9)
    where
      go : Dec (rest ≤ 9) → rest ≤ 9
      go (yes p) = p
      go (no p) = absurd (omega (arith, width_step rest (omega arith), some (rest / 10), e.0))

  pub held_all : (buf : List ℕ) (k rest : ℕ) → k ≤ at + 1 → Held buf k rest → set buf at (48 + rest) ≡ sets l at (decimal n)
  held_all buf k rest h e = rw (decimal_one rest (held_one buf k rest h e)) at e.1
