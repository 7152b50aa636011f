-- The signed number that the editor gets: it fits in 64 bits, so it is returned as it is. Rests on the law of negated numbers (laws).
use Prim.Native.Nat.{ℕ, zero, suc, ◌+◌, ◌-◌, ◌<◌, ◌≤◌, ◌^◌}
use mathlib.Core.Path.{◌≡◌, refl}
use mathlib.Core.Bool.{Bool, true, false, cond}
use Rattle.std.specs.Prelude.{Option, Some, None, Result, Ok, Err}
use mathlib.Core.List.{List, [], ◌∷◌}
use native.Mathlib.Omega.{arith}
use lib.Dec.{eqb, ltb}
use lib.ListN.{length}
use lib.IntN.{ℤ}
use borrow.Author.Tests.{ltb-false}
use borrow.Author.Rules.{sfits_of}
use mir.Syntax.{w64}
use mir.Val.{to_z, of_z, SFits}
use mir.Facts.{to_z-of_z}
use Rattle.laws.proofs.Negated.{minus_fits}
use Rattle.text.proofs.Reading.{cond_by}
use Rattle.lines.specs.declared.line.Line.{Line}
use Rattle.lines.specs.declared.line.Header.{Header}
use Rattle.lines.specs.Lines.{line_of, header_of}
use Rattle.runner.specs.declared.Refusal.{Refusal}
use Rattle.runner.specs.declared.Refusal.TheVariants.{TooLong, Unreadable, Short}
use Rattle.walk.specs.Script.{next, line_then, script_in, header_then, script_of, fault_of}
use Rattle.walk.specs.Rows.{text_of}
use Rattle.runner.specs.Outcome.{judged, ran_of, signed_of, Small}

number_fits : (r : Result ℕ Refusal) → Small r → SFits w64 (signed_of r)
number_fits (Ok n) h = sfits_of h
number_fits (Err TooLong) h = sfits_of (omega arith)
number_fits (Err Short) h = sfits_of (omega arith)
number_fits (Err (Unreadable l)) h = minus_fits w64 (l + 10) (omega arith)

pub back : (z : ℤ) (r : Result ℕ Refusal) → Small r → z ≡ signed_of r → to_z w64 (of_z w64 z) ≡ signed_of r
back z r h e = rw e (to_z-of_z {w = w64} {z = signed_of r} (number_fits r h))

-- ---- the numbers are small
fault_most : (wide : Bool) (s : List ℕ) (k l : ℕ) → fault_of (script_in wide k s l) ≤ l + length s
unfolding script_in fault_of
fault_most wide [] k l = omega arith
fault_most wide (b ∷ s) (suc k) l = omega (arith, fault_most wide s k l)
fault_most wide (b ∷ s) zero l = go (line_of wide (b ∷ s)) (λ n. fault_most wide s n (l + 1))
  where
    go : (t : Option Line) → ((n : ℕ) → fault_of (script_in wide n s (l + 1)) ≤ l + 1 + length s) → fault_of (line_then t l (λ x c n. next x c (script_in wide (n - 1) s (l + 1)))) ≤ l + suc (length s)
    go (Some x) ih = omega (arith, ih (x.next - 1))
    go None ih = omega arith

script_most : (file : List ℕ) → fault_of (script_of file) ≤ 2 + length file
unfolding script_of fault_of
script_most file = go (header_of file)
  where
    go : (t : Option Header) → fault_of (header_then t (λ wide h. script_in wide h file 2)) ≤ 2 + length file
    go (Some x) = fault_most x.wide file x.next 2
    go None = omega arith

pub small : (file : List ℕ) (room : ℕ) → room < 2 ^ 63 → Small (ran_of file room)
unfolding ran_of judged
small file room h = go (ltb 65536 (length file)) refl
  where
    wrote : (b : Bool) → ltb room (length (text_of (script_of file))) ≡ b → Small (cond b (Err Short) (Ok (length (text_of (script_of file)))))
    wrote true e = tt
    wrote false e = omega (arith, ltb-false room (length (text_of (script_of file))) e)

    read : length file ≤ 65536 → (b : Bool)
        → Small (cond b (cond (ltb room (length (text_of (script_of file)))) (Err Short) (Ok (length (text_of (script_of file))))) (Err (Unreadable (fault_of (script_of file)))))
    read g true = wrote (ltb room (length (text_of (script_of file)))) refl
    read g false = omega (arith, script_most file)

    go : (b : Bool) → ltb 65536 (length file) ≡ b
        → Small (cond b (Err TooLong) (cond (eqb (fault_of (script_of file)) 0) (cond (ltb room (length (text_of (script_of file)))) (Err Short) (Ok (length (text_of (script_of file))))) (Err (Unreadable (fault_of (script_of file))))))
    go true e = tt
    go false e = read (ltb-false 65536 (length file) e) (eqb (fault_of (script_of file)) 0)

-- what was written lies within the buffer
abbrev pub Fits : Result ℕ Refusal → ℕ → Type 0
Fits (Ok n) room = n ≤ room
Fits (Err e) room = Unit

pub fits : (file : List ℕ) (room : ℕ) → Fits (ran_of file room) room
unfolding ran_of judged
fits file room =
    cond_by (λ (r : Result ℕ Refusal). Fits r room) (ltb 65536 (length file)) (Err TooLong) (judged (script_of file) room) (λ _. tt)
    (cond_by (λ (r : Result ℕ Refusal). Fits r room) (eqb (fault_of (script_of file)) 0) (cond (ltb room (length (text_of (script_of file)))) (Err Short) (Ok (length (text_of (script_of file))))) (Err (Unreadable (fault_of (script_of file))))
    (λ _. go (ltb room (length (text_of (script_of file)))) refl) tt)
  where
    go : (b : Bool) → ltb room (length (text_of (script_of file))) ≡ b → Fits (cond b (Err Short) (Ok (length (text_of (script_of file))))) room
    go true e = tt
    go false e = ltb-false room (length (text_of (script_of file))) e
