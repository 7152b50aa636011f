-- The theorems of specs/Statement: line by line the two spellings give the same calls, so their rows, their text and their outcome are the same.
-- They rest on the laws of a line, and on a script being taken line by line.
use Prim.Native.Nat.{ℕ, zero, suc, ◌+◌, ◌<◌, ◌≤◌}
use mathlib.Core.Path.{◌≡◌, refl, sym, ap, ◌∙◌}
use mathlib.Core.Bool.{Bool}
use mathlib.Core.List.{List}
use native.Mathlib.Omega.{arith}
use native.Mathlib.Decide.{dec_lt}
use lib.ListN.{length, drop, length-drop}
use borrow.Author.Tests.{le-ltb}
use Rattle.std.specs.Prelude.{Option, Some, None, Result, Ok, Err}
use Rattle.lines.specs.declared.line.Line.{Line}
use Rattle.lines.specs.declared.line.Header.{Header}
use Rattle.lines.specs.Lines.{line_of, header_of}
use Rattle.lines.proofs.Within.{LineIn, line_in}
use Rattle.walk.specs.Script.{next, script_in, header_then, script_of, fault_of}
use Rattle.walk.proofs.Scripts.{script_drop, script_fault, script_next}
use Rattle.runner.specs.declared.Refusal.{Refusal}
use Rattle.runner.specs.Outcome.{ran_of, buffer_of}
use Rattle.spelling.specs.Statement.{Spelled, done, same, word, SameCalls, SameAnswer}
use Rattle.spelling.proofs.Lines.{LineOn, line_on, HeaderOn, header_on}

-- the digits are the longer
longer : {s t : List ℕ} → Spelled s t → length s ≤ length t
longer done = omega arith
longer (same b p) = omega (arith, longer p)
longer (word p) = omega (arith, longer p)

none_same : {s t : List ℕ} → Spelled s t → length s ≡ 0 → t ≡ s
none_same done e = refl
none_same (same b p) e = absurd (omega (arith, e))
none_same (word p) e = absurd (omega (arith, e))

-- ---- the lines after the header
module _ (wide : Bool) where
  -- a script from its first line on
  line_first : (s : List ℕ) (l : ℕ) (x : Line) → 0 < length s → LineIn (line_of wide s) (length s) → line_of wide s ≡ Some x
      → script_in wide 0 s l ≡ next x.context x.call (script_in wide 0 (drop x.next s) (l + 1))
  line_first s l x h inside e =
      let q : 0 + x.next ≡ x.next = omega arith in
      script_next wide s 0 l x h (rw e at inside).0 e ∙ ap (λ (k : ℕ). next x.context x.call (script_in wide 0 (drop k s) (l + 1))) q

  lines_same : (most : ℕ) (s t : List ℕ) (l : ℕ) → length s ≤ most → 0 < l → Spelled s t → fault_of (script_in wide 0 s l) ≡ 0 → script_in wide 0 t l ≡ script_in wide 0 s l
  unfolding fault_of
  lines_same zero s t l h g p e = ap (λ (x : List ℕ). script_in wide 0 x l) (none_same p (omega arith))
  lines_same (suc most) s t l h g p e = by (dec_lt 0 (length s)) (λ s t h p e. lines_same most s t (l + 1) h (omega arith) p e)
    where
      go : 0 < length s → (o : Option Line) → line_of wide s ≡ o → LineOn o (line_of wide t) s t → LineIn o (length s)
          → ((s t : List ℕ) → length s ≤ most → Spelled s t → fault_of (script_in wide 0 s (l + 1)) ≡ 0 → script_in wide 0 t (l + 1) ≡ script_in wide 0 s (l + 1))
          → script_in wide 0 t l ≡ script_in wide 0 s l
      go some (Some x) q y inside ih =
          let here = line_first s l x some (line_in wide s) q in
          let there = line_first t l (record x { next = y.next }) (omega (arith, longer p)) (line_in wide t) y.reads in
          there
          ∙ ap (next x.context x.call) (ih (drop x.next s) (drop y.next t) (simp length-drop (omega (arith, inside.0))) y.follows (rw here at e))
          ∙ sym here
      go some None q y inside ih = absurd (omega (arith, g, rw (script_fault wide s 0 l some q) at e))

      by : Dec (0 < length s)
          → ((s t : List ℕ) → length s ≤ most → Spelled s t → fault_of (script_in wide 0 s (l + 1)) ≡ 0 → script_in wide 0 t (l + 1) ≡ script_in wide 0 s (l + 1))
          → script_in wide 0 t l ≡ script_in wide 0 s l
      by (yes some) ih = go some (line_of wide s) refl (line_on wide p) (line_in wide s) ih
      by (no none) ih = ap (λ (x : List ℕ). script_in wide 0 x l) (none_same p (omega arith))

-- ---- the file
pub same_calls : SameCalls
unfolding script_of fault_of
same_calls s t p = go (header_of s) refl (header_on p).1
  where
    go : (o : Option Header) → header_of s ≡ o → HeaderOn o s t → fault_of (header_then o (λ wide h. script_in wide h s 2)) ≡ 0
        → header_then (header_of t) (λ wide h. script_in wide h t 2) ≡ header_then o (λ wide h. script_in wide h s 2)
    go (Some x) q y e =
        let h = x.next in
        rw ((header_on p).0 ∙ q)
        (script_drop x.wide h t 2
        ∙ lines_same x.wide (length (drop h s)) (drop h s) (drop h t) 2 (omega arith) (omega arith) y (rw (script_drop x.wide h s 2) at e)
        ∙ sym (script_drop x.wide h s 2))
    go None q y e = absurd (omega (arith, e))

-- ---- the outcome
buffer_same : (r : Result ℕ Refusal) (s t b : List ℕ) → script_of t ≡ script_of s → buffer_of r t b ≡ buffer_of r s b
buffer_same (Ok n) s t b e = rw e
buffer_same (Err e) s t b q = refl

pub same_answer : SameAnswer
unfolding ran_of
same_answer s t buffer p e fits =
    let calls : script_of t ≡ script_of s = same_calls s t p e in
    let ran : ran_of t (length buffer) ≡ ran_of s (length buffer) = rw (le-ltb 65536 (length t) fits, le-ltb 65536 (length s) (omega (arith, fits, longer p)), calls) in
    (ran, rw ran (buffer_same (ran_of s (length buffer)) s t buffer calls))
