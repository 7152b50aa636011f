-- A script, line by line: at the end, at a line that can't be read, at one that can.
-- It rests on the definitions of specs/.
use Prim.Native.Nat.{ℕ, zero, suc, ◌+◌, ◌-◌, ◌<◌, ◌≤◌}
use mathlib.Core.Path.{◌≡◌, refl, ap, ◌∙◌}
use mathlib.Core.Bool.{Bool}
use mathlib.Core.List.{List, [], ◌∷◌}
use Rattle.std.specs.Prelude.{Some, None}
use native.Mathlib.Omega.{arith}
use lib.ListN.{length, drop, drop_of_length-le, length-drop}
use lib.Seq.{drop-drop}
use Rattle.lines.specs.declared.line.Line.{Line}
use Rattle.lines.specs.Lines.{line_of}
use Rattle.walk.specs.Script.{done, fault, next, line_then, script_in}

module _ (wide : Bool) where
  -- k bytes are passed over
  pub script_drop : (k : ℕ) (s : List ℕ) (l : ℕ) → script_in wide k s l ≡ script_in wide 0 (drop k s) l
  unfolding script_in
  script_drop zero s l = refl
  script_drop (suc k) [] l = refl
  script_drop (suc k) (b ∷ s) l = script_drop k s l

  pub script_end : (s : List ℕ) (at l : ℕ) → length s ≤ at → script_in wide 0 (drop at s) l ≡ done
  unfolding script_in
  script_end s at l h = rw (drop_of_length-le s h)

  some : (s : List ℕ) (l : ℕ) → 0 < length s → script_in wide 0 s l ≡ line_then (line_of wide s) l (λ x c n. next x c (script_in wide (n - 1) (drop 1 s) (l + 1)))
  unfolding script_in
  some [] l h = absurd (omega arith)
  some (b ∷ s) l h = refl

  pub script_fault : (s : List ℕ) (at l : ℕ) → at < length s → line_of wide (drop at s) ≡ None → script_in wide 0 (drop at s) l ≡ fault l
  script_fault s at l h e = some (drop at s) l (simp length-drop (omega arith)) ∙ simp e

  pub script_next : (s : List ℕ) (at l : ℕ) (x : Line) → at < length s → 0 < x.next → line_of wide (drop at s) ≡ Some x
      → script_in wide 0 (drop at s) l ≡ next x.context x.call (script_in wide 0 (drop (at + x.next) s) (l + 1))
  script_next s at l x h p e =
      let n = x.next in
      let q : at + (1 + (n - 1)) ≡ at + n = omega arith in
      some (drop at s) l (simp length-drop (omega arith))
      ∙ simp e
      (ap (next x.context x.call)
      (script_drop (n - 1) (drop 1 (drop at s)) (l + 1)
      ∙ ap (λ (t : List ℕ). script_in wide 0 t (l + 1)) (drop-drop (n - 1) 1 (drop at s) ∙ drop-drop (1 + (n - 1)) at s ∙ ap (λ (k : ℕ). drop k s) q)))
