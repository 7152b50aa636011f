-- One line played, way by way: it reads or it doesn't, or it begins past the file's end.
-- Rests on the definitions, and on the lines' least and greatest lengths in lines.
use mathlib.Core.Path.{◌≡◌, ap}
use mathlib.Core.Bool.{Bool}
use mathlib.Core.List.{List}
use Rattle.std.specs.Prelude.{Option, Some, None}
use Prim.Native.Nat.{ℕ, ◌+◌, ◌≤◌, ◌<◌}
use native.Mathlib.Omega.{arith}
use lib.ListN.{length, drop, length-drop, drop_of_length-le}
use Rattle.text.specs.Bytes.{begins}
use Rattle.model.specs.declared.State.{State}
use Rattle.model.specs.declared.Answer.{Answer}
use Rattle.step.specs.declared.Stepped.{Stepped}
use Rattle.model.specs.Call.{step_from}
use Rattle.step.specs.Answer.{answer_of}
use Rattle.lines.specs.declared.line.Line.{Line}
use Rattle.lines.specs.Lines.{letter_of, line_of}
use Rattle.lines.proofs.Within.{line_in}
use Rattle.walk.specs.Turn.{turn_in, stepped_of, turn_of}

pub faulted : (run at : ℕ) (s : State) (l : Option Line) → l ≡ None → turn_in None s ≡ turn_of run at s l
unfolding turn_of
faulted run at s l e = rw e

pub played : (run at : ℕ) (s : State) (l : Option Line) (x : Line) (r : Stepped) (s' : State) → l ≡ Some x → answer_of r s' ≡ step_from run s x.context x.call
    → turn_in (Some (record { answer = r; next = at + x.next })) s' ≡ turn_of run at s l
unfolding turn_of
played run at s l x r s' e f = rw e (ap (λ (z : Answer). turn_in (Some (record { answer = stepped_of z; next = at + x.next })) z.state) f)

-- past the end there is no line
pub beyond : (run at : ℕ) (s : State) (wide : Bool) (file : List ℕ) → length file < at → turn_in None s ≡ turn_of run at s (line_of wide (drop at file))
unfolding line_of letter_of begins
beyond run at s wide file h = faulted run at s (line_of wide (drop at file)) (rw (drop_of_length-le file {i = at} (omega arith)))

-- the next line begins within the file
pub reaches : (wide : Bool) (file : List ℕ) (at : ℕ) (x : Line) → at ≤ length file → line_of wide (drop at file) ≡ Some x → at + x.next ≤ length file
reaches wide file at x h g =
    let k : (0 < x.next) × (x.next ≤ length (drop at file)) = rw g at (line_in wide (drop at file)) in
    omega (arith, length-drop at file, k.1)
