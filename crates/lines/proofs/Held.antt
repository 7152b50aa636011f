-- No list holds `ready_ticks`, which is a call of the library: a line whose service it is does not read, whatever follows it.
-- It rests on the same law of names.
use mathlib.Core.Path.{◌≡◌, refl}
use mathlib.Core.Bool.{Bool, true}
use mathlib.Core.List.{List}
use Prim.Native.Nat.{ℕ}
use lib.ListN.{drop}
use Rattle.std.specs.Prelude.{Option, Some, None}
use Rattle.text.specs.Bytes.{bytes, begins}
use Rattle.model.specs.declared.Context.{Context}
use Rattle.services.proofs.Keys.{no_list_holds_ready_ticks}
use Rattle.lines.specs.Fields.{and_then}
use Rattle.lines.specs.Lines.{letter_of, line_of}
use Rattle.lines.specs.declared.line.Line.{Line}

pub ready_ticks_unreadable : (wide : Bool) (s : List ℕ) → begins (drop 2 s) (bytes "ready_ticks,") ≡ true → line_of wide s ≡ None
unfolding line_of
ready_ticks_unreadable wide s e = rw (no_list_holds_ready_ticks (drop 2 s) e) (nothing (letter_of s))
  where
    nothing : (o : Option Context) → and_then {B = Line} o (λ x. None) ≡ None
    nothing (Some x) = refl
    nothing None = refl
