-- Which names lists hold: not `ready_ticks`, which is a call of the library; and one that they hold begins a part of a file by its bytes.
-- It rests on the definition; antt computes it over the table for `ready_ticks`.
use Prim.Native.Nat.{ℕ, ◌≤◌}
use mathlib.Core.Path.{◌≡◌, refl}
use mathlib.Core.Bool.{Bool, true, false, ◌&&◌, false≢true}
use mathlib.Core.List.{List}
use lib.Dec.{T as So, leb, leb→le}
use lib.ListN.{length}
use Rattle.text.specs.Bytes.{bytes, begins}
use Rattle.model.specs.Test.{implies}
use Rattle.model.specs.Services.{Service}
use Rattle.model.proofs.Words.{table}
use Rattle.std.specs.Prelude.{None}
use Rattle.services.specs.Names.{label, begun, name_in, name_of}

-- Keys has it of whatever bytes begin with that name
pub ready_ticks_unknown : name_of (bytes "ready_ticks,") ≡ None
unfolding name_of name_in table label begins
ready_ticks_unknown = refl

-- a name that lists hold has 13 bytes at least, with its comma
abbrev pub is_long : Service → Bool
is_long x = implies x.in_lists (leb 13 (length (label x)))

pub begun-begins : (s : List ℕ) (x : Service) → begun s x ≡ true → begins s (label x) ≡ true
begun-begins s x e = go x.in_lists e
  where
    go : (i : Bool) → i && begins s (label x) ≡ true → begins s (label x) ≡ true
    go true e = e
    go false e = absurd (false≢true e)

pub begun_long : (s : List ℕ) (x : Service) → So (is_long x) → begun s x ≡ true → 13 ≤ length (label x)
begun_long s x t e = go x.in_lists t e
  where
    go : (i : Bool) → So (implies i (leb 13 (length (label x)))) → i && begins s (label x) ≡ true → 13 ≤ length (label x)
    go true t e = leb→le 13 (length (label x)) t
    go false t e = absurd (false≢true e)
