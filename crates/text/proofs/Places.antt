-- A list from one of its places on.
-- It rests on lib.Seq.
use Prim.Native.Nat.{ℕ, zero, suc, ◌+◌, ◌-◌, ◌<◌}
use mathlib.Core.Path.{◌≡◌, ap, ◌∙◌}
use mathlib.Core.List.{List, [], ◌∷◌}
use native.Mathlib.Numerals.{add-one}
use native.Mathlib.Omega.{arith}
use lib.ListN.{length, get_or, take, drop, length-drop}
use lib.Seq.{drop-cons, take_all}

pub next : (s : List ℕ) (i : ℕ) → i < length s → drop i s ≡ get_or s i 0 ∷ drop (i + 1) s
next s i h = rw (add-one, drop-cons s i 0)

-- a byte that is not 0 lies within the list
pub is_within : (s : List ℕ) (n b : ℕ) → 0 < b → get_or s n 0 ≡ b → n < length s
is_within [] n b h e = absurd (omega arith)
is_within (a ∷ s) zero b h e = omega arith
is_within (a ∷ s) (suc n) b h e = omega (arith, is_within s n b h e)

-- the part `&s[n..]` that a caller lends is the list from n on: what a callee ensures of the one, said of the other
pub part_of : {A : Type 0} {r : A} (f : List ℕ → A) (s : List ℕ) (n : ℕ) → r ≡ f (take (length s - n) (drop n s)) → r ≡ f (drop n s)
part_of f s n p = p ∙ ap f (take_all (length s - n) (drop n s) (simp length-drop (omega arith)))
