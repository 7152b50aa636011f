-- Words as bytes: at the start of a list, and put into a buffer.
-- It assumes nothing.
use Rattle.std.specs.Prelude.{ℕ, ◌+◌, Bool, true, false, cond, List, [], ◌∷◌, eqb, leb, length}
use Prim.Native.Char.{code}
use Prim.Native.String.{String, [] as empty, ◌∷◌ as ◌then◌}
use Rattle.std.proofs.lemmas.List.Edits.{sets}

-- the bytes of an ASCII text
abbrev pub bytes : String → List ℕ
bytes empty = []
bytes (c then s) = code c ∷ bytes s

-- s begins with t
unfoldable pub begins : List ℕ → List ℕ → Bool
begins s [] = true
begins [] (a ∷ t) = false
begins (b ∷ s) (a ∷ t) = cond (eqb b a) (begins s t) false

-- the buffer with t from the place `at` on; as it was, where t has no room there
unfoldable pub put : List ℕ → ℕ → List ℕ → List ℕ
put buf at t = cond (leb (at + length t) (length buf)) (sets buf at t) buf

-- the place after t, or `at` again
unfoldable pub place_after : List ℕ → ℕ → List ℕ → ℕ
place_after buf at t = cond (leb (at + length t) (length buf)) (at + length t) at
