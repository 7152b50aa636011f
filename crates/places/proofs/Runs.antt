-- A run of places that is lent and comes back changed, and the places of a data queue: what changes them where they lie changes these alone.
-- Rests on the places of model/specs/DataQueue, and on the laws of a gap.
use mathlib.Core.Path.{◌≡◌, refl, sym, ap, ◌∙◌}
use mathlib.Core.List.{List, [], ◌∷◌, ◌++◌, append_assoc}
use Prim.Native.Nat.{ℕ, suc, ◌+◌, ◌*◌, ◌-◌, ◌≤◌, ◌<◌}
use native.Mathlib.Omega.{arith}
use lib.ListN.{replicate, get_or, set, length, take, drop, length-set, length-take, length-drop, drop_of_length-le, get_or-eq_default}
use lib.Seq.{sets, sets-eq, set_out, drop-drop, get_or-take, get_or-drop}
use Rattle.model.specs.DataQueue.{places_of, no_elements, put, pulled}
use Rattle.laws.proofs.Row.{length-gap}

-- ---- a run of stores
-- past the end it changes nothing
past : (ps ns : List ℕ) (i : ℕ) → length ns ≤ i → sets ns i ps ≡ ns
past [] ns i h = refl
past (x ∷ ps) ns i h = past ps (set ns i x) (suc i) (rw length-set (omega arith)) ∙ set_out ns i x h

-- places that were lent, from a to e, and came back changed
lent : (ns ps : List ℕ) (a e : ℕ) → e ≡ a + length ps → e ≤ length ns → take a ns ++ (ps ++ drop (e - a) (drop a ns)) ≡ sets ns a ps
lent ns ps a e f h =
    let g : a + (e - a) ≡ a + length ps = omega arith in
    sym (sets-eq ps ns a (omega arith) ∙ append_assoc (take a ns) ps (drop (a + length ps) ns) ∙ ap (λ (r : List ℕ). take a ns ++ (ps ++ r)) (sym (drop-drop (e - a) a ns ∙ ap (λ (j : ℕ). drop j ns) g)))

-- ---- what comes and goes keeps the places
pub length-put : (l : List ℕ) (i v : ℕ) → length (put l i v) ≡ length l
unfolding put
length-put l i v = length-set l i v

pub length-pulled : (l : List ℕ) → length (pulled l) ≡ length l
unfolding pulled
length-pulled l = length-gap l 0

-- ---- the places of queue q among 144
module _ (es : List ℕ) (q : ℕ) where
  length-places : length es ≡ 144 → q ≤ 8 → length (places_of es q) ≡ 16
  unfolding places_of
  length-places whole h = simp (length-take, length-drop) (omega arith)

  -- 16 places that were lent and came back changed
  filled : (ps ds : List ℕ) (e : ℕ) → length es ≡ 144 → q ≤ 8 → e ≡ q * 16 + 16 → length ds ≡ 16 → ps ≡ ds
      → take (q * 16) es ++ (ps ++ drop (e - q * 16) (drop (q * 16) es)) ≡ sets es (q * 16) ds
  filled ps ds e whole h f long same =
      lent es ps (q * 16) e (omega (arith, ap length same)) (omega arith) ∙ ap (sets es (q * 16)) same

  pub changed : (f : List ℕ → List ℕ) → ((l : List ℕ) → length (f l) ≡ length l) → (ps : List ℕ) (e : ℕ) → length es ≡ 144 → q ≤ 8 → e ≡ q * 16 + 16
      → ps ≡ f (take (e - q * 16) (drop (q * 16) es)) → take (q * 16) es ++ (ps ++ drop (e - q * 16) (drop (q * 16) es)) ≡ sets es (q * 16) (f (places_of es q))
  unfolding places_of
  changed f keeps ps e whole h g same =
      let k : e - q * 16 ≡ 16 = omega arith in
      filled ps (f (places_of es q)) e whole h g (keeps (places_of es q) ∙ length-places whole h) (same ∙ ap (λ (n : ℕ). f (take n (drop (q * 16) es))) k)

  pub emptied : (ps : List ℕ) (e : ℕ) → length es ≡ 144 → q ≤ 8 → e ≡ q * 16 + 16 → ps ≡ replicate (length (take (e - q * 16) (drop (q * 16) es))) 0
      → take (q * 16) es ++ (ps ++ drop (e - q * 16) (drop (q * 16) es)) ≡ sets es (q * 16) no_elements
  emptied ps e whole h g same =
      let k : length (take (e - q * 16) (drop (q * 16) es)) ≡ 16 = simp (length-take, length-drop) (omega arith) in
      filled ps no_elements e whole h g refl (same ∙ ap (λ (n : ℕ). replicate n 0) k)

  -- a number past the queues has no places
  pub none : (ps : List ℕ) → length es ≡ 144 → 8 < q → es ≡ sets es (q * 16) ps
  none ps whole h = sym (past ps es (q * 16) (omega arith))

  pub no_place : (i : ℕ) → length es ≡ 144 → 8 < q → 0 ≡ get_or (places_of es q) i 0
  unfolding places_of
  no_place i whole h = rw (drop_of_length-le es {i = q * 16} (omega arith)) refl

  -- nor has a place past the 16 anything
  pub place_past : (i : ℕ) → 16 ≤ i → 0 ≡ get_or (places_of es q) i 0
  unfolding places_of
  place_past i h = sym (get_or-eq_default (take 16 (drop (q * 16) es)) 0 {n = i} (omega (arith, length-take 16 (drop (q * 16) es))))

  pub place_at : (i : ℕ) → i < 16 → get_or es (q * 16 + i) 0 ≡ get_or (places_of es q) i 0
  unfolding places_of
  place_at i h = sym (rw (get_or-take 16 (drop (q * 16) es) i 0 h, get_or-drop (q * 16) es i 0) refl)
