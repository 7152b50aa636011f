-- Laws of a data queue's places: what is stored once an element came or went, that places past the last element hold 0 still, and the places of one queue
-- among those of all. They rest on the places of model/specs/DataQueue, and but for the last part hold for any number of places.
use mathlib.Core.Path.{◌≡◌, refl, sym, ap, ◌∙◌}
use mathlib.Core.List.{List, [], ◌∷◌, ◌++◌, append_assoc}
use mathlib.Core.Logic.{⊎_elim}
use Prim.Native.Nat.{ℕ, zero, suc, ◌+◌, ◌-◌, ◌*◌, ◌≤◌, ◌<◌}
use native.Mathlib.Nat.{le_of_suc-le-suc}
use native.Mathlib.Numerals.{add-one}
use native.Mathlib.Omega.{arith}
use lib.Dec.{T as So}
use lib.ListN.{length, take, drop, set, get_or, length-set, length-drop}
use lib.Seq.{sets, sets-eq, length-sets, length-take-le, take-append-le, take-suc-set, take-set-le, drop-set-lt, take_at, drop_at, take-add}
use Rattle.model.specs.Row.{gap}
use Rattle.model.specs.DataQueue.{places_of, no_elements, put, pulled}
use Rattle.model.specs.Test.{zeros}
use Rattle.laws.proofs.Number.{below?}
use Rattle.laws.proofs.Padded.{zeros_first, zeros_last}
use Rattle.laws.proofs.Row.{length-gap}

-- ---- lengths
pub length-put : (ps : List ℕ) (n e : ℕ) → length (put ps n e) ≡ length ps
unfolding put
length-put ps n e = length-set ps n e

pub length-pulled : (ps : List ℕ) → length (pulled ps) ≡ length ps
unfolding pulled
length-pulled ps = length-gap ps 0

-- ---- what is stored: the first n places
-- an element comes
pub stored_put : (ps : List ℕ) (n e : ℕ) → n < length ps → take (n + 1) (put ps n e) ≡ take n ps ++ (e ∷ [])
unfolding put
stored_put ps n e h = rw (add-one n) (take-suc-set ps n e h)

-- the oldest goes
pub stored_pulled : (ps : List ℕ) (n : ℕ) → 1 ≤ n → n ≤ length ps → take n ps ≡ get_or ps 0 0 ∷ take (n - 1) (pulled ps)
unfolding pulled gap
stored_pulled ps zero some h = absurd (omega arith)
stored_pulled [] (suc n) some h = absurd (omega arith)
stored_pulled (x ∷ ps) (suc n) some h =
    let z : suc n - 1 ≡ n = omega arith in
    rw (z, take-append-le n ps (0 ∷ []) (le_of_suc-le-suc h))

-- both
pub stored_on : (ps : List ℕ) (n e : ℕ) → 1 ≤ n → n ≤ length ps → take n (put (pulled ps) (n - 1) e) ≡ take (n - 1) (pulled ps) ++ (e ∷ [])
stored_on ps n e some h =
    let z : n - 1 + 1 ≡ n = omega arith in
    rw z at (stored_put (pulled ps) (n - 1) e (omega (arith, length-pulled ps)))

-- ---- zeros
pub zeros-take : (n : ℕ) (l : List ℕ) → So (zeros l) → So (zeros (take n l))
unfolding zeros
zeros-take zero l h = tt
zeros-take (suc n) [] h = tt
zeros-take (suc n) (x ∷ l) h = let p = zeros_first x l h in rw p.0 (zeros-take n l p.1)

pub zeros-drop : (n : ℕ) (l : List ℕ) → So (zeros l) → So (zeros (drop n l))
zeros-drop zero l h = h
zeros-drop (suc n) [] h = h
zeros-drop (suc n) (x ∷ l) h = zeros-drop n l (zeros_first x l h).1

-- ---- places past the last element
pub past_none : So (zeros no_elements)
unfolding zeros
past_none = tt

past_more : (ps : List ℕ) (n : ℕ) → So (zeros (drop n ps)) → So (zeros (drop (suc n) ps))
past_more ps zero h = zeros-drop 1 ps h
past_more [] (suc n) h = h
past_more (x ∷ ps) (suc n) h = past_more ps n h

pub past_put : (ps : List ℕ) (n e : ℕ) → So (zeros (drop n ps)) → So (zeros (drop (n + 1) (put ps n e)))
unfolding put
past_put ps n e h = rw (add-one n, drop-set-lt (suc n) ps n e (omega arith)) (past_more ps n h)

past_last : (ps : List ℕ) (n : ℕ) → So (zeros (drop n ps)) → So (zeros (drop n (ps ++ (0 ∷ []))))
unfolding zeros
past_last ps zero h = zeros_last ps h
past_last [] (suc n) h = zeros-drop n [] tt
past_last (x ∷ ps) (suc n) h = past_last ps n h

pub past_pulled : (ps : List ℕ) (n : ℕ) → 1 ≤ n → So (zeros (drop n ps)) → So (zeros (drop (n - 1) (pulled ps)))
unfolding pulled gap zeros
past_pulled ps zero some h = absurd (omega arith)
past_pulled [] (suc n) some h = zeros-drop (suc n - 1) [] tt
past_pulled (x ∷ ps) (suc n) some h =
    let z : suc n - 1 ≡ n = omega arith in
    rw z (past_last ps n h)

pub past_on : (ps : List ℕ) (n e : ℕ) → 1 ≤ n → So (zeros (drop n ps)) → So (zeros (drop n (put (pulled ps) (n - 1) e)))
past_on ps n e some h =
    let z : n - 1 + 1 ≡ n = omega arith in
    rw z at (past_put (pulled ps) (n - 1) e (past_pulled ps n some h))

-- ---- a run of stores, seen before it, at it and behind it
take-sets : (n : ℕ) (l : List ℕ) (i : ℕ) (vs : List ℕ) → n ≤ i → take n (sets l i vs) ≡ take n l
take-sets n l i [] h = refl
take-sets n l i (v ∷ vs) h = take-sets n (set l i v) (suc i) vs (omega arith) ∙ take-set-le n l i v h

drop-sets : (n : ℕ) (l : List ℕ) (i : ℕ) (vs : List ℕ) → i + length vs ≤ n → drop n (sets l i vs) ≡ drop n l
drop-sets n l i [] h = refl
drop-sets n l i (v ∷ vs) h = drop-sets n (set l i v) (suc i) vs (omega arith) ∙ drop-set-lt n l i v (omega arith)

-- ---- the places of queue q, among the 144 of all
module _ (es : List ℕ) (long : length es ≡ 144) where
  pub length_places : (q : ℕ) → q ≤ 8 → length (places_of es q) ≡ 16
  unfolding places_of
  length_places q top = length-take-le 16 (drop (q * 16) es) (omega (arith, length-drop (q * 16) es))

  module _ (q : ℕ) (ps : List ℕ) (top : q ≤ 8) (size : length ps ≡ 16) where
    pub places_same : places_of (sets es (q * 16) ps) q ≡ ps
    unfolding places_of
    places_same =
        let i = q * 16 in
        let rest = drop (i + length ps) es in
        let at : drop i (sets es i ps) ≡ ps ++ rest =
        ap (λ (l : List ℕ). drop i l) (sets-eq ps es i (omega arith) ∙ append_assoc (take i es) ps rest)
        ∙ drop_at (take i es) (ps ++ rest) i (length-take-le i es (omega arith)) in
        rw at (take_at ps rest 16 size)

    pub places_other : (r : ℕ) → r ≤ 8 → (r ≡ q → ⊥) → places_of (sets es (q * 16) ps) r ≡ places_of es r
    unfolding places_of
    places_other r most apart = ⊎_elim
        (λ (less : r < q). before (sets es (q * 16) ps) (omega (arith, length-sets es (q * 16) ps)) ∙ ap (λ (l : List ℕ). drop (r * 16) l) (take-sets (r * 16 + 16) es (q * 16) ps (omega arith)) ∙ sym (before es (omega arith)))
        (λ (more : q ≤ r). ap (λ (l : List ℕ). take 16 l) (drop-sets (r * 16) es (q * 16) ps (let n : r ≡ q → ⊥ = apart in omega arith)))
        (below? r q)
      where
        before : (l : List ℕ) → r * 16 ≤ length l → take 16 (drop (r * 16) l) ≡ drop (r * 16) (take (r * 16 + 16) l)
        before l h = sym (ap (λ (m : List ℕ). drop (r * 16) m) (take-add (r * 16) 16 l) ∙ drop_at (take (r * 16) l) (take 16 (drop (r * 16) l)) (r * 16) (length-take-le (r * 16) l h))
