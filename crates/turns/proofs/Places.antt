-- Where a task stands in a row after another joined, left or was turned: never later, and one place sooner where the first left.
-- It rests on the definitions of model/specs/Row and the laws of rows in laws, and holds for rows of any length.
use mathlib.Core.Path.{◌≡◌, refl, sym, ◌∙◌}
use mathlib.Core.Bool.{Bool, true, false, cond}
use mathlib.Core.List.{List, [], ◌∷◌, ◌++◌}
use mathlib.Core.Logic.{⊎_elim}
use Prim.Native.Nat.{ℕ, suc, ◌+◌, ◌≤◌}
use native.Mathlib.Omega.{arith}
use lib.Dec.{eqb}
use borrow.Author.Tests.{eq-eqb, ne_eqb}
use Rattle.model.specs.declared.Queue.{Queue}
use Rattle.model.specs.Row.{place, gap, first, joined, left, turned, row, relisted}
use Rattle.model.specs.Test.{one, occ}
use Rattle.laws.proofs.Number.{same?}
use Rattle.laws.proofs.Occ.{one_ne, occ_none, occ_cons, place_at, place_in}
use Rattle.soundness.proofs.Listed.{row_cases}

-- ---- the first of a row
place_head : (x t : ℕ) (q : List ℕ) → (x ≡ t → ⊥) → place (x ∷ q) t ≡ suc (place q t)
unfolding place
place_head x t q apart = rw (ne_eqb x t apart)

-- behind the same first
place_tail : (x t : ℕ) (p q : List ℕ) → place p t ≤ place q t → place (x ∷ p) t ≤ place (x ∷ q) t
unfolding place
place_tail x t p q h = go (eqb x t)
  where
    go : (b : Bool) → cond b 0 (suc (place p t)) ≤ cond b 0 (suc (place q t))
    go true = omega arith
    go false = omega arith

-- who has nobody before it is first
pub place-first : (q : List ℕ) (t : ℕ) → 1 ≤ occ t q → place q t ≡ 0 → first q ≡ t
place-first q t there e = rw e at (place_at t q (place_in t q there))

pub first-place : (q : List ℕ) (t : ℕ) → first q ≡ t → place q t ≡ 0
unfolding place
first-place [] t e = refl
first-place (x ∷ q) t e = rw (eq-eqb x t e)

-- ---- a free place at the end
place_last : (q : List ℕ) (t : ℕ) → place (q ++ (0 ∷ [])) t ≤ suc (place q t)
unfolding place
place_last [] t = go (eqb 0 t)
  where
    go : (b : Bool) → cond b 0 1 ≤ 1
    go true = omega arith
    go false = omega arith
place_last (x ∷ q) t = go (eqb x t) (place_last q t)
  where
    go : (b : Bool) → place (q ++ (0 ∷ [])) t ≤ suc (place q t) → cond b 0 (suc (place (q ++ (0 ∷ [])) t)) ≤ suc (cond b 0 (suc (place q t)))
    go true h = omega arith
    go false h = omega arith

place_append : (q p : List ℕ) (t : ℕ) → 1 ≤ occ t q → place (q ++ p) t ≡ place q t
unfolding place occ
place_append [] p t there = absurd (omega arith)
place_append (x ∷ q) p t there = go (eqb x t) there (place_append q p t)
  where
    go : (b : Bool) → 1 ≤ one b + occ t q → (1 ≤ occ t q → place (q ++ p) t ≡ place q t) → cond b 0 (suc (place (q ++ p) t)) ≡ cond b 0 (suc (place q t))
    go true h more = refl
    go false h more = rw (more (omega arith))

-- ---- u joins, or another than t leaves
pub place-joined : (q : List ℕ) (u t : ℕ) → 1 ≤ t → place (joined q u) t ≤ place q t
unfolding joined place
place-joined [] u t some = omega arith
place-joined (x ∷ q) u t some = ⊎_elim
    (λ (e : x ≡ 0). rw (eq-eqb x 0 e) (front e))
    (λ (n : x ≡ 0 → ⊥). rw (ne_eqb x 0 n) (place_tail x t (joined q u) q (place-joined q u t some)))
    (same? x 0)
  where
    front : x ≡ 0 → place (u ∷ q) t ≤ place (x ∷ q) t
    front e = rw (ne_eqb x t (λ z. omega arith)) (go (eqb u t))
      where
        go : (b : Bool) → cond b 0 (suc (place q t)) ≤ suc (place q t)
        go true = omega arith
        go false = omega arith

pub place-left : (q : List ℕ) (u t : ℕ) → (u ≡ t → ⊥) → place (left q u) t ≤ place q t
unfolding left gap place
place-left [] u t apart = omega arith
place-left (x ∷ q) u t apart = ⊎_elim
    (λ (e : x ≡ u). rw (eq-eqb x u e, ne_eqb x t (λ z. apart (sym e ∙ z))) (place_last q t))
    (λ (n : x ≡ u → ⊥). rw (ne_eqb x u n) (place_tail x t (left q u) q (place-left q u t apart)))
    (same? x u)

-- ---- the first leaves, or becomes last
pub place_served : (q : List ℕ) (t : ℕ) → 1 ≤ occ t q → (first q ≡ t → ⊥) → suc (place (left q (first q)) t) ≤ place q t
unfolding left gap place
place_served [] t there apart = absurd (omega (arith, occ_none t))
place_served (x ∷ q) t there apart =
    let behind : 1 ≤ occ t q = omega (arith, occ_cons t x q, one_ne x t apart) in
    rw (eq-eqb x x refl, ne_eqb x t apart) (omega (arith, place_append q (0 ∷ []) t behind))

pub place-turned : (q : List ℕ) (t : ℕ) → 1 ≤ t → 1 ≤ occ t q → (first q ≡ t → ⊥) → suc (place (turned q) t) ≤ place q t
unfolding turned
place-turned q t some there apart = omega (arith, place-joined (left q (first q)) (first q) t some, place_served q t there apart)

-- ---- a row of a table, where u leaves row f for row g, or t itself keeps its row
pub place-relisted : (ls : List Queue) (f g u l t : ℕ) → 1 ≤ t → (u ≡ t → f ≡ g) → place (row (relisted ls f g u) l) t ≤ place (row ls l) t
place-relisted ls f g u l t some keeps = row_cases (λ q. place q t ≤ place (row ls l) t) ls f g u l
    (λ _. omega arith)
    (λ apart low e. rw e (place-left (row ls f) u t (λ z. apart (keeps z))))
    (λ apart low e. rw e (place-joined (row ls g) u t some))
