-- What the tests of model say as they hold, and that they hold of more where they hold of less.
-- Rests on model/specs/Test alone.
use mathlib.Core.Path.{◌≡◌, refl, sym}
use mathlib.Core.Bool.{Bool, true, false, not, ◌&&◌, false≢true}
use mathlib.Core.List.{List, [], ◌∷◌}
use Prim.Native.Nat.{ℕ, zero, suc, ◌≤◌, ◌<◌}
use native.Mathlib.Decide.{ℕ_discrete}
use native.Mathlib.Omega.{arith}
use lib.Dec.{eqb}
use lib.ListN.{get_or, set}
use borrow.Author.Tests.{eq-eqb, ne_eqb, eqb-true}
use Rattle.model.specs.declared.Queue.{Queue}
use Rattle.model.specs.Row.{row}
use Rattle.model.specs.Test.{below, every_row, occ, zeros, lists_only, is_listed}

-- ---- tests
pub both : (a b : Bool) → (a && b) ≡ true → (a ≡ true) × (b ≡ true)
both true b h = (refl, h)
both false b h = absurd (false≢true h)

pub and_both : (a b : Bool) → a ≡ true → b ≡ true → (a && b) ≡ true
and_both a b p q = rw (p, q)

pub same_tests : (a b : Bool) → (a ≡ true → b ≡ true) → (b ≡ true → a ≡ true) → a ≡ b
same_tests true b f g = sym (f refl)
same_tests false true f g = g refl
same_tests false false f g = refl

module _ (f : ℕ → Bool) where
  pub below_at : (n i : ℕ) → below n f ≡ true → i < n → f i ≡ true
  unfolding below
  below_at zero i h p = absurd (omega arith)
  below_at (suc n) i h p = elim (ℕ_discrete i n) [
    | yes e ↦ rw e (both (f n) (below n f) h).0
    | no d ↦ below_at n i (both (f n) (below n f) h).1 (omega arith)
  ]

  pub below_all : (n : ℕ) → ((i : ℕ) → i < n → f i ≡ true) → below n f ≡ true
  unfolding below
  below_all zero h = refl
  below_all (suc n) h = and_both (f n) (below n f) (h n (omega arith)) (below_all n (λ i p. h i (omega arith)))

-- ---- row l is where a task with this key is listed
module _ (l key : ℕ) where
  pub listed_by : is_listed l key ≡ true → (l ≡ 0 → ⊥) × (key ≡ l)
  listed_by h = (λ e. false≢true (rw (eq-eqb l 0 e) at (both (not (eqb l 0)) (eqb key l) h).0), eqb-true key l (both (not (eqb l 0)) (eqb key l) h).1)

  pub listed_as : (l ≡ 0 → ⊥) → key ≡ l → is_listed l key ≡ true
  listed_as n e = rw (ne_eqb l 0 n, eq-eqb key l e)

-- ---- zeros
pub zeros-occ : (q : List ℕ) (t : ℕ) → zeros q ≡ true → 1 ≤ t → occ t q ≡ 0
unfolding zeros occ
zeros-occ [] t h p = refl
zeros-occ (x ∷ q) t h p =
    let b = both (eqb x 0) (zeros q) h in
    let e = eqb-true x 0 b.0 in
    rw (ne_eqb x t (λ k. omega arith)) (omega (arith, zeros-occ q t b.1 p))

pub zeros_at : (w : List ℕ) (t : ℕ) → zeros w ≡ true → get_or w t 0 ≡ 0
unfolding zeros
zeros_at [] t h = refl
zeros_at (x ∷ w) zero h = eqb-true x 0 (both (eqb x 0) (zeros w) h).0
zeros_at (x ∷ w) (suc t) h = zeros_at w t (both (eqb x 0) (zeros w) h).1

pub zeros_all : (w : List ℕ) → ((t : ℕ) → get_or w t 0 ≡ 0) → zeros w ≡ true
unfolding zeros
zeros_all [] h = refl
zeros_all (x ∷ w) h = and_both (eqb x 0) (zeros w) (eq-eqb x 0 (h 0)) (zeros_all w (λ t. h (suc t)))

-- ---- stores of 0
pub cleared : (w : List ℕ) (t : ℕ) → get_or (set w t 0) t 0 ≡ 0
cleared [] t = refl
cleared (x ∷ w) zero = refl
cleared (x ∷ w) (suc t) = cleared w t

-- ---- how often
pub occ_here : (t x : ℕ) (q : List ℕ) → x ≡ t → occ t (x ∷ q) ≡ suc (occ t q)
unfolding occ
occ_here t x q e = rw (eq-eqb x t e) (omega arith)

pub occ_other : (t x : ℕ) (q : List ℕ) → (x ≡ t → ⊥) → occ t (x ∷ q) ≡ occ t q
unfolding occ
occ_other t x q n = rw (ne_eqb x t n) (omega arith)

pub occ_tail : (t x : ℕ) (q : List ℕ) → occ t q ≤ occ t (x ∷ q)
unfolding occ
occ_tail t x q = omega arith

-- ---- where the test f holds of a task that stands there, g does
pub lists_only_more : (f g : ℕ → Bool) (q : List ℕ) → ((t : ℕ) → 1 ≤ t → 1 ≤ occ t q → f t ≡ true → g t ≡ true) → lists_only f q ≡ true → lists_only g q ≡ true
unfolding lists_only
lists_only_more f g [] k h = refl
lists_only_more f g (x ∷ q) k h = elim (ℕ_discrete x 0) [
  | yes e ↦ rw (eq-eqb x 0 e) (rw (eq-eqb x 0 e) at h)
  | no n ↦
      let b = both (f x) (lists_only f q) (rw (ne_eqb x 0 n) at h) in
      rw (ne_eqb x 0 n) (and_both (g x) (lists_only g q) (k x (omega arith) (omega (arith, occ_here x x q refl)) b.0)
      (lists_only_more f g q (λ t p o. k t p (omega (arith, occ_tail t x q))) b.1))
]

pub every_row_more : (f g : ℕ → List ℕ → Bool) (n l : ℕ) (qs : List Queue) → ((m : ℕ) (q : List ℕ) → l ≤ m → f m q ≡ true → g m q ≡ true)
    → every_row n l f qs ≡ true → every_row n l g qs ≡ true
unfolding every_row
every_row_more f g zero l qs k h = refl
every_row_more f g (suc n) l qs k h =
    let b = both (f l (row qs l)) (every_row n (suc l) f qs) h in
    and_both (g l (row qs l)) (every_row n (suc l) g qs) (k l (row qs l) (omega arith) b.0) (every_row_more f g n (suc l) qs (λ m q p. k m q (omega arith)) b.1)
