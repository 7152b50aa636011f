-- Numbers as the last arm of a `match` knows them, none of the keys before it; and what a test that antt computes at every number below
-- a bound, or over every entry of a table, says of one of them. It rests on the range of the services' numbers alone.
use Prim.Native.Nat.{ℕ, zero, suc, ◌+◌, ◌<◌, ◌≤◌}
use mathlib.Core.Path.{◌≡◌, refl, ap, ◌∙◌}
use mathlib.Core.Bool.{Bool, true, false, cond, ◌&&◌}
use mathlib.Core.List.{List, [], ◌∷◌}
use native.Mathlib.Omega.{arith}
use lib.Dec.{T as So, eqb, eqb→eq}
use lib.ListN.{length, get_or}
use borrow.Author.Tests.{eqb-true, eqb-false, lt-leb, le-leb}
use Rattle.model.specs.Plan.{within}
use Rattle.services.specs.Calls.{how_many, is_service}

pub both_left : (a b : Bool) → So (a && b) → So a
both_left true b t = tt
both_left false b t = t

pub both_right : (a b : Bool) → So (a && b) → So b
both_right true b t = t
both_right false b t = absurd t

-- x is none of the keys, as a `match` says it in its last arm
abbrev pub Rest : List ℕ → ℕ → Type 0 → Type 0
Rest [] x N = N
Rest (k ∷ ks) x N = Rest ks x (N × (x ≡ k → ⊥))

out : (ks : List ℕ) (x : ℕ) (N : Type 0) → Rest ks x N → N
out [] x N r = r
out (k ∷ ks) x N r = (out ks x (N × (x ≡ k → ⊥)) r).0

unfoldable pub has : List ℕ → ℕ → Bool
has [] k = false
has (j ∷ ks) k = cond (eqb k j) true (has ks k)

pub none_is : (ks : List ℕ) (x : ℕ) (N : Type 0) → Rest ks x N → (k : ℕ) → So (has ks k) → x ≡ k → ⊥
unfolding has
none_is [] x N r k t = absurd t
none_is (j ∷ ks) x N r k t = go (eqb k j) refl t (λ u. none_is ks x (N × (x ≡ j → ⊥)) r k u)
  where
    go : (b : Bool) → eqb k j ≡ b → So (cond b true (has ks k)) → (So (has ks k) → x ≡ k → ⊥) → x ≡ k → ⊥
    go true e u ih q = (out ks x (N × (x ≡ j → ⊥)) r).1 (q ∙ eqb-true k j e)
    go false e u ih q = ih u q

-- a number that is none of the n from i on, and not below i, is past them
abbrev pub up_from : ℕ → ℕ → List ℕ
up_from i zero = []
up_from i (suc n) = i ∷ up_from (suc i) n

pub above : (n i x : ℕ) (N : Type 0) → Rest (up_from i n) x N → i ≤ x → i + n ≤ x
above zero i x N r h = omega arith
above (suc n) i x N r h =
    let m = (out (up_from (suc i) n) x (N × (x ≡ i → ⊥)) r).1 in
    omega (arith, above n (suc i) x (N × (x ≡ i → ⊥)) r (omega arith))

pub past : (x : ℕ) → how_many < x → is_service x ≡ false
unfolding within
past x h = rw (le-leb 1 x (omega arith), lt-leb x how_many (omega arith))

-- none of the numbers of services
pub no_service : (x : ℕ) → Rest (up_from 1 how_many) x Unit → is_service x ≡ false
unfolding within
no_service zero r = refl
no_service (suc x) r = past (suc x) (above how_many 1 (suc x) Unit r (omega arith))

-- ---- a test at each number below n
unfoldable pub below : ℕ → (ℕ → Bool) → Bool
below zero f = true
below (suc n) f = f n && below n f

pub at_number : (n : ℕ) (f : ℕ → Bool) → So (below n f) → (i : ℕ) → i < n → So (f i)
unfolding below
at_number zero f t i h = absurd (omega arith)
at_number (suc n) f t i h = go (eqb i n) refl (λ k. at_number n f (both_right (f n) (below n f) t) i k)
  where
    lt_of : (i ≡ n → ⊥) → i < n
    lt_of m = omega arith

    go : (b : Bool) → eqb i n ≡ b → (i < n → So (f i)) → So (f i)
    go true e ih = rw (eqb-true i n e) (both_left (f n) (below n f) t)
    go false e ih = ih (lt_of (λ q. eqb-false i n e q))

-- ---- a table whose entry at the place i, from the number k on, is g (k + i) in f
unfoldable pub fits : {A : Type 0} → (A → ℕ) → (ℕ → ℕ) → ℕ → List A → Bool
fits f g k [] = true
fits f g k (x ∷ xs) = eqb (f x) (g k) && fits f g (suc k) xs

pub at_place : {A : Type 0} (f : A → ℕ) (g : ℕ → ℕ) (k : ℕ) (xs : List A) → So (fits f g k xs) → (d : A) (i : ℕ) → i < length xs → f (get_or xs i d) ≡ g (k + i)
unfolding fits
at_place f g k [] t d i h = absurd (omega arith)
at_place f g k (x ∷ xs) t d zero h =
    let e : k ≡ k + 0 = omega arith in
    eqb→eq (f x) (g k) (both_left (eqb (f x) (g k)) (fits f g (suc k) xs) t) ∙ ap g e
at_place f g k (x ∷ xs) t d (suc i) h =
    let e : suc k + i ≡ k + suc i = omega arith in
    at_place f g (suc k) xs (both_right (eqb (f x) (g k)) (fits f g (suc k) xs) t) d i (omega arith) ∙ ap g e
