-- What joining and leaving a row make of the tasks that it lists, and of the pairs read off their records.
-- They rest on the rows of model/specs/Row and the listing of model/specs/Bench.
use mathlib.Core.Path.{◌≡◌, refl, sym, ap, ◌∙◌}
use mathlib.Core.Bool.{Bool, true, false, cond, not, ◌&&◌, ◌||◌, false≢true}
use mathlib.Core.List.{List, [], ◌∷◌, ◌++◌}
use mathlib.Core.Logic.{◌⊎◌, inl, inr}
use Prim.Native.Nat.{ℕ, ◌+◌, ◌≤◌, ◌<◌}
use native.Mathlib.Omega.{arith}
use lib.Dec.{eqb}
use lib.ListN.{length, drop, set}
use borrow.Author.Tests.{eq-eqb, ne_eqb, eqb-true}
use Rattle.order.specs.Lists.{has, once, staying, tasks, paired, keeping}
use Rattle.laws.proofs.Number.{same?}
use Rattle.order.proofs.Lists.{both, or-true, once_rest}
use Rattle.model.specs.Row.{place, gap, first, joined, left}
use Rattle.model.specs.Test.{one, occ, zeros, lists_only, padded}
use Rattle.model.specs.Bench.{listing}

-- ---- pairs
pub tasks-paired : (f : ℕ → ℕ) (q : List ℕ) → tasks (paired f q) ≡ q
unfolding tasks paired
tasks-paired f [] = refl
tasks-paired f (t ∷ q) = ap (λ (l : List ℕ). t ∷ l) (tasks-paired f q)

pub paired_append : (f : ℕ → ℕ) (p q : List ℕ) → paired f (p ++ q) ≡ paired f p ++ paired f q
unfolding paired
paired_append f [] q = refl
paired_append f (t ∷ p) q = ap (λ (l : List (ℕ × ℕ)). (t, f t) ∷ l) (paired_append f p q)

-- the records of others may change
pub paired_same : (f g : ℕ → ℕ) (q : List ℕ) → ((t : ℕ) → has t q ≡ true → f t ≡ g t) → paired f q ≡ paired g q
unfolding has paired
paired_same f g [] h = refl
paired_same f g (t ∷ q) h = rw (h t (rw (eq-eqb t t refl)), paired_same f g q (λ u y. h u (rw (y, or-true (eqb t u)))))

pub keeping-paired : (p : ℕ → Bool) (f : ℕ → ℕ) (q : List ℕ) → keeping p (paired f q) ≡ paired f (staying p q)
unfolding keeping paired staying
keeping-paired p f [] = refl
keeping-paired p f (t ∷ q) = go (p t) (keeping-paired p f q)
  where
    go : (b : Bool) → keeping p (paired f q) ≡ paired f (staying p q)
        → cond b ((t, f t) ∷ keeping p (paired f q)) (keeping p (paired f q)) ≡ paired f (cond b (t ∷ staying p q) (staying p q))
    go true e = ap (λ (l : List (ℕ × ℕ)). (t, f t) ∷ l) e
    go false e = e

-- one move after the other
pub staying_twice : (p r : ℕ → Bool) (q : List ℕ) → staying r (staying p q) ≡ staying (λ t. p t && r t) q
unfolding staying
staying_twice p r [] = refl
staying_twice p r (t ∷ q) = go (p t) (staying_twice p r q)
  where
    go : (b : Bool) → staying r (staying p q) ≡ staying (λ u. p u && r u) q
        → staying r (cond b (t ∷ staying p q) (staying p q)) ≡ cond (b && r t) (t ∷ staying (λ u. p u && r u) q) (staying (λ u. p u && r u) q)
    go true e = rw e
    go false e = e

-- ---- joining
listing-zeros : (q : List ℕ) → zeros q ≡ true → listing q ≡ []
unfolding zeros listing
listing-zeros [] h = refl
listing-zeros (x ∷ q) h = go (eqb x 0) h
  where
    go : (b : Bool) → b && zeros q ≡ true → cond b [] (x ∷ listing q) ≡ []
    go true y = refl
    go false y = absurd (false≢true y)

pub listing-joined : (q : List ℕ) (t : ℕ) → (t ≡ 0 → ⊥) → padded q ≡ true → place q 0 < length q → listing (joined q t) ≡ listing q ++ (t ∷ [])
unfolding joined place listing lists_only
listing-joined [] t some h room = absurd (omega arith)
listing-joined (x ∷ q) t some h room = go (same? x 0) (listing-joined q t some)
  where
    go : (x ≡ 0) ⊎ (x ≡ 0 → ⊥) → (padded q ≡ true → place q 0 < length q → listing (set q (place q 0) t) ≡ listing q ++ (t ∷ []))
        → listing (set (x ∷ q) (place (x ∷ q) 0) t) ≡ listing (x ∷ q) ++ (t ∷ [])
    go (inl y) on = rw (eq-eqb x 0 y, ne_eqb t 0 some, listing-zeros q (rw (eq-eqb x 0 y) at h))
    go (inr n) on =
        let below = rw (ne_eqb x 0 n) at room in
        rw (ne_eqb x 0 n, ne_eqb x 0 n) (ap (λ (l : List ℕ). x ∷ l) (on (rw (ne_eqb x 0 n) at h) (omega (arith, below))))

-- ---- leaving
pub listing_padded : (q : List ℕ) → listing (q ++ (0 ∷ [])) ≡ listing q
unfolding listing
listing_padded [] = refl
listing_padded (x ∷ q) = rw (listing_padded q)

-- the first leaves
pub listing_first : (x : ℕ) (q : List ℕ) → (x ≡ 0 → ⊥) → (listing (x ∷ q) ≡ x ∷ listing q) × (listing (left (x ∷ q) x) ≡ listing q)
unfolding listing left place gap
listing_first x q some = (rw (ne_eqb x 0 some), rw (eq-eqb x x refl) (listing_padded q))

-- where it leaves, the others stay
pub staying_all : (p : ℕ → Bool) (q : List ℕ) → ((t : ℕ) → has t q ≡ true → p t ≡ true) → staying p q ≡ q
unfolding has staying
staying_all p [] h = refl
staying_all p (t ∷ q) h = rw (h t (rw (eq-eqb t t refl)), staying_all p q (λ u y. h u (rw (y, or-true (eqb t u)))))

pub others : (t : ℕ) (q : List ℕ) → has t q ≡ false → staying (λ u. not (eqb u t)) q ≡ q
others t q none = staying_all (λ u. not (eqb u t)) q (λ u h. go u h (same? u t))
  where
    go : (u : ℕ) → has u q ≡ true → (u ≡ t) ⊎ (u ≡ t → ⊥) → not (eqb u t) ≡ true
    go u h (inl y) = absurd (false≢true (sym none ∙ rw y at h))
    go u h (inr n) = rw (ne_eqb u t n)

pub listing-left : (q : List ℕ) (t : ℕ) → (t ≡ 0 → ⊥) → once (listing q) ≡ true → listing (left q t) ≡ staying (λ u. not (eqb u t)) (listing q)
unfolding listing left place gap staying
listing-left [] t some o = refl
listing-left (x ∷ q) t some o = go (same? x t) (same? x 0) (listing-left q t some)
  where
    go : (x ≡ t) ⊎ (x ≡ t → ⊥) → (x ≡ 0) ⊎ (x ≡ 0 → ⊥) → (once (listing q) ≡ true → listing (gap q (place q t)) ≡ staying (λ u. not (eqb u t)) (listing q))
        → listing (gap (x ∷ q) (place (x ∷ q) t)) ≡ staying (λ u. not (eqb u t)) (listing (x ∷ q))
    go (inl y) (inl z) on = absurd (some (sym y ∙ z))
    go (inl y) (inr n) on =
        let h = (once_rest x (listing q) (rw (ne_eqb x 0 n) at o)).0 in
        rw (eq-eqb x t y, ne_eqb x 0 n, eq-eqb x t y) (listing_padded q ∙ sym (others t (listing q) (rw y at h)))
    go (inr apart) (inl z) on = rw (ne_eqb x t apart, eq-eqb x 0 z)
    go (inr apart) (inr n) on =
        rw (ne_eqb x t apart, ne_eqb x 0 n, ne_eqb x t apart) (ap (λ (l : List ℕ). x ∷ l) (on (once_rest x (listing q) (rw (ne_eqb x 0 n) at o)).1))

-- ---- what `Lists` of the project says of a row
has_some : (t : ℕ) (q : List ℕ) → 1 ≤ occ t q → has t q ≡ true
unfolding has occ
has_some t [] h = absurd (omega arith)
has_some t (x ∷ q) h = go (eqb x t) h (has_some t q)
  where
    go : (b : Bool) → 1 ≤ one b + occ t q → (1 ≤ occ t q → has t q ≡ true) → b || has t q ≡ true
    go true y on = refl
    go false y on = on (omega (arith, y))

has_none : (t : ℕ) (q : List ℕ) → occ t q ≡ 0 → has t q ≡ false
unfolding has occ
has_none t [] h = refl
has_none t (x ∷ q) h = go (eqb x t) h (has_none t q)
  where
    go : (b : Bool) → one b + occ t q ≡ 0 → (occ t q ≡ 0 → has t q ≡ false) → b || has t q ≡ false
    go true y on = absurd (omega (arith, y))
    go false y on = on (omega (arith, y))

occ-zeros : (t : ℕ) (q : List ℕ) → 1 ≤ t → zeros q ≡ true → occ t q ≡ 0
unfolding occ zeros
occ-zeros t [] some h = refl
occ-zeros t (x ∷ q) some h =
    let y = both (eqb x 0) (zeros q) h in
    rw (ne_eqb x t (λ e. omega (arith, e, eqb-true x 0 y.0, some))) (omega (arith, occ-zeros t q some y.1))

-- a row lists a task as often as it stands there
pub occ-listing : (t : ℕ) (q : List ℕ) → 1 ≤ t → padded q ≡ true → occ t (listing q) ≡ occ t q
unfolding occ listing lists_only
occ-listing t [] some h = refl
occ-listing t (x ∷ q) some h = go (same? x 0) (occ-listing t q some)
  where
    go : (x ≡ 0) ⊎ (x ≡ 0 → ⊥) → (padded q ≡ true → occ t (listing q) ≡ occ t q) → occ t (listing (x ∷ q)) ≡ one (eqb x t) + occ t q
    go (inl y) on =
        rw (eq-eqb x 0 y, ne_eqb x t (λ e. omega (arith, e, y, some))) (let z = occ-zeros t q some (rw (eq-eqb x 0 y) at h) in omega (arith, z))
    go (inr n) on = rw (ne_eqb x 0 n) (ap (λ k. one (eqb x t) + k) (on (rw (ne_eqb x 0 n) at h)))

pub listed : (t : ℕ) (q : List ℕ) → 1 ≤ t → padded q ≡ true → 1 ≤ occ t q → has t (listing q) ≡ true
listed t q some h y = has_some t (listing q) (omega (arith, occ-listing t q some h))

pub not_listed : (t : ℕ) (q : List ℕ) → 1 ≤ t → padded q ≡ true → occ t q ≡ 0 → has t (listing q) ≡ false
not_listed t q some h y = has_none t (listing q) (occ-listing t q some h ∙ y)

-- each at most once
pub once-listing : (q : List ℕ) → padded q ≡ true → ((t : ℕ) → 1 ≤ t → occ t q ≤ 1) → once (listing q) ≡ true
unfolding occ listing lists_only once
once-listing [] h most = refl
once-listing (x ∷ q) h most = go (same? x 0) (once-listing q)
  where
    go : (x ≡ 0) ⊎ (x ≡ 0 → ⊥) → (padded q ≡ true → ((t : ℕ) → 1 ≤ t → occ t q ≤ 1) → once (listing q) ≡ true) → once (listing (x ∷ q)) ≡ true
    go (inl y) on = rw (eq-eqb x 0 y)
    go (inr n) on =
        let p = rw (ne_eqb x 0 n) at h in
        let m = most x (omega (arith, n)) in
        let m' = rw (eq-eqb x x refl) at m in
        rw (ne_eqb x 0 n, not_listed x q (omega (arith, n)) p (omega (arith, m'))) (on p (λ t some. omega (arith, most t some)))

-- ---- who stands first
pub listing_none : (q : List ℕ) → first q ≡ 0 → listing q ≡ []
unfolding listing
listing_none [] e = refl
listing_none (x ∷ q) e = rw (eq-eqb x 0 e)

pub listing_some : (q : List ℕ) → 1 ≤ first q → listing q ≡ first q ∷ listing (drop 1 q)
unfolding listing
listing_some [] some = absurd (omega arith)
listing_some (x ∷ q) some = rw (ne_eqb x 0 (λ e. omega (arith, e, some)))

-- 0 names no task
pub listing_tasks : (q : List ℕ) → has 0 (listing q) ≡ false
unfolding listing has
listing_tasks [] = refl
listing_tasks (x ∷ q) = go (same? x 0) (listing_tasks q)
  where
    go : (x ≡ 0) ⊎ (x ≡ 0 → ⊥) → has 0 (listing q) ≡ false → has 0 (listing (x ∷ q)) ≡ false
    go (inl e) on = rw (eq-eqb x 0 e)
    go (inr n) on = rw (ne_eqb x 0 n, ne_eqb x 0 n) on
