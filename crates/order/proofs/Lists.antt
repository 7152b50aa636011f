-- Laws of the lists of tasks and elements: joined, kept in part, and each task at most once.
-- They rest on specs/Lists alone.
use mathlib.Core.Path.{◌≡◌, refl, sym, ap, ◌∙◌}
use mathlib.Core.Bool.{Bool, true, false, cond, not, ◌&&◌, ◌||◌, false≢true}
use mathlib.Core.List.{List, [], ◌∷◌, ◌++◌}
use mathlib.Core.Logic.{◌⊎◌, inl, inr}
use Prim.Native.Nat.{ℕ}
use lib.Dec.{eqb}
use borrow.Author.Tests.{eq-eqb, ne_eqb, not-true}
use Rattle.laws.proofs.Number.{same?}
use Rattle.order.specs.Lists.{has, once, staying, tasks, elements, keeping}

-- ---- truth values
pub both : (a b : Bool) → a && b ≡ true → (a ≡ true) × (b ≡ true)
both true b e = (refl, e)
both false b e = absurd (false≢true e)

pub neither : (a b : Bool) → a || b ≡ false → (a ≡ false) × (b ≡ false)
neither true b e = absurd (false≢true (sym e))
neither false b e = (refl, e)

pub or-true : (b : Bool) → b || true ≡ true
or-true true = refl
or-true false = refl

pub and_none : (b : Bool) → b && false ≡ false
and_none true = refl
and_none false = refl

pub eqb_turned : (a b : ℕ) → eqb a b ≡ eqb b a
eqb_turned a b = go (same? a b)
  where
    go : (a ≡ b) ⊎ (a ≡ b → ⊥) → eqb a b ≡ eqb b a
    go (inl y) = rw (eq-eqb a b y, eq-eqb b a (sym y))
    go (inr n) = rw (ne_eqb a b n, ne_eqb b a (λ y. n (sym y)))

-- ---- joined lists
pub elements_append : (l m : List (ℕ × ℕ)) → elements (l ++ m) ≡ elements l ++ elements m
unfolding elements
elements_append [] m = refl
elements_append (x ∷ l) m = ap (λ (q : List ℕ). x.1 ∷ q) (elements_append l m)

pub tasks_append : (l m : List (ℕ × ℕ)) → tasks (l ++ m) ≡ tasks l ++ tasks m
unfolding tasks
tasks_append [] m = refl
tasks_append (x ∷ l) m = ap (λ (q : List ℕ). x.0 ∷ q) (tasks_append l m)

pub has_behind : (t : ℕ) (q r : List ℕ) → has t r ≡ true → has t (q ++ r) ≡ true
unfolding has
has_behind t [] r h = h
has_behind t (u ∷ q) r h = rw (has_behind t q r h, or-true (eqb u t))

-- u is not there, nor is it t
pub has_joined : (u : ℕ) (q : List ℕ) (t : ℕ) → has u q ≡ false → eqb t u ≡ false → has u (q ++ (t ∷ [])) ≡ false
unfolding has
has_joined u [] t h e = rw e
has_joined u (v ∷ q) t h e = let n = neither (eqb v u) (has u q) h in rw n.0 (has_joined u q t n.1 e)

-- a task that is not there may join
pub once_joined : (q : List ℕ) (t : ℕ) → once q ≡ true → has t q ≡ false → once (q ++ (t ∷ [])) ≡ true
unfolding has once
once_joined [] t o h = refl
once_joined (u ∷ q) t o h =
    let n = neither (eqb u t) (has t q) h in
    let b = both (not (has u q)) (once q) o in
    rw (has_joined u q t (not-true (has u q) b.0) (eqb_turned t u ∙ n.0)) (once_joined q t b.1 n.1)

pub once_rest : (u : ℕ) (q : List ℕ) → once (u ∷ q) ≡ true → (has u q ≡ false) × (once q ≡ true)
unfolding once
once_rest u q o = let b = both (not (has u q)) (once q) o in (not-true (has u q) b.0, b.1)

pub keeping_nil : (p : ℕ → Bool) → keeping p [] ≡ []
unfolding keeping
keeping_nil p = refl

pub keeping_append : (p : ℕ → Bool) (l m : List (ℕ × ℕ)) → keeping p (l ++ m) ≡ keeping p l ++ keeping p m
unfolding keeping
keeping_append p [] m = refl
keeping_append p (x ∷ l) m = go (p x.0) (keeping_append p l m)
  where
    go : (b : Bool) → keeping p (l ++ m) ≡ keeping p l ++ keeping p m
        → cond b (x ∷ keeping p (l ++ m)) (keeping p (l ++ m)) ≡ cond b (x ∷ keeping p l) (keeping p l) ++ keeping p m
    go true e = ap (λ (q : List (ℕ × ℕ)). x ∷ q) e
    go false e = e

-- ---- those who stay
pub tasks-keeping : (p : ℕ → Bool) (l : List (ℕ × ℕ)) → tasks (keeping p l) ≡ staying p (tasks l)
unfolding tasks keeping staying
tasks-keeping p [] = refl
tasks-keeping p (x ∷ l) = go (p x.0) (tasks-keeping p l)
  where
    go : (b : Bool) → tasks (keeping p l) ≡ staying p (tasks l) → tasks (cond b (x ∷ keeping p l) (keeping p l)) ≡ cond b (x.0 ∷ staying p (tasks l)) (staying p (tasks l))
    go true e = ap (λ (q : List ℕ). x.0 ∷ q) e
    go false e = e

pub has-staying : (p : ℕ → Bool) (u : ℕ) (q : List ℕ) → has u (staying p q) ≡ p u && has u q
unfolding has staying
has-staying p u [] = sym (and_none (p u))
has-staying p u (v ∷ q) = go (same? v u) (has-staying p u q)
  where
    here : (b c : Bool) → c ≡ b && has u q → has u (cond b (v ∷ staying p q) (staying p q)) ≡ cond b (eqb v u || has u (staying p q)) (has u (staying p q))
    here true c e = refl
    here false c e = refl

    same : (b : Bool) → has u (staying p q) ≡ b && has u q → cond b (true || has u (staying p q)) (has u (staying p q)) ≡ b && true
    same true e = refl
    same false e = e

    other : (b : Bool) → cond b (false || has u (staying p q)) (has u (staying p q)) ≡ has u (staying p q)
    other true = refl
    other false = refl

    go : (v ≡ u) ⊎ (v ≡ u → ⊥) → has u (staying p q) ≡ p u && has u q → has u (cond (p v) (v ∷ staying p q) (staying p q)) ≡ p u && (eqb v u || has u q)
    go (inl y) e = here (p v) (p v && has u q) refl ∙ rw (eq-eqb v u y, y) (same (p u) e)
    go (inr n) e = here (p v) (p v && has u q) refl ∙ rw (ne_eqb v u n) (other (p v) ∙ e)

pub once-staying : (p : ℕ → Bool) (q : List ℕ) → once q ≡ true → once (staying p q) ≡ true
unfolding once staying
once-staying p [] o = refl
once-staying p (u ∷ q) o = let b = once_rest u q o in go (p u) b.0 (once-staying p q b.1)
  where
    go : (b : Bool) → has u q ≡ false → once (staying p q) ≡ true → once (cond b (u ∷ staying p q) (staying p q)) ≡ true
    go true h e = rw (has-staying p u q, h, and_none (p u)) e
    go false h e = e

pub keeping_same : (p r : ℕ → Bool) (l : List (ℕ × ℕ)) → ((u : ℕ) → has u (tasks l) ≡ true → p u ≡ r u) → keeping p l ≡ keeping r l
unfolding has tasks keeping
keeping_same p r [] h = refl
keeping_same p r (x ∷ l) h =
    let e = h x.0 (rw (eq-eqb x.0 x.0 refl) refl) in
    let rest = keeping_same p r l (λ u y. h u (rw (y, or-true (eqb x.0 u)))) in
    rw (e, rest)
