-- A test and the statement that it says: the test of a whole says what the tests of its parts say.
-- Rests on the words of model/specs/Test alone.
use mathlib.Core.Path.{◌≡◌, refl, sym, subst}
use mathlib.Core.Bool.{Bool, true, false, cond, not, ◌&&◌, ◌||◌}
use mathlib.Core.Logic.{◌⊎◌, inl, inr, ⊎_elim}
use Prim.Native.Nat.{ℕ, zero, suc, ◌≤◌, ◌<◌}
use native.Mathlib.Omega.{arith}
use lib.Dec.{T as So, eqb, leb, ltb, leb→le, le→leb, ltb→lt, lt→ltb, eqb→eq, eqb_refl}
use Rattle.model.specs.Plan.{within}
use Rattle.model.specs.Test.{implies, below}
use Rattle.laws.proofs.Number.{same?, below?}

pub record Says (b : Bool) (A : Type 0) : Type 0 where
  pub yields : So b → A
  pub tests : A → So b

pub says_as : {b : Bool} {A B : Type 0} → (A → B) → (B → A) → Says b A → Says b B
says_as f g h = record { yields = λ t. f (h.yields t); tests = λ x. h.tests (g x) }

pub says_same : (b : Bool) → Says b (So b)
says_same b = record { yields = λ t. t; tests = λ t. t }

pub says_false : (b : Bool) → Says (not b) (b ≡ false)
says_false true = record { yields = λ t. absurd t; tests = λ e. subst (λ (b : Bool). So (not b)) (sym e) tt }
says_false false = record { yields = λ t. refl; tests = λ e. tt }

-- ---- numbers
pub says_eq : {m n : ℕ} → Says (eqb m n) (m ≡ n)
says_eq {m} {n} = record { yields = eqb→eq m n; tests = λ e. subst (λ k. So (eqb m k)) e (eqb_refl m) }

pub says_le : {m n : ℕ} → Says (leb m n) (m ≤ n)
says_le {m} {n} = record { yields = leb→le m n; tests = le→leb m n }

pub says_lt : {m n : ℕ} → Says (ltb m n) (m < n)
says_lt {m} {n} = record { yields = ltb→lt m n; tests = lt→ltb m n }

-- ---- tests of tests
pub says_not : {a : Bool} {A : Type 0} → Says a A → Says (not a) (A → ⊥)
says_not {a = true} f = record { yields = λ t. absurd t; tests = λ n. n (f.yields tt) }
says_not {a = false} f = record { yields = λ t x. f.tests x; tests = λ n. tt }

pub says_and : {a b : Bool} {A B : Type 0} → Says a A → Says b B → Says (a && b) (A × B)
says_and {a = true} f g = record { yields = λ t. (f.yields tt, g.yields t); tests = λ p. g.tests p.1 }
says_and {a = false} f g = record { yields = λ t. absurd t; tests = λ p. f.tests p.0 }

pub says_or : {a b : Bool} {A B : Type 0} → Says a A → Says b B → Says (a || b) (A ⊎ B)
says_or {a = true} f g = record { yields = λ t. inl (f.yields tt); tests = λ p. tt }
says_or {a = false} f g = record { yields = λ t. inr (g.yields t); tests = λ p. ⊎_elim (λ x. absurd (f.tests x)) g.tests p }

pub says_implies : {a b : Bool} {A B : Type 0} → Says a A → Says b B → Says (implies a b) (A → B)
says_implies {a = true} f g = record { yields = λ t x. g.yields t; tests = λ h. g.tests (h (f.yields tt)) }
says_implies {a = false} f g = record { yields = λ t x. absurd (f.tests x); tests = λ h. tt }

pub says_cond : {a b c : Bool} {A B C : Type 0} → Says a A → Says b B → Says c C → Says (cond a b c) ((A → B) × ((A → ⊥) → C))
says_cond {a = true} f g h = record { yields = λ t. (λ x. g.yields t, λ n. absurd (n (f.yields tt))); tests = λ p. g.tests (p.0 (f.yields tt)) }
says_cond {a = false} f g h = record { yields = λ t. (λ x. absurd (f.tests x), λ n. h.yields t); tests = λ p. h.tests (p.1 f.tests) }

pub says_within : {low n top : ℕ} → Says (within low n top) ((low ≤ n) × (n ≤ top))
unfolding within
says_within = says_and says_le says_le

-- ---- each number
pub says_below : (n : ℕ) (f : ℕ → Bool) (P : ℕ → Type 0) → ((i : ℕ) → Says (f i) (P i)) → Says (below n f) ((i : ℕ) → i < n → P i)
unfolding below
says_below zero f P h = record { yields = λ _ i l. absurd (omega arith); tests = λ _. tt }
says_below (suc n) f P h = says_as
    (λ p i l. ⊎_elim (λ (e : i ≡ n). subst P (sym e) p.0) (λ (d : i ≡ n → ⊥). p.1 i (omega arith)) (same? i n))
    (λ q. (q n (omega arith), λ i l. q i (omega arith)))
    (says_and (h n) (says_below n f P h))

-- what holds below n, and from n on, holds of each number
pub everywhere : (P : ℕ → Type 0) (n : ℕ) → ((i : ℕ) → n ≤ i → P i) → ((i : ℕ) → i < n → P i) → (i : ℕ) → P i
everywhere P n past h i = ⊎_elim (λ (l : i < n). h i l) (λ (l : n ≤ i). past i l) (below? i n)
