-- A move of any task brings who stays in its level no farther from the first place, the charge of the level's first counted.
-- Only where the first itself leaves does that charge change, and then those behind it are a whole place nearer.
use mathlib.Core.Path.{◌≡◌, refl, sym, ap, ◌∙◌}
use mathlib.Core.Logic.{⊎_elim}
use Prim.Native.Nat.{ℕ, suc, ◌+◌, ◌*◌, ◌≤◌, ◌<◌}
use native.Mathlib.Omega.{arith}
use native.Mathlib.Nat.{mul-le-mul_right}
use borrow.Author.Tests.{eq-eqb}
use Rattle.model.specs.declared.Task.{Task}
use Rattle.model.specs.declared.State.{State}
use Rattle.model.specs.Row.{place, left, first_of}
use Rattle.model.specs.Task.{level_of}
use Rattle.model.specs.State.{task, slice, level, moved}
use Rattle.model.specs.Sound.{at}
use Rattle.model.specs.Test.{occ}
use Rattle.laws.proofs.Number.{same?}
use Rattle.laws.proofs.Padded.{first_none}
use Rattle.laws.proofs.Record.{level_none, level_marks}
use Rattle.laws.proofs.Relisted.{relisted_kept, row-relisted_from}
use Rattle.soundness.proofs.Listed.{key_first, listed_in, first_relisted}
use Rattle.soundness.proofs.Orderly.{Orderly, task_in, task_now, task_else, orderly_moved}
use Rattle.turns.proofs.Places.{place_served, place-relisted}
use Rattle.turns.proofs.Still.{Steady}

-- ---- nearer
-- the charge of a level's first
abbrev pub used : State → ℕ → ℕ
used s l = (task s (first_of s.levels l)).charge

pub record Nearer (l t : ℕ) (s s' : State) (d : ℕ) : Type 0 where
  pub steady : slice s' l ≡ slice s l
  pub falls : place (level s' l) t * slice s l + (d + used s l) ≤ place (level s l) t * slice s l + used s' l

pub nearer_then : {l t : ℕ} {s₁ s₂ s₃ : State} {d : ℕ} → Nearer l t s₁ s₂ d → Nearer l t s₂ s₃ 0 → Nearer l t s₁ s₃ d
nearer_then {l} {t} {s₁} {s₂} {s₃} {d} a b = record {
  steady = b.steady ∙ a.steady;
  falls = let c = rw a.steady at b.falls in omega (arith, c, a.falls);
}

module _ (l t : ℕ) (h : 1 ≤ l) (top : l ≤ 30) where
  module _ (s : State) (k : Orderly s) (e : level_of (task s t) ≡ l) where
    pub low : 1 ≤ t
    low = (task_in s k level_of level_none t (omega arith)).0

    pub listed : occ t (level s l) ≡ 1
    listed = listed_in s.levels 31 (λ u. level_of (task s u)) k.levels l t (omega arith) low h e

    -- somebody stands first, and is of this level
    pub first_some : 1 ≤ first_of s.levels l
    first_some = let none : first_of s.levels l ≡ 0 → ⊥ = λ z. omega (arith, first_none (level s l) (k.levels.ends l (omega arith)) z t low, listed) in omega arith

    pub first_level : level_of (task s (first_of s.levels l)) ≡ l
    first_level = (key_first s.levels 31 (λ u. level_of (task s u)) k.levels l (omega arith) (λ z. omega (arith, first_some))).1

    -- its charge is below the slice
    pub used_below : 1 ≤ slice s l → used s l < slice s l
    used_below some = ⊎_elim
        (λ (z : used s l ≡ 0). omega arith)
        (λ (z : (first_of s.levels (level_of (task s (first_of s.levels l))) ≡ first_of s.levels l) × (used s l < at s.numbers.slices (level_of (task s (first_of s.levels l))))).
        rw first_level at z.1)
        (k.charges (first_of s.levels l))

    -- ---- a move
    module _ (u : ℕ) (x : Task) (some : 1 ≤ u) (most : u ≤ 24) (keeps : u ≡ t → level_of x ≡ l) where
      abbrev s' : State
      s' = moved u x s

      -- where the first stays first with its charge
      stays : first_of s'.levels l ≡ first_of s.levels l → (task s' (first_of s.levels l)).charge ≡ used s l → Nearer l t s s' 0
      stays f c =
          let same : used s' l ≡ used s l = ap (λ i. (task s' i).charge) f ∙ c in
          let place' : place (level s' l) t ≤ place (level s l) t =
          unfold moved in place-relisted s.levels (level_of (task s u)) (level_of x) u l t low (λ z. ap (λ i. level_of (task s i)) z ∙ e ∙ sym (keeps z)) in
          record { steady = unfold moved in refl; falls = omega (arith, same, mul-le-mul_right (slice s l) place') }

      -- the first moves: in its level it keeps place and charge, and else it leaves
      first_moves : first_of s.levels l ≡ u → 1 ≤ slice s l → Nearer l t s s' 0
      first_moves f v = ⊎_elim
          (λ (z : level_of x ≡ l).
          stays (first_stays z) (rw (f, task_now s k u x some most, eq-eqb (level_of (task s u)) (level_of x) (own ∙ sym z)) (ap (λ i. (task s i).charge) (sym f))))
          (λ (away : level_of x ≡ l → ⊥). record { steady = slices; falls = omega (arith, used_below v, mul-le-mul_right (slice s l) (leaves away)) })
          (same? (level_of x) l)
        where
          own : level_of (task s u) ≡ l
          own = rw f at first_level

          slices : slice s' l ≡ slice s l
          slices = unfold moved in refl

          first_stays : level_of x ≡ l → first_of s'.levels l ≡ first_of s.levels l
          first_stays z = unfold moved in rw (relisted_kept s.levels (level_of (task s u)) (level_of x) u (own ∙ sym z))

          behind : (level_of x ≡ l → ⊥) → suc (place (left (level s l) u) t) ≤ place (level s l) t
          behind away = rw f at (place_served (level s l) t (omega (arith, listed)) (λ z. away (keeps (sym f ∙ z))))

          leaves : (level_of x ≡ l → ⊥) → suc (place (level s' l) t) ≤ place (level s l) t
          leaves away = unfold moved in
              rw (own, row-relisted_from s.levels l (level_of x) u (λ z. away (sym z)) (λ z. omega arith) (omega (arith, k.levels.sized))) (behind away)

      pub nearer_moved : 1 ≤ slice s l → Nearer l t s s' 0
      nearer_moved v = ⊎_elim
          (λ (f : first_of s.levels l ≡ u). first_moves f v)
          (λ (other : first_of s.levels l ≡ u → ⊥).
          stays (unfold moved in first_relisted s.levels (level_of (task s u)) (level_of x) u l (first_of s.levels l) other first_some refl)
          (ap (λ (y : Task). y.charge) (task_else s k u x some most (first_of s.levels l) other)))
          (same? (first_of s.levels l) u)

  -- ---- through any moves
  -- what outlasts them: the order of the levels, and how near t is
  abbrev pub Nears : State → State → Type 0
  Nears s s' = Orderly s → 1 ≤ slice s l → Orderly s' × Nearer l t s s' 0

  pub in_level : Steady level_of l t Nears
  in_level = record {
    unmarked = level_marks;
    same = λ s e k v. (k, record { steady = refl; falls = omega arith });
    then = λ a b k v. let p = a k v in let q = b p.0 (rw p.1.steady v) in (q.0, nearer_then p.1 q.1);
    moves = λ s u x some most e keeps k v. (orderly_moved s k u x some most, nearer_moved s k e u x some most keeps v);
  }
