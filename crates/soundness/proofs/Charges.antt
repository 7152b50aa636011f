-- The charges of a sound state: who is in no level has none, and what a move or a turn leaves of them.
-- It rests on `SoundCharge` of model/specs/Sound and on who stands first in a changed row (laws, Listed).
use mathlib.Core.Path.{◌≡◌, refl, ap, ◌∙◌}
use mathlib.Core.List.{List}
use mathlib.Core.Logic.{inl, inr, ⊎_elim}
use Prim.Native.Nat.{ℕ, ◌≤◌, ◌<◌}
use native.Mathlib.Omega.{arith}
use borrow.Author.Tests.{eq-eqb, ne_eqb}
use Rattle.model.specs.declared.Queue.{Queue}
use Rattle.model.specs.declared.Task.{Task}
use Rattle.model.specs.Row.{row, first_of, with_row, turned, relisted}
use Rattle.model.specs.Task.{level_of, settled}
use Rattle.model.specs.Sound.{SoundSlices, SoundCharge, at}
use Rattle.laws.proofs.Number.{same?}
use Rattle.laws.proofs.Record.{level_settled}
use Rattle.laws.proofs.Relisted.{relisted_kept}
use Rattle.laws.proofs.Table.{row-with_row_other}
use Rattle.soundness.proofs.Listed.{first_relisted}

module _ (ls : List Queue) (vs : List ℕ) (slices : SoundSlices vs) where
  -- a level that has a slice is no level 0
  pub sliced_level : (l n : ℕ) → n < at vs l → 1 ≤ l
  sliced_level l n h = let low : l ≡ 0 → ⊥ = λ e. omega (arith, ap (at vs) e ∙ slices.unused) in omega arith

  pub charge_none : (t : ℕ) (x : Task) → SoundCharge ls vs t x → level_of x ≡ 0 → x.charge ≡ 0
  charge_none t x c e = ⊎_elim
      (λ (z : x.charge ≡ 0). z)
      (λ (z : (first_of ls (level_of x) ≡ t) × (x.charge < at vs (level_of x))). absurd (omega (arith, sliced_level (level_of x) x.charge z.1)))
      c

  -- ---- task t, whose record is k, gets record x
  module _ (now t : ℕ) (k x : Task) where
    abbrev moves : List Queue
    moves = relisted ls (level_of k) (level_of x) t

    -- it keeps its charge in its level, and has none in another
    pub charge_settled : SoundCharge ls vs t k → SoundCharge moves vs t (settled now k x)
    charge_settled c = ⊎_elim
        (λ (e : level_of k ≡ level_of x). rw (level_settled now k x, relisted_kept ls (level_of k) (level_of x) t e, eq-eqb (level_of k) (level_of x) e) (rw e at c))
        (λ (other : level_of k ≡ level_of x → ⊥). rw (ne_eqb (level_of k) (level_of x) other) (inl refl))
        (same? (level_of k) (level_of x))

    -- any other stays first where it was
    pub charge_kept : (u : ℕ) (y : Task) → (u ≡ t → ⊥) → (1 ≤ level_of y → 1 ≤ u) → SoundCharge ls vs u y → SoundCharge moves vs u y
    charge_kept u y other some c = ⊎_elim
        (λ (z : y.charge ≡ 0). inl z)
        (λ (z : (first_of ls (level_of y) ≡ u) × (y.charge < at vs (level_of y))).
        inr (first_relisted ls (level_of k) (level_of x) t (level_of y) u other (some (sliced_level (level_of y) y.charge z.1)) z.0, z.1))
        c

-- ---- the first of level l becomes last: it has no charge
pub charge-turned : (ls : List Queue) (vs : List ℕ) (l u : ℕ) (y : Task) → (first_of ls l ≡ u → y.charge ≡ 0) → SoundCharge ls vs u y → SoundCharge (with_row ls l (turned (row ls l))) vs u y
charge-turned ls vs l u y clear c = ⊎_elim
    (λ (z : y.charge ≡ 0). inl z)
    (λ (z : (first_of ls (level_of y) ≡ u) × (y.charge < at vs (level_of y))). ⊎_elim
    (λ (e : level_of y ≡ l). inl (clear (rw e at z.0)))
    (λ (other : level_of y ≡ l → ⊥). inr (rw (row-with_row_other ls l (turned (row ls l)) (level_of y) other) z.0, z.1))
    (same? (level_of y) l))
    c
