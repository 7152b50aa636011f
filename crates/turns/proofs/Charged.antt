-- A tick's own part: the running task is charged, and its level turned at the slice; so who stands in that level comes one tick nearer.
-- It rests on `charged` of model/specs/Effect, on who runs (soundness) and on where a task stands in a turned row (Places).
use mathlib.Core.Path.{◌≡◌, refl, sym, ap, ◌∙◌}
use mathlib.Core.Bool.{Bool, true, false, cond, not, ◌&&◌}
use mathlib.Core.Logic.{⊎_elim}
use Prim.Native.Nat.{ℕ, ◌+◌, ◌≤◌, ◌<◌}
use native.Mathlib.Omega.{arith}
use native.Mathlib.Nat.{mul-le-mul_right}
use lib.Dec.{eqb, ltb}
use lib.ListN.{length}
use lib.Seq.{get_or-set_same, get_or-set_other}
use borrow.Author.Tests.{eq-eqb, ne_eqb}
use Rattle.model.specs.declared.Task.{Task}
use Rattle.model.specs.declared.State.{State}
use Rattle.model.specs.Row.{place, first, turned, first_of}
use Rattle.model.specs.Task.{no_task, level_of, with_marks}
use Rattle.model.specs.State.{task, slice, level, running, sliced, marked, recharged, rotated}
use Rattle.model.specs.Effect.{turned_at, charged_in, charged}
use Rattle.model.specs.Test.{one, occ}
use Rattle.model.specs.Sound.{Sound}
use Rattle.laws.proofs.Number.{same?}
use Rattle.laws.proofs.Record.{level_none}
use Rattle.laws.proofs.Table.{row_past, row-with_row_same, row-with_row_other}
use Rattle.soundness.proofs.Listed.{key_first}
use Rattle.soundness.proofs.Orderly.{Orderly, sound_orderly, task_in}
use Rattle.soundness.proofs.Running.{Runner, runner}
use Rattle.turns.proofs.Places.{first-place, place-turned}
use Rattle.tested.proofs.Records.{level_most}
use Rattle.turns.proofs.Moving as Moving
use Rattle.turns.proofs.Moving.{used, used_below, first_level, Nearer}

module _ (s : State) (k : Sound s) (l t : ℕ) (h : 1 ≤ l) (e : level_of (task s t) ≡ l) where
  order : Orderly s
  order = sound_orderly k

  pub top : l ≤ 30
  top = omega (arith, level_most (task s t) (k.tasks t))

  pub low : 1 ≤ t
  low = Moving.low l t h top s order e

  pub long : t < length s.tasks
  long = omega (arith, k.tasks#, (task_in s order level_of level_none t (omega arith)).1)

  pub listed : occ t (level s l) ≡ 1
  listed = Moving.listed l t h top s order e

  -- the first of the level
  abbrev a : ℕ
  a = first_of s.levels l

  -- where it is charged
  charged_own : 1 ≤ slice s l → 1 ≤ place (level s l) t → Nearer l t s (charged_in l a s) 1
  unfolding charged_in
  charged_own some behind = rw (ne_eqb (slice s l) 0 (λ z. omega arith)) (go (ltb ((task s a).charge + 1) (slice s l)))
    where
      now : (n : ℕ) → (task (recharged a n s) a).charge ≡ n
      now n = unfold marked in ap (λ (y : Task). y.charge)
          (get_or-set_same s.tasks a (with_marks (task s a) n (task s a).entered) no_task (omega (arith, k.tasks#, task_in s order level_of level_none a (omega (arith, first_level l t h top s order e)))))

      go : (b : Bool) → Nearer l t s (cond b (recharged a ((task s a).charge + 1) s) (rotated l (marked a 0 (turned_at l a s) s))) 1
      go true = let c = now ((task s a).charge + 1) in unfold marked in record { steady = refl; falls = omega (arith, c) }
      go false = unfold marked rotated in record {
        steady = refl;
        falls = rw (row-with_row_same s.levels l (turned (level s l)) (omega (arith, top, k.levels.sized)))
            (omega (arith, used_below l t h top s order e some, mul-le-mul_right (slice s l) (place-turned (level s l) t low (omega (arith, listed)) (λ z. omega (arith, first-place (level s l) t z)))));
      }

  -- the charge of another leaves the first's
  spares : (u n d : ℕ) → (level_of (task s u) ≡ l → ⊥) → (task (marked u n d s) a).charge ≡ (task s a).charge
  spares u n d other = unfold marked in ap (λ (y : Task). y.charge)
      (get_or-set_other s.tasks u a (with_marks (task s u) n d) no_task (λ z. other (rw z at (first_level l t h top s order e))))

  -- where a task of another level is charged
  charged_other : (j u : ℕ) → level_of (task s u) ≡ j → (j ≡ l → ⊥) → Nearer l t s (charged_in j u s) 0
  unfolding charged_in
  charged_other j u f other = go (eqb (slice s j) 0) (ltb ((task s u).charge + 1) (slice s j))
    where
      kept : (n d : ℕ) → (task (marked u n d s) a).charge ≡ (task s a).charge
      kept n d = spares u n d (λ z. other (sym f ∙ z))

      turn : State
      turn = rotated j (marked u 0 (turned_at j u s) s)

      turned_row : level turn l ≡ level s l
      turned_row = unfold marked rotated in row-with_row_other s.levels j (turned (level s j)) l (λ z. other (sym z))

      turned_used : used turn l ≡ used s l
      turned_used = ap (λ q. (task turn (first q)).charge) turned_row ∙ (unfold rotated in kept 0 (turned_at j u s))

      turned_place : place (level turn l) t ≡ place (level s l) t
      turned_place = ap (λ q. place q t) turned_row

      go : (b c : Bool) → Nearer l t s (cond b s (cond c (recharged u ((task s u).charge + 1) s) turn)) 0
      go true c = record { steady = refl; falls = omega arith }
      go false true = let z = kept ((task s u).charge + 1) (task s u).entered in unfold marked in record { steady = refl; falls = omega (arith, z) }
      go false false = record { steady = unfold marked rotated in refl; falls = rw (turned_used, turned_place) (omega arith) }

  -- so who is not first does not run
  pub runs_not : 1 ≤ place (level s l) t → running s ≡ t → ⊥
  runs_not behind z =
      let r = runner s k (omega (arith, low)) in
      let f : first_of s.levels l ≡ t = rw (sym r.level, z, e) at r.first in
      omega (arith, first-place (level s l) t f)

  pub nearer_charged : 1 ≤ slice s l → 1 ≤ place (level s l) t
      → Nearer l t s (charged (running s) s) (one (eqb (level_of (task s (running s))) l && not (eqb (slice s l) 0)))
  unfolding charged
  nearer_charged some behind = ⊎_elim
      (λ (z : running s ≡ 0). rw (eq-eqb (running s) 0 z) (idle z))
      (λ (n : running s ≡ 0 → ⊥). rw (ne_eqb (running s) 0 n) (someone (runner s k (omega arith))))
      (same? (running s) 0)
    where
      d : ℕ
      d = one (eqb (level_of (task s (running s))) l && not (eqb (slice s l) 0))

      idle : running s ≡ 0 → Nearer l t s s d
      idle z = rw (z, k.nobody, level_none, ne_eqb 0 l (λ y. omega arith)) (record { steady = refl; falls = omega arith })

      someone : Runner s → Nearer l t s (charged_in (task s (running s)).priority (running s) s) d
      someone r = rw r.level (⊎_elim
          (λ (y : (task s (running s)).priority ≡ l). rw (y, eq-eqb l l refl, ne_eqb (slice s l) 0 (λ z. omega arith), ← rw y at r.first) (charged_own some behind))
          (λ (other : (task s (running s)).priority ≡ l → ⊥). rw (ne_eqb (task s (running s)).priority l other) (charged_other (task s (running s)).priority (running s) r.level other))
          (same? (task s (running s)).priority l))

  -- ---- a slice that is set for another level
  -- whose first, if there is one, is not of this
  first_other : (j : ℕ) → (j ≡ l → ⊥) → level_of (task s (first_of s.levels j)) ≡ l → ⊥
  first_other j other z =
      let b = (task_in s order level_of level_none (first_of s.levels j) (omega arith)).0 in
      let inside : 31 ≤ j → ⊥ = λ far. omega (arith, b, ap first (row_past s.levels j (omega (arith, k.levels.sized)))) in
      other (sym (key_first s.levels 31 (λ u. level_of (task s u)) k.levels j (omega arith) (λ y. omega (arith, b))).1 ∙ z)

  pub nearer_sliced : (j v : ℕ) → (j ≡ l → ⊥) → Nearer l t s (sliced j v s) 0
  nearer_sliced j v other = record {
    steady = unfold sliced marked in get_or-set_other s.numbers.slices j l v 0 (λ i. other (sym i));
    falls = unfold sliced marked in omega (arith, spares (first_of s.levels j) 0 (task s (first_of s.levels j)).entered (first_other j other));
  }
