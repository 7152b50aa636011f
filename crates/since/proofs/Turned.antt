-- A tick's own part, seen by one task: it keeps level and mark, and its place if it is first; or it is the one that the rotation moves, and is marked.
-- It rests on `charged` of model/specs/Effect and on who runs (soundness).
use mathlib.Core.Path.{◌≡◌, refl, sym, ap, ◌∙◌}
use mathlib.Core.Bool.{Bool, true, false, cond}
use mathlib.Core.List.{List, [], ◌∷◌}
use mathlib.Core.Logic.{◌⊎◌, inl, inr, ⊎_elim}
use Prim.Native.Nat.{ℕ, ◌+◌, ◌≤◌, ◌<◌}
use native.Mathlib.Omega.{arith}
use lib.Dec.{eqb, ltb}
use lib.ListN.{length, get_or}
use lib.Seq.{get_or-set_same, get_or-set_other}
use borrow.Author.Tests.{eq-eqb, ne_eqb}
use Rattle.model.specs.declared.State.{State}
use Rattle.model.specs.Row.{place, gap, first, left, joined, turned, first_of, second_of}
use Rattle.model.specs.Task.{no_task, level_of, with_marks}
use Rattle.model.specs.State.{task, slice, time, level, running, marked, recharged, rotated}
use Rattle.model.specs.Effect.{turned_at, charged_in, charged}
use Rattle.model.specs.Test.{occ}
use Rattle.model.specs.Sound.{Sound}
use Rattle.laws.proofs.Number.{same?}
use Rattle.laws.proofs.Occ.{occ_cons, one_eq}
use Rattle.laws.proofs.Record.{level_marks}
use Rattle.laws.proofs.Table.{row-with_row_same, row-with_row_other}
use Rattle.soundness.proofs.Listed.{listed_in}
use Rattle.soundness.proofs.Running.{Runner, runner}
use Rattle.tested.proofs.Records.{level_most}
use Rattle.since.specs.Statements.{level_in}
use Rattle.since.proofs.Through.{Kept, kept_same}

-- ---- the first of a turned row
-- alone there, it stays first
first_alone : (q : List ℕ) (t : ℕ) → 2 ≤ length q → first q ≡ t → get_or q 1 0 ≡ 0 → first (turned q) ≡ t
unfolding turned left joined gap place
first_alone [] t h e f = absurd (omega arith)
first_alone (x ∷ []) t h e f = absurd (omega arith)
first_alone (x ∷ y ∷ q) t h e f = rw (eq-eqb x x refl, f) e

-- else who was second is first
first_next : (q : List ℕ) (v : ℕ) → 2 ≤ length q → get_or q 1 0 ≡ v → 1 ≤ v → first (turned q) ≡ v
unfolding turned left joined gap place
first_next [] v h f some = absurd (omega arith)
first_next (x ∷ []) v h f some = absurd (omega arith)
first_next (x ∷ y ∷ q) v h f some = rw (eq-eqb x x refl, f, ne_eqb v 0 (λ z. omega arith))

-- and that is another, in a row that lists it once
next_other : (q : List ℕ) (t : ℕ) → 2 ≤ length q → first q ≡ t → occ t q ≡ 1 → get_or q 1 0 ≡ t → ⊥
next_other [] t h e once f = omega arith
next_other (x ∷ []) t h e once f = omega arith
next_other (x ∷ y ∷ q) t h e once f = omega (arith, occ_cons t x (y ∷ q), occ_cons t y q, one_eq x t e, one_eq y t f)

-- ---- what a charged tick does to task t
pub record Rotated (t : ℕ) (s s' : State) : Type 0 where
  pub some : 1 ≤ level_in s t
  pub level : level_in s' t ≡ level_in s t
  pub entered : (task s' t).entered ≡ time s
  pub was : first_of s.levels (level_in s t) ≡ t
  -- another is first now
  pub next : ℕ
  pub is : first_of s'.levels (level_in s t) ≡ next
  pub other : next ≡ t → ⊥
  pub low : 1 ≤ next

module _ (s : State) (k : Sound s) (t : ℕ) (top : t ≤ 24) where
  pub there : t < length s.tasks
  there = omega (arith, k.tasks#)

  -- ---- marks
  module _ (u n e : ℕ) where
    mark_own : u < length s.tasks → task (marked u n e s) u ≡ with_marks (task s u) n e
    unfolding marked
    mark_own h = get_or-set_same s.tasks u (with_marks (task s u) n e) no_task h

    mark_other : (t ≡ u → ⊥) → task (marked u n e s) t ≡ task s t
    unfolding marked
    mark_other other = get_or-set_other s.tasks u t (with_marks (task s u) n e) no_task other

    -- of another, or with the mark of its entry unchanged
    pub kept_marked : t < length s.tasks → (t ≡ u → e ≡ (task s t).entered) → Kept t s (marked u n e s)
    kept_marked h same = ⊎_elim
        (λ (z : t ≡ u).
        let y : task (marked u n e s) t ≡ with_marks (task s t) n e = ap (task (marked u n e s)) z ∙ mark_own (rw (← z) h) ∙ ap (λ i. with_marks (task s i) n e) (sym z) in
        record { level = ap level_of y ∙ level_marks (task s t) n e; entered = rw y (same z); active = rw y; first = λ l f. unfold marked in f })
        (λ (other : t ≡ u → ⊥). let y = mark_other other in record { level = ap level_of y; entered = rw y; active = rw y; first = λ l f. unfold marked in f })
        (same? t u)

  -- ---- the task that runs
  module _ (r : Runner s) where
    abbrev run : ℕ
    run = running s

    abbrev l : ℕ
    l = (task s run).priority

    inside : run < length s.tasks
    inside = omega (arith, k.tasks#, r.top)

    below : l < length s.levels
    below = omega (arith, k.levels.sized, r.level, level_most (task s run) (k.tasks run))

    wide : 2 ≤ length (level s l)
    wide = omega (arith, k.levels.places l)

    once : occ run (level s l) ≡ 1
    once = listed_in s.levels 31 (λ u. level_of (task s u)) k.levels l run (omega (arith, below, k.levels.sized)) r.low (omega (arith, r.listed, r.level)) r.level

    abbrev z : State
    z = marked run 0 (turned_at l run s) s

    turned-first : first_of (rotated l z).levels l ≡ first (turned (level s l))
    unfolding rotated marked
    turned-first = ap first (row-with_row_same s.levels l (turned (level s l)) below)

    -- the level turns and t keeps its mark
    kept_turned : Kept t s z → (first_of s.levels l ≡ t → first (turned (level s l)) ≡ t) → Kept t s (rotated l z)
    kept_turned a stays = record {
      level = unfold rotated in a.level;
      entered = unfold rotated in a.entered;
      active = unfold rotated in a.active;
      first = λ j f. ⊎_elim
          (λ (e : j ≡ l). rw e (turned-first ∙ stays (rw e at f)))
          (λ (apart : j ≡ l → ⊥). unfold rotated marked in rw (row-with_row_other s.levels l (turned (level s l)) j apart) f)
          (same? j l);
    }

    turning : Kept t s (rotated l z) ⊎ Rotated t s (rotated l z)
    turning = ⊎_elim
        (λ (e : t ≡ run). ⊎_elim
        (λ (f : second_of s.levels l ≡ 0). inl (kept_turned (kept_marked run 0 (turned_at l run s) there (λ y. rw (f, y))) (λ g. first_alone (level s l) t wide g f)))
        (λ (n : second_of s.levels l ≡ 0 → ⊥). inr (moves e n))
        (same? (second_of s.levels l) 0))
        (λ (other : t ≡ run → ⊥). inl (kept_turned (kept_marked run 0 (turned_at l run s) there (λ y. absurd (other y))) (λ g. absurd (other (sym g ∙ r.first)))))
        (same? t run)
      where
        moves : t ≡ run → (second_of s.levels l ≡ 0 → ⊥) → Rotated t s (rotated l z)
        moves e n =
            let y : task (rotated l z) t ≡ with_marks (task s run) 0 (time s) = unfold rotated in ap (task z) e ∙ mark_own run 0 (turned_at l run s) inside ∙ rw (ne_eqb (second_of s.levels l) 0 n) in
            let j : level_in s t ≡ l = ap (λ i. level_of (task s i)) e ∙ r.level in
            let v : first_of (rotated l z).levels l ≡ second_of s.levels l = turned-first ∙ first_next (level s l) (second_of s.levels l) wide refl (omega arith) in
            record {
              some = rw e r.listed;
              level = ap level_of y ∙ level_marks (task s run) 0 (time s) ∙ ap (λ i. level_of (task s i)) (sym e);
              entered = rw y;
              was = rw j (r.first ∙ sym e);
              next = second_of s.levels l;
              is = rw j v;
              other = λ q. next_other (level s l) run wide r.first once (q ∙ e);
              low = omega arith;
            }

    charging : Kept t s (charged_in l run s) ⊎ Rotated t s (charged_in l run s)
    unfolding charged_in
    charging = go (eqb (slice s l) 0) (ltb ((task s run).charge + 1) (slice s l))
      where
        go : (a b : Bool) → Kept t s (cond a s (cond b (recharged run ((task s run).charge + 1) s) (rotated l z))) ⊎ Rotated t s (cond a s (cond b (recharged run ((task s run).charge + 1) s) (rotated l z)))
        go true b = inl (kept_same t s)
        go false true = inl (kept_marked run ((task s run).charge + 1) (task s run).entered there (λ y. rw y))
        go false false = turning

  pub seen_charged : Kept t s (charged (running s) s) ⊎ Rotated t s (charged (running s) s)
  unfolding charged
  seen_charged = ⊎_elim
      (λ (e : running s ≡ 0). rw (eq-eqb (running s) 0 e) (inl (kept_same t s)))
      (λ (n : running s ≡ 0 → ⊥). rw (ne_eqb (running s) 0 n) (charging (runner s k (omega arith))))
      (same? (running s) 0)
