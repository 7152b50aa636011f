-- A charged tick of who runs, test by test: what `charge` does on each of its ways is the definition's.
-- It rests on the definitions alone.
use mathlib.Core.Path.{◌≡◌}
use mathlib.Core.Bool.{cond}
use mathlib.Core.List.{List}
use Prim.Native.Nat.{ℕ, ◌+◌, ◌≤◌, ◌<◌}
use lib.Dec.{eqb}
use lib.ListN.{set}
use borrow.Author.Tests.{eq-eqb, ne_eqb, lt-ltb, le-ltb}
use Rattle.model.specs.declared.Queue.{Queue}
use Rattle.model.specs.declared.Task.{Task}
use Rattle.model.specs.declared.State.{State}
use Rattle.model.specs.Row.{second_of, with_row, turned}
use Rattle.model.specs.Task.{with_marks}
use Rattle.model.specs.State.{marked, rotated, slice, task, time, level}
use Rattle.model.specs.Effect.{charged_in, charged}

-- nobody runs
pub idle : (s : State) (run : ℕ) → run ≡ 0 → s ≡ charged run s
unfolding charged
idle s run e = rw (eq-eqb run 0 e)

module _ (s : State) (run : ℕ) (some : run ≡ 0 → ⊥) (k : Task) (e : k ≡ task s run) where
  -- with slice 0 nothing is charged
  pub none : slice s k.priority ≡ 0 → s ≡ charged run s
  unfolding charged charged_in
  none f = rw (ne_eqb run 0 some, ← e, eq-eqb _ _ f)

  module _ (v : ℕ) (f : v ≡ slice s k.priority) (z : v ≡ 0 → ⊥) (xs : List Task) where
    -- below the slice the charge goes up by 1
    pub more : k.charge + 1 < v → xs ≡ set s.tasks run (with_marks (task s run) (k.charge + 1) (task s run).entered)
        → record { tasks = xs; levels = s.levels; waits = s.waits; numbers = s.numbers } ≡ charged run s
    unfolding charged charged_in marked
    more h d = rw (ne_eqb run 0 some, d, ← e, ← f, ne_eqb _ _ z, lt-ltb _ _ h)

    -- at the slice the charge returns to 0 and the first becomes last, which is an entry where another stands there
    pub full : (n : ℕ) (ls : List Queue) → v ≤ k.charge + 1 → n ≡ cond (eqb (second_of s.levels k.priority) 0) k.entered (time s) → xs ≡ set s.tasks run (with_marks (task s run) 0 n)
        → ls ≡ with_row s.levels k.priority (turned (level s k.priority)) → record { tasks = xs; levels = ls; waits = s.waits; numbers = s.numbers } ≡ charged run s
    unfolding charged charged_in rotated marked
    full n ls h a d g = rw (ne_eqb run 0 some, d, g, a, ← e, ← f, ne_eqb _ _ z, le-ltb _ _ h)
