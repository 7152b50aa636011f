-- The test of a whole state, from its parts: where the tables have their places and the origin is unused, crossing off is the test of the
-- queues. Rests on Tables.
use mathlib.Core.Path.{◌≡◌, refl}
use mathlib.Core.Bool.{Bool, true, false, ◌&&◌, and-true, and-false, false≢true}
use mathlib.Core.List.{List, map}
use Prim.Native.Nat.{ℕ, zero, suc, ◌<◌}
use native.Mathlib.Decide.{ℕ_discrete, dec_lt}
use native.Mathlib.Omega.{arith}
use lib.Dec.{eqb}
use lib.ListN.{length, get_or}
use borrow.Author.Tests.{eq-eqb, ne_eqb, eqb-true}
use Rattle.model.specs.declared.Queue.{Queue}
use Rattle.model.specs.declared.Task.{Task}
use Rattle.model.specs.declared.State.{State}
use Rattle.model.specs.Row.{no_queue, row}
use Rattle.model.specs.Task.{no_task, level_of, row_of}
use Rattle.model.specs.State.{task}
use Rattle.model.specs.Test.{below, every_row, are_queues, lists_exactly, is_blank, is_sized, is_origin, is_sound}
use Rattle.laws.proofs.Table.{row_past}
use Rattle.crossing.specs.Crossing.{crosses_all}
use Rattle.crossing.proofs.Tests.{both}
use Rattle.sound.specs.Parts.{task_at, charge_at, unmet_at, unserved_at, slice_at, count_at, flag_at, stock_at}
use Rattle.sound.proofs.Tables.{wanted_exactly}

-- ---- a record of zeros is in no queue
module _ (x : Task) (h : is_blank x ≡ true) where
  blank_level : level_of x ≡ 0
  unfolding level_of
  blank_level = elim (ℕ_discrete x.active 0) [
    | yes e ↦ rw (eq-eqb x.active 0 e)
    | no n ↦ absurd (false≢true (simp (ne_eqb x.active 0 n, and-false) at h))
  ]

  blank_row : row_of x ≡ 0
  unfolding row_of
  blank_row = elim (ℕ_discrete x.wait.kind 0) [
    | yes e ↦ rw e
    | no n ↦ absurd (false≢true (simp (ne_eqb x.wait.kind 0 n, and-false) at h))
  ]

none_level : level_of no_task ≡ 0
unfolding level_of
none_level = refl

none_row : row_of no_task ≡ 0
unfolding row_of
none_row = refl

-- ---- the queues of a table have their places
each_sized : (qs : List Queue) → ((l : ℕ) → length (row qs l) ≡ 24) → (n l : ℕ) → every_row n l (λ l q. eqb (length q) 24) qs ≡ true
unfolding every_row
each_sized qs h zero l = refl
each_sized qs h (suc n) l = rw (h l, each_sized qs h n (suc l))

module _ (qs : List Queue) (h : (k : ℕ) → k < length qs → length (get_or qs k no_queue).places ≡ 24) where
  row_sized : (l : ℕ) → length (row qs l) ≡ 24
  unfolding row
  row_sized l = elim (dec_lt l (length qs)) [ yes p ↦ h l p | no p ↦ rw (row_past qs l (omega arith)) refl ]

  pub queues_sized : (n : ℕ) → eqb (length qs) n ≡ are_queues n qs
  queues_sized n = rw (each_sized qs row_sized n 0, and-true)

-- ---- the whole test
-- what is left of it where the origin is unused, from what is said of the queues
abbrev pub others : State → Bool → Bool → Bool
others s runnable waiting =
    below 25 (task_at s.tasks)
    && (below 31 (slice_at s.numbers)
    && (below 25 (charge_at s.tasks s.levels s.numbers.slices)
    && (below 13 (count_at s.numbers s.waits)
    && (below 9 (flag_at s.numbers s.waits)
    && (below 25 (unmet_at s.tasks s.numbers.bits)
    && (below 9 (stock_at s.numbers s.waits)
    && (below 25 (unserved_at s)
    && (runnable && waiting))))))))

-- the queues crossed off
abbrev pub tested : State → Bool
tested s = others s (crosses_all 0 s.levels (map level_of s.tasks)) (crosses_all 0 s.waits (map row_of s.tasks))

module _ (s : State) where
  abbrev listed : Bool
  listed = others s (lists_exactly s.levels 31 (λ t. level_of (task s t))) (lists_exactly s.waits 29 (λ t. row_of (task s t)))

  crossed_off : is_sized s ≡ true → is_origin s ≡ true → listed ≡ tested s
  crossed_off z e =
      let tasks = both (eqb (length s.tasks) 25) _ z in
      let levels = both (are_queues 31 s.levels) _ tasks.1 in
      let waits = both (are_queues 29 s.waits) _ levels.1 in
      let xs# = eqb-true (length s.tasks) 25 tasks.0 in
      let levels# = eqb-true (length s.levels) 31 (both (eqb (length s.levels) 31) _ levels.0).0 in
      let waits# = eqb-true (length s.waits) 29 (both (eqb (length s.waits) 29) _ waits.0).0 in
      let k = (both (is_blank (task s 0)) _ e).0 in
      rw (
        wanted_exactly level_of 31 s.levels s.tasks levels# xs# none_level (blank_level (task s 0) k),
        wanted_exactly row_of 29 s.waits s.tasks waits# xs# none_row (blank_row (task s 0) k),
      )

  pub sound_tested : is_sound s ≡ (is_sized s && (is_origin s && tested s))
  unfolding is_sound
  sound_tested = go (is_sized s) (is_origin s) refl refl
    where
      go : (z o : Bool) → is_sized s ≡ z → is_origin s ≡ o → (z && (o && listed)) ≡ (z && (o && tested s))
      go false o f e = refl
      go true false f e = refl
      go true true f e = crossed_off f e
