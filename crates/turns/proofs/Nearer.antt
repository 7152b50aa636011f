-- What a call does to a runnable task that keeps its level: its place times the slice falls behind the charge of the level's first, by one more at a charged tick.
-- It goes by the ways of ways, the moves that leave a task where it is (Still) and a tick's own part (Charged).
use mathlib.Core.Path.{◌≡◌, refl, sym, ap, ◌∙◌}
use mathlib.Core.Bool.{Bool, true, false, not, ◌&&◌}
use Prim.Native.Nat.{ℕ, ◌+◌, ◌≤◌, ◌%◌, ◌^◌}
use native.Mathlib.Omega.{arith}
use lib.Dec.{T as So, eqb}
use Rattle.model.specs.declared.Task.{Task}
use Rattle.model.specs.declared.State.{State}
use Rattle.model.specs.declared.Plan.{Plan}
use Rattle.model.specs.declared.Effect.{Effect}
use Rattle.model.specs.declared.Code.{Code}
use Rattle.model.specs.declared.News.{News}
use Rattle.model.specs.declared.News.TheVariants.{Deleted}
use Rattle.model.specs.Row.{place, first, first_of}
use Rattle.model.specs.Flag.{flag_row}
use Rattle.model.specs.DataQueue.{queue_row}
use Rattle.model.specs.Task.{served, released, level_of, waiting, ended, aged}
use Rattle.model.specs.State.{task, slice, time, level, waiters, running, moved, counted, flagged, stocked, sized, with_time}
use Rattle.model.specs.Code.{is_refusal}
use Rattle.model.specs.Effect.{stopped, told_all, deleted, told_flag, stored, taken, refilled, removed, charged, ticked, carried}
use Rattle.model.specs.Test.{one}
use Rattle.model.specs.Sound.{Sound}
use Rattle.laws.proofs.Occ.{one-not}
use Rattle.laws.proofs.Record.{level_marks, level_settled, flag_row_lem, queue_row_lem}
use Rattle.soundness.proofs.Orderly.{Orderly, sound_orderly}
use Rattle.soundness.proofs.Changes.{sound_with_time}
use Rattle.soundness.proofs.Running.{runner}
use Rattle.soundness.proofs.Told.{waiter_in, first_waits, queued_in}
use Rattle.soundness.proofs.Effects.{sound_charged}
use Rattle.soundness.proofs.Changed.{named_in}
use Rattle.ways.specs.Kind as Kinds
use Rattle.ways.specs.Kind.{Kind, set_slice, is_tick}
use Rattle.ways.specs.Entry.{Entry}
use Rattle.ways.proofs.Done.{QueueMade, first_at, Receives, direct, oldest, refills, Done, Way, refuses, accepts}
use Rattle.ways.proofs.Done.{Done as Ways}
use Rattle.turns.proofs.Still.{only_charged, Steady, still_stopped, still_told, still_lapsed}
use Rattle.soundness.proofs.Moved.{task-moved}
use Rattle.turns.proofs.Levels.{level_ended, level_told, level_aged}
use Rattle.turns.proofs.Moving.{Nearer, nearer_then, Nears, in_level}
use Rattle.turns.proofs.Charged as Charged
use Rattle.turns.proofs.Charged.{long, runs_not, nearer_charged, nearer_sliced}

-- a call of kind j is not a termination of t, and does not set the slice of l
pub record Spared (l t : ℕ) (j : Kind) : Type 0 where
  pub alive : j ≡ Kinds.terminate t → ⊥
  pub unset : j ≡ set_slice l → ⊥

module _ (s : State) (k : Sound s) (l t : ℕ) (h : 1 ≤ l) (e : level_of (task s t) ≡ l) where
  same : Nearer l t s s 0
  same = record { steady = refl; falls = omega arith }

  top : l ≤ 30
  top = Charged.top s k l t h e

  steady : Steady level_of l t (Nears l t h top)
  steady = in_level l t h top

  order : Orderly s
  order = sound_orderly k

  -- another's record changes, or its own in its level
  moving : (u : ℕ) (x : Task) → 1 ≤ u → u ≤ 24 → (u ≡ t → level_of x ≡ l) → 1 ≤ slice s l → Nearer l t s (moved u x s) 0
  moving u x low most keeps some = (steady.moves s u x low most e keeps order some).1

  ending : (u v b : ℕ) → 1 ≤ u → u ≤ 24 → 1 ≤ slice s l → Nearer l t s (moved u (ended (task s u) v b) s) 0
  ending u v b low most = moving u (ended (task s u) v b) low most (λ z. rw z (level_ended (task s t) v b (omega arith) ∙ e))

  -- the first of a row of waiters is served
  serving : (n b : ℕ) → 1 ≤ n → n ≤ 28 → 1 ≤ first_of s.waits n → 1 ≤ slice s l → Nearer l t s (moved (first_of s.waits n) (ended (task s (first_of s.waits n)) served b) s) 0
  serving n b low most first = ending (first_of s.waits n) served b first (waiter_in s k (first_of s.waits n) (omega (arith, first_waits s k n most first))).1

  stopping : (u : ℕ) → 1 ≤ u → u ≤ 24 → (u ≡ t → ⊥) → 1 ≤ slice s l → Nearer l t s (stopped u s) 0
  stopping u low most apart some = (still_stopped steady s u low most apart e order some).1

  -- those in a row of waiters are told
  telling : (w : News) (n : ℕ) → n ≤ 28 → 1 ≤ slice s l → Nearer l t s (told_all w (waiters s n) s) 0
  telling w n most some = (still_told steady w (waiters s n) s (queued_in s k n most) (λ there x z. level_told w x (omega arith) ∙ z) e order some).1

  deleting : (n : ℕ) → n ≤ 28 → 1 ≤ slice s l → Nearer l t s (deleted n s) 0
  unfolding deleted counted
  deleting n most some = let a = telling Deleted n most some in record { steady = a.steady; falls = a.falls }

  telling_flag : (f : ℕ) (w : News) (a b : ℕ) → 1 ≤ f → f ≤ 8 → 1 ≤ slice s l → Nearer l t s (told_flag f w a b s) 0
  unfolding told_flag flagged
  telling_flag f w a b low most some = let z = telling w (flag_row f) (omega (arith, flag_row_lem f low most)) some in record { steady = z.steady; falls = z.falls }

  removing : (q : ℕ) → 1 ≤ q → q ≤ 8 → 1 ≤ slice s l → Nearer l t s (removed q s) 0
  unfolding removed stocked sized
  removing q low most some = let z = telling Deleted (queue_row q) (omega (arith, queue_row_lem q low most)) some in record { steady = z.steady; falls = z.falls }

  -- who waits first on a data queue is served
  queue_serving : {q : ℕ} → QueueMade s q → (b : ℕ) → 1 ≤ first_at s q → 1 ≤ slice s l → Nearer l t s (moved (first_at s q) (ended (task s (first_at s q)) served b) s) 0
  queue_serving {q} made b = let n = queue_row_lem q made.low made.top in serving (queue_row q) b (omega (arith, n)) (omega (arith, n, made.top))

  receiving : {q v : ℕ} {x : Effect} → QueueMade s q → Receives s q v x → 1 ≤ slice s l → Nearer l t s (carried s x) 0
  unfolding carried taken refilled stocked moved
  receiving made (direct side empty v) some = queue_serving made 0 side.0 some
  receiving made (oldest none more v) some = record { steady = refl; falls = omega arith }
  receiving made (refills side more v) some = let z = queue_serving made 0 side.0 some in record { steady = z.steady; falls = z.falls }

  ticking : 1 ≤ slice s l → 1 ≤ place (level s l) t → Nearer l t s (ticked s) (one (eqb (level_of (task s (running s))) l && not (eqb (slice s l) 0)))
  unfolding ticked running
  ticking some behind = nearer_then (record { steady = a.steady; falls = a.falls }) (still_lapsed steady 24 1 z (omega arith) (omega arith) (λ _. aging) stands (sound_orderly after) (rw a.steady some)).1
    where
      n : ℕ
      n = (time s + 1) % 2 ^ 32

      z : State
      z = charged (running s) (with_time n s)

      a : Nearer l t (with_time n s) z (one (eqb (level_of (task s (running s))) l && not (eqb (slice s l) 0)))
      a = nearer_charged (with_time n s) (sound_with_time s n k) l t h e some behind

      after : Sound z
      after = sound_charged (with_time n s) (sound_with_time s n k) (running s) (λ runs. let r = runner s k runs in (r.listed, r.level, r.first))

      stands : level_of (task z t) ≡ l
      stands = (only_charged (with_time n s) (running s)).records (λ y. level_of y ≡ l) t (λ c d. level_marks (task s t) c d ∙ e)

      aging : level_of (aged (task z t)) ≡ l
      aging = level_aged (task z t) (omega (arith, stands)) ∙ stands

  -- its own record, if it is the one that changes, keeps its level
  staying : (u : ℕ) (x : Task) → (1 ≤ u) × (u ≤ 24) → level_of (task (moved u x s) t) ≡ l → 1 ≤ slice s l → Nearer l t s (moved u x s) 0
  staying u x r after = moving u x r.0 r.1
      (λ z. sym (level_settled (time s) (task s t) x) ∙ ap level_of (sym (ap (λ i. task (moved i x s) t) z ∙ task-moved s t x (long s k l t h e))) ∙ after)

  -- what a tick charged to l counts for
  abbrev counts : Kind → ℕ
  counts j = one (is_tick j && (eqb (level_of (task s (running s))) l && not (eqb (slice s l) 0)))

  nearer_done : {v : ℕ} {j : Kind} {i : Entry} {c : Code} {x : Effect} → Done s v j i c x → Spared l t j → level_of (task (carried s x) t) ≡ l → 1 ≤ slice s l → 1 ≤ place (level s l) t
      → Nearer l t s (carried s x) (counts j)
  unfolding carried ticked counted flagged sized stored stocked
  nearer_done Ways.ticks spared after some behind = ticking some behind
  nearer_done (Ways.exits runs) spared after some behind = let r = runner s k runs in stopping (running s) r.low r.top (runs_not s k l t h e behind) some
  nearer_done (Ways.terminates u low top made) spared after some behind = stopping u low top (λ z. spared.alive (ap Kinds.terminate z)) some
  nearer_done (Ways.forces u low top waits) spared after some behind = ending u released 0 low top some
  nearer_done (Ways.slices i v low top) spared after some behind = nearer_sliced s k l t h e i v (λ z. spared.unset (ap set_slice z))
  nearer_done (Ways.serves n made first) spared after some behind = serving n 0 made.low (omega (arith, made.top)) first some
  nearer_done (Ways.raises n made free less) spared after some behind = record { steady = refl; falls = omega arith }
  nearer_done (Ways.deletes n made) spared after some behind = deleting n (omega (arith, made.top)) some
  nearer_done Ways.keeps spared after some behind = same
  nearer_done (Ways.moves u x n c) spared after some behind = staying u x (named_in k n) after some
  nearer_done (Ways.waits w runs b) spared after some behind = let r = runner s k runs in staying (running s) (waiting (task s (running s)) w) (r.low, r.top) after some
  nearer_done (Ways.creates n c v low top fits more few free) spared after some behind = record { steady = refl; falls = omega arith }
  nearer_done (Ways.takes n made left i) spared after some behind = record { steady = refl; falls = omega arith }
  nearer_done (Ways.flags f a b r) spared after some behind = record { steady = refl; falls = omega arith }
  nearer_done (Ways.tells f w a b made r) spared after some behind = telling_flag f w a b made.low made.top some
  nearer_done (Ways.opens q c low top most free) spared after some behind = record { steady = refl; falls = omega arith }
  nearer_done (Ways.removes q made) spared after some behind = removing q made.low made.top some
  nearer_done (Ways.hands q b made side) spared after some behind = queue_serving made b side.0 some
  nearer_done (Ways.stores q b made none room) spared after some behind = record { steady = refl; falls = omega arith }
  nearer_done (Ways.gets q made r) spared after some behind = receiving made r some

  pub nearer : {j : Kind} {i : Entry} {p : Plan} → Way s j i p → (So (not (is_refusal p.code)) → Spared l t j) → level_of (task (carried s p.effect) t) ≡ l → 1 ≤ slice s l → 1 ≤ place (level s l) t
      → Nearer l t s (carried s p.effect) (one (not (is_refusal p.code) && (is_tick j && (eqb (level_of (task s (running s))) l && not (eqb (slice s l) 0)))))
  unfolding carried
  nearer {j} (refuses c n d) spared after some behind = rw (one-not (is_refusal c) (is_tick j && (eqb (level_of (task s (running s))) l && not (eqb (slice s l) 0))) n) same
  nearer {j} (accepts c v x n d done) spared after some behind = counted_as (is_refusal c) n (nearer_done done (spared n) after some behind)
    where
      counted_as : (b : Bool) → So (not b) → Nearer l t s (carried s x) (counts j)
          → Nearer l t s (carried s x) (one (not b && (is_tick j && (eqb (level_of (task s (running s))) l && not (eqb (slice s l) 0)))))
      counted_as true h z = absurd h
      counted_as false h z = z
