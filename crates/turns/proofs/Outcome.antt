-- What a call does to a task that waits on a semaphore: it waits on, one place nearer at a release, or its wait ends in one of five ways.
-- It goes by the ways of ways, by the moves that leave a waiter where it is (Still) and by those that end its wait (Ends).
use mathlib.Core.Path.{◌≡◌, refl, sym, ap, ◌∙◌}
use mathlib.Core.Bool.{not, ◌&&◌}
use mathlib.Core.Logic.{◌⊎◌, inl, inr, ⊎_elim}
use Prim.Native.Nat.{ℕ, suc, ◌+◌, ◌-◌, ◌≤◌, ◌<◌, ◌%◌, ◌^◌}
use native.Mathlib.Omega.{arith}
use lib.Dec.{T as So, eqb_refl}
use lib.ListN.{length}
use Rattle.model.specs.declared.Task.{Task}
use Rattle.model.specs.declared.State.{State}
use Rattle.model.specs.declared.Plan.{Plan}
use Rattle.model.specs.declared.News.{News}
use Rattle.model.specs.declared.News.TheVariants.{Deleted}
use Rattle.model.specs.declared.Effect.{Effect}
use Rattle.model.specs.declared.Code.{Code}
use Rattle.model.specs.declared.Code.TheVariants.{NoErr}
use Rattle.model.specs.declared.Effect.TheVariants.{Moves, Deletes, Ticks}
use Rattle.model.specs.Row.{place, first, left, row, first_of, relisted}
use Rattle.model.specs.Flag.{flag_row}
use Rattle.model.specs.DataQueue.{queue_row}
use Rattle.model.specs.Task.{nothing, served, timeout, dlt, released, row_of, waiting, ended, settled, aged}
use Rattle.model.specs.State.{task, count, time, maximum, taken_of, waiters, running, moved, counted, flagged, stocked, sized, sliced, marked, with_time}
use Rattle.model.specs.Code.{wait_number, is_refusal}
use Rattle.model.specs.Effect.{told_all, deleted, told_flag, stored, taken, refilled, removed, charged, lapsed, ticked, carried}
use Rattle.model.specs.Test.{one, occ}
use Rattle.model.specs.Sound.{Sound}
use Rattle.laws.proofs.Number.{same?}
use Rattle.laws.proofs.Relisted.{row-relisted_from}
use Rattle.laws.proofs.Occ.{one_eq, one_ne, one-not}
use Rattle.laws.proofs.Record.{row_waits, row_marks, flag_row_lem, queue_row_lem}
use Rattle.soundness.proofs.Listed.{key_of, listed_in}
use Rattle.soundness.proofs.Told.{waiter_in, first_waits, queued_in, no_waiter}
use Rattle.soundness.proofs.Running.{runner}
use Rattle.soundness.proofs.Changed.{change_row}
use Rattle.ways.specs.Kind as Kinds
use Rattle.ways.specs.Kind.{Kind, forced_release, release, deletion, is_release_of}
use Rattle.ways.specs.Entry.{Entry}
use Rattle.soundness.proofs.Moved.{task-moved, task-marked}
use Rattle.turns.specs.Statements.{Ended}
use Rattle.turns.proofs.Places.{place_served}
use Rattle.ways.proofs.Done.{QueueMade, first_at, Receives, direct, oldest, refills, Done, Way, refuses, accepts}
use Rattle.ways.proofs.Done.{Done as Ways}
use Rattle.turns.proofs.Ends.{lapsed_at, aged_waits, stopped_at, ended_at}
use Rattle.turns.proofs.Still.{Charged, only_charged, Steady, Keyed, Still, in_table, still_moved, still_stopped, still_told, still_lapsed}

on_waits : Keyed row_of (λ s. s.waits)
unfolding moved
on_waits = record { relists = λ s u x. refl; unmarked = row_marks }

-- ---- what a call does to t, which waits on m
pub data Outcome (s : State) (m t : ℕ) (k : Kind) (c : Code) (x : Effect) : Type 0 where
  waits : row_of (task (carried s x) t) ≡ m
      → place (waiters (carried s x) m) t + one (not (is_refusal c) && is_release_of m k) ≤ place (waiters s m) t → Outcome s m t k c x
  holds : So (not (is_refusal c) && is_release_of m k) → Ended (carried s x) t (wait_number served) → Outcome s m t k c x
  lapses : So (not (is_refusal c)) → k ≡ Kinds.tick → Ended (carried s x) t (wait_number timeout) → Outcome s m t k c x
  forced : So (not (is_refusal c)) → k ≡ forced_release t → Ended (carried s x) t (wait_number released) → Outcome s m t k c x
  stops : So (not (is_refusal c)) → k ≡ Kinds.terminate t → (task (carried s x) t).wait.kind ≡ nothing → Outcome s m t k c x
  deletes : So (not (is_refusal c)) → k ≡ deletion m → Ended (carried s x) t (wait_number dlt) → Outcome s m t k c x

module _ (s : State) (k : Sound s) (m t : ℕ) (h : 1 ≤ m) (top : m ≤ 12) (e : row_of (task s t) ≡ m) where
  low : 1 ≤ t
  low = (waiter_in s k t (omega arith)).0

  long : t < length s.tasks
  long = omega (arith, k.tasks#, (waiter_in s k t (omega arith)).1)

  waiting_on : Steady row_of m t (Still row_of (λ z. z.waits) m t)
  waiting_on = in_table on_waits m t low

  -- it goes on waiting
  on : {j : Kind} {c : Code} {x : Effect} → Still row_of (λ z. z.waits) m t s (carried s x) → one (not (is_refusal c) && is_release_of m j) ≡ 0 → Outcome s m t j c x
  on a z = waits a.keyed (omega (arith, a.nearer))

  same : Still row_of (λ z. z.waits) m t s s
  same = waiting_on.same s e

  -- where the table of waiters and its own wait stay as they are
  untouched : (z : State) → row_of (task z t) ≡ row_of (task s t) → z.waits ≡ s.waits → Still row_of (λ z. z.waits) m t s z
  untouched z a b = record { keyed = a ∙ e; nearer = rw b (omega arith) }

  -- another's record changes, or t's own with the same wait
  moving : (u : ℕ) (x : Task) → (u ≡ t → row_of x ≡ m) → Still row_of (λ z. z.waits) m t s (moved u x s)
  moving u x keeps = still_moved on_waits m t low s u x e keeps

  listed : occ t (waiters s m) ≡ 1
  listed = listed_in s.waits 29 (λ u. row_of (task s u)) k.waits m t (omega arith) low h e

  -- its own wait ends
  over : (u v : ℕ) → u ≡ t → Ended (moved u (ended (task s u) v 0) s) t (wait_number v)
  over u v z =
      let y : task (moved u (ended (task s u) v 0) s) t ≡ settled (time s) (task s t) (ended (task s t) v 0) = ap (λ i. task (moved i (ended (task s i) v 0) s) t) z ∙ task-moved s t (ended (task s t) v 0) long in
      record { over = rw y; code = rw y }

  -- the first of its queue is served
  first_leaves : (u : ℕ) → first_of s.waits m ≡ u → row_of (task s u) ≡ m → (u ≡ t → ⊥)
      → suc (place (waiters (moved u (ended (task s u) served 0) s) m) t) ≤ place (waiters s m) t
  unfolding moved row_of
  first_leaves u f g apart =
      let z : row (relisted s.waits (row_of (task s u)) 0 u) m ≡ left (waiters s m) (first (waiters s m)) =
      ap (λ i. row (relisted s.waits i 0 u) m) g ∙ row-relisted_from s.waits m 0 u (λ y. omega arith) (λ y. omega arith) (omega (arith, k.waits.sized)) ∙ ap (left (waiters s m)) (sym f) in
      rw z (place_served (waiters s m) t (omega (arith, listed)) (λ y. apart (sym f ∙ y)))

  serving : (n : ℕ) → n ≤ 12 → 1 ≤ first_of s.waits n
      → Outcome s m t (release n) NoErr (Moves (first_of s.waits n) (ended (task s (first_of s.waits n)) served 0))
  unfolding carried
  serving n most some = go (same? u t) (same? n m)
    where
      u : ℕ
      u = first_of s.waits n

      g : row_of (task s u) ≡ n
      g = first_waits s k n (omega arith) some

      go : (u ≡ t) ⊎ (u ≡ t → ⊥) → (n ≡ m) ⊎ (n ≡ m → ⊥) → Outcome s m t (release n) NoErr (Moves u (ended (task s u) served 0))
      go (inl z) b = let y : n ≡ m = sym g ∙ ap (λ i. row_of (task s i)) z ∙ e in holds (rw y (eqb_refl m)) (over u served z)
      go (inr apart) (inl y) =
          waits (moving u (ended (task s u) served 0) (λ z. absurd (apart z))).keyed
          (omega (arith, one_eq n m y, first_leaves u (ap (first_of s.waits) (sym y)) (g ∙ y) apart))
      go (inr apart) (inr other) = on (moving u (ended (task s u) served 0) (λ z. absurd (apart z))) (one_ne n m other)

  -- those in another row are told
  others : (w : News) (n : ℕ) → n ≤ 28 → (n ≡ m → ⊥) → Still row_of (λ z. z.waits) m t s (told_all w (waiters s n) s)
  others w n most apart = still_told waiting_on w (waiters s n) s (queued_in s k n most)
      (λ there. absurd (apart (sym (key_of s.waits 29 (λ i. row_of (task s i)) k.waits n t (omega arith) low there).1 ∙ e))) e

  deleting : (n : ℕ) → 1 ≤ n → n ≤ 12 → Outcome s m t (deletion n) NoErr (Deletes n)
  unfolding carried deleted counted
  deleting n some most = go (same? n m)
    where
      go : (n ≡ m) ⊎ (n ≡ m → ⊥) → Outcome s m t (deletion n) NoErr (Deletes n)
      go (inl y) =
          let a = ended_at (waiters s n) s t low long (k.waits.ends n (omega arith)) (inr (rw y (omega (arith, listed)))) in
          deletes tt (ap deletion y) (record { over = a.over; code = a.code })
      go (inr other) =
          let a = others Deleted n (omega arith) other in
          on (record { keyed = a.keyed; nearer = a.nearer }) refl

  -- and with them, who waits first on a data queue is served
  queue_serving : {q : ℕ} → QueueMade s q → 1 ≤ first_at s q → (b : ℕ) → Still row_of (λ z. z.waits) m t s (moved (first_at s q) (ended (task s (first_at s q)) served b) s)
  queue_serving {q} made some b =
      let r = queue_row_lem q made.low made.top in
      let g = first_waits s k (queue_row q) (omega (arith, r, made.top)) some in
      moving (first_at s q) (ended (task s (first_at s q)) served b) (λ z. absurd (omega (arith, r, g, ap (λ i. row_of (task s i)) z)))

  receiving : {q v : ℕ} {x : Effect} → QueueMade s q → Receives s q v x → Outcome s m t Kinds.other NoErr x
  unfolding carried taken refilled stocked moved
  receiving made (direct side empty v) = on (queue_serving made side.0 0) refl
  receiving {q} made (oldest none some v) = on (untouched (taken q s) refl refl) refl
  receiving made (refills side some v) = let z = queue_serving made side.0 0 in on (record { keyed = z.keyed; nearer = z.nearer }) refl

  ticking : Outcome s m t Kinds.tick NoErr Ticks
  unfolding carried ticked
  ticking = go (aged_waits (task z t) m h at)
    where
      z : State
      z = charged (running s) (with_time ((time s + 1) % 2 ^ 32) s)

      kept : Charged (with_time ((time s + 1) % 2 ^ 32) s) z
      kept = only_charged (with_time ((time s + 1) % 2 ^ 32) s) (running s)

      row : row_of (task z t) ≡ row_of (task s t)
      row = kept.records (λ y. row_of y ≡ row_of (task s t)) t (row_marks (task s t))

      at : row_of (task z t) ≡ m
      at = row ∙ e

      go : (row_of (aged (task z t)) ≡ m) ⊎ (((aged (task z t)).wait.kind ≡ nothing) × ((aged (task z t)).code ≡ timeout)) → Outcome s m t Kinds.tick NoErr Ticks
      go (inl w) = on (waiting_on.then (untouched z row kept.waits) (still_lapsed waiting_on 24 1 z (omega arith) (omega arith) (λ _. w) at)) refl
      go (inr w) =
          let y : task (lapsed 24 1 z) t ≡ settled (time z) (task z t) (aged (task z t)) = lapsed_at 24 1 z t (omega (arith, kept.tasks#, long)) low (omega (arith, waiter_in s k t (omega arith))) in
          lapses tt refl (record { over = rw y w.0; code = rw y (ap wait_number w.1) })

  -- a record changes, and with it no wait on a semaphore
  changing : (u : ℕ) (x : Task) → (1 ≤ row_of (task s u) → row_of x ≡ row_of (task s u)) → Still row_of (λ z. z.waits) m t s (moved u x s)
  changing u x keeps = moving u x (λ z. let y = ap (λ i. row_of (task s i)) z ∙ e in keeps (omega arith) ∙ y)

  -- the running task waits on nothing
  runs_idle : {A : Type 0} → 1 ≤ running s → 1 ≤ row_of (task s (running s)) → A
  runs_idle some listed = absurd (omega (arith, row_waits (task s (running s)) listed, (runner s k some).idle))

  outcome_done : {v : ℕ} {j : Kind} {i : Entry} {c : Code} {x : Effect} → Done s v j i c x → Outcome s m t j c x
  unfolding carried counted flagged sliced told_flag removed stored stocked sized
  outcome_done Ways.ticks = ticking
  outcome_done (Ways.exits some) = let r = runner s k some in on (still_stopped waiting_on s (running s) r.low r.top (λ z. runs_idle some (rw z (omega arith))) e) refl
  outcome_done (Ways.terminates u some most made) = ⊎_elim
      (λ (z : u ≡ t). stops tt (ap Kinds.terminate z) (rw z (stopped_at s t long)))
      (λ (apart : u ≡ t → ⊥). on (still_stopped waiting_on s u some most apart e) refl)
      (same? u t)
  outcome_done (Ways.forces u some most waited) = ⊎_elim
      (λ (z : u ≡ t). forced tt (ap forced_release z) (over u released z))
      (λ (apart : u ≡ t → ⊥). on (moving u (ended (task s u) released 0) (λ z. absurd (apart z))) refl)
      (same? u t)
  outcome_done (Ways.slices l n some most) = on (untouched (sliced l n s) (task-marked (λ y. row_of y ≡ row_of (task s t)) s (first_of s.levels l) 0 (task s (first_of s.levels l)).entered t (row_marks (task s t))) (unfold marked in refl)) refl
  outcome_done (Ways.serves n made some) = serving n made.top some
  outcome_done (Ways.raises n made free less) =
      on (untouched (counted n (count s n + 1) (maximum s n) s) refl refl) (one_ne n m (λ y. no_waiter s k m h (omega arith) (rw y at free) t e))
  outcome_done (Ways.deletes n made) = deleting n made.low made.top
  outcome_done Ways.keeps = on same refl
  outcome_done (Ways.moves u x n c) = on (changing u x (change_row k c)) refl
  outcome_done (Ways.waits w some b) = on (changing (running s) (waiting (task s (running s)) w) (runs_idle some)) refl
  outcome_done (Ways.creates n c v some most fits low few free) = on (untouched (counted n c v s) refl refl) refl
  outcome_done (Ways.takes n made left i) = on (untouched (counted n (count s n - 1) (maximum s n) s) refl refl) refl
  outcome_done (Ways.flags f a b r) = on (untouched (flagged f a b s) refl refl) refl
  outcome_done (Ways.tells f w a b made r) =
      let n = flag_row_lem f made.low made.top in
      let z = others w (flag_row f) (omega (arith, n, made.top)) (λ y. omega (arith, n)) in
      on (record { keyed = z.keyed; nearer = z.nearer }) refl
  outcome_done (Ways.opens q c low top most free) = on (untouched (sized q (c + 1) s) refl refl) refl
  outcome_done (Ways.removes q made) =
      let n = queue_row_lem q made.low made.top in
      let z = others Deleted (queue_row q) (omega (arith, n, made.top)) (λ y. omega (arith, n)) in
      on (record { keyed = z.keyed; nearer = z.nearer }) refl
  outcome_done (Ways.hands q e made side) = on (queue_serving made side.0 e) refl
  outcome_done (Ways.stores q e made none room) = on (untouched (stored q (taken_of s q + 1) e s) refl refl) refl
  outcome_done (Ways.gets q made r) = receiving made r

  pub outcome : {j : Kind} {i : Entry} {p : Plan} → Way s j i p → Outcome s m t j p.code p.effect
  unfolding carried
  outcome {j} (refuses c n d) = on same (one-not (is_refusal c) (is_release_of m j) n)
  outcome (accepts c v x n d done) = outcome_done done
