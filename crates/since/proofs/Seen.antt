-- Each way of a call, seen by one task: the task enters a level and is marked with the time, or it does not and its mark stays, or it is dormant.
-- It takes apart the ways of ways, by the moves of Through and the tick's own part in Turned.
use mathlib.Core.Path.{◌≡◌, refl, sym, ap, ◌∙◌}
use mathlib.Core.Bool.{Bool, true, false, cond}
use mathlib.Core.Logic.{◌⊎◌, inl, inr, ⊎_elim}
use Prim.Native.Nat.{ℕ, ◌+◌, ◌≤◌, ◌%◌, ◌^◌}
use native.Mathlib.Omega.{arith}
use lib.Dec.{eqb}
use Rattle.model.specs.declared.Task.{Task}
use Rattle.model.specs.declared.State.{State}
use Rattle.model.specs.declared.Effect.{Effect}
use Rattle.model.specs.declared.Code.{Code}
use Rattle.model.specs.declared.News.{News}
use Rattle.model.specs.declared.News.TheVariants.{Deleted}
use Rattle.model.specs.Row.{first_of}
use Rattle.model.specs.Flag.{flag_row}
use Rattle.model.specs.DataQueue.{queue_row}
use Rattle.model.specs.Task.{no_task, level_of, dormant, activated, created, settled, served, released, waiting, ended}
use Rattle.model.specs.State.{task, time, taken_of, waiters, running, moved, counted, flagged, stocked, sized, sliced, with_time}
use Rattle.model.specs.Effect.{stopped, told_all, deleted, told_flag, stored, taken, refilled, removed, charged, lapsed, ticked, carried}
use Rattle.model.specs.Sound.{SoundTask, Sound}
use Rattle.laws.proofs.Number.{same?}
use Rattle.laws.proofs.Record.{level_none, level_dormant, level_settled, entry_new, entry_none, entry_same, queue_row_lem}
use Rattle.laws.proofs.Relisted.{relisted_kept}
use Rattle.soundness.proofs.Listed.{key_first}
use Rattle.soundness.proofs.Moved.{task-moved, tasks-moved}
use Rattle.soundness.proofs.Folds.{Chained, by_stop}
use Rattle.soundness.proofs.Orderly.{sound_orderly, task_in}
use Rattle.soundness.proofs.Records.{live_made, suspended_live, waiting_live, row_live}
use Rattle.soundness.proofs.Running.{runner}
use Rattle.soundness.proofs.Told.{first_waits}
use Rattle.soundness.proofs.Changes.{sound_with_time}
use Rattle.soundness.proofs.Effects.{sound_charged}
use Rattle.tested.proofs.Records.{level_most}
use Rattle.ways.specs.Kind.{Kind}
use Rattle.ways.specs.Entry.{Entry}
use Rattle.ways.proofs.Done.{QueueMade, first_at, Change, Receives, direct, oldest, refills, Done}
use Rattle.ways.proofs.Done.{Done as Ways}
use Rattle.ways.proofs.Done.Change.{creates, deletes, activates, counts_activation, suspends, resumes, uses_wakeup, wakes, counts_wakeup, prioritises}
use Rattle.turns.proofs.Still.{only_charged}
use Rattle.since.specs.Statements.{level_in, ended_by}
use Rattle.since.proofs.Through.{Kept, Came, Through, kept_same, kept_then, kept_moved, through_told, through_lapsed}
use Rattle.since.proofs.Turned.{Rotated, there, kept_marked, seen_charged}

-- what a call of kind j, which made s' of s, did to t
pub data Seen (s : State) (t : ℕ) (j : Kind) (s' : State) : Type 0 where
  arrives : 1 ≤ level_in s' t → (level_in s t ≡ level_in s' t → ⊥) → (task s' t).entered ≡ time s' → Seen s t j s'
  restarts : ended_by s j ≡ t → 1 ≤ level_in s' t → (task s' t).entered ≡ time s' → Seen s t j s'
  rotates : 1 ≤ level_in s t → level_in s' t ≡ level_in s t → first_of s.levels (level_in s t) ≡ t → (first_of s'.levels (level_in s t) ≡ t → ⊥)
      → (task s' t).entered ≡ time s' → Seen s t j s'
  rests : level_in s' t ≡ 0 → (task s' t).active ≡ 0 → Seen s t j s'
  leaves : level_in s' t ≡ 0 → 1 ≤ (task s t).active → (task s' t).entered ≡ (task s t).entered → Seen s t j s'
  stays : (ended_by s j ≡ t → ⊥) → Kept t s s' → Seen s t j s'

-- ---- records
-- what a change of a record does to life and mark: it ends, or keeps the mark of one that lives, or begins where there was no level
pub data Altered (k x : Task) : Type 0 where
  ends : x.active ≡ 0 → Altered k x
  keeps : 1 ≤ k.active → x.active ≡ k.active → x.entered ≡ k.entered → Altered k x
  begins : level_of k ≡ 0 → 1 ≤ level_of x → Altered k x

altered_created : (k : Task) (p o : ℕ) → 1 ≤ p → k ≡ no_task → Altered k (created p o)
altered_created k p o low e = go (eqb o 0)
  where
    go : (b : Bool) → Altered k (cond b (dormant p) (activated (dormant p)))
    go true = ends refl
    go false = begins (ap level_of e ∙ level_none) (unfold level_of in low)

altered_activated : (k : Task) → SoundTask k → 1 ≤ k.base → Altered k (activated k)
altered_activated k sound made = ⊎_elim
    (λ (z : k.active ≡ 0). let d = sound.dormant z in begins (level_dormant k z) (unfold level_of in rw (d.0, d.1, d.7) made))
    (λ (live : k.active ≡ 0 → ⊥). keeps (omega arith) (omega (arith, sound.active)) refl)
    (same? k.active 0)

module _ (s : State) (k : Sound s) (t : ℕ) where
  altered : {x : Task} → Change s t x → Altered (task s t) x
  altered (creates p o low top e) = altered_created (task s t) p o low ((k.tasks t).blank e)
  altered (deletes e) = ends refl
  altered (activates made) = altered_activated (task s t) (k.tasks t) made
  altered (counts_activation live) = keeps live refl refl
  altered (suspends live) = keeps live refl refl
  altered (resumes held) = keeps (suspended_live (task s t) (k.tasks t) held) refl refl
  altered (uses_wakeup some e) = keeps (rw e (runner s k some).live) refl refl
  altered (wakes live e) = keeps live refl refl
  altered (counts_wakeup live awake) = keeps live refl refl
  altered (prioritises p top made live) = keeps live refl refl

module _ (s : State) (k : Sound s) (t : ℕ) (low : 1 ≤ t) (top : t ≤ 24) where
  -- ---- a move
  -- its own
  own : {j : Kind} (x : Task) → (ended_by s j ≡ t → ⊥) → Altered (task s t) x → Seen s t j (moved t x s)
  own {j} x goes_on a = go a (same? (level_of x) 0) (same? (level_of (task s t)) (level_of x))
    where
      z : task (moved t x s) t ≡ settled (time s) (task s t) x
      z = task-moved s t x (there s k t top)

      level : level_in (moved t x s) t ≡ level_of x
      level = ap level_of z ∙ level_settled (time s) (task s t) x

      comes : (level_of x ≡ 0 → ⊥) → (level_of (task s t) ≡ level_of x → ⊥) → Seen s t j (moved t x s)
      comes some other = arrives (rw level (omega arith)) (λ e. other (e ∙ level)) (unfold moved in rw z (entry_new (time s) (task s t) x some other))

      go : Altered (task s t) x → (level_of x ≡ 0) ⊎ (level_of x ≡ 0 → ⊥) → (level_of (task s t) ≡ level_of x) ⊎ (level_of (task s t) ≡ level_of x → ⊥) → Seen s t j (moved t x s)
      go (ends e) b c = rests (level ∙ level_dormant x e) (rw z e)
      go (keeps live same mark) (inl none) c = leaves (level ∙ none) live (rw z (entry_none (time s) (task s t) x none ∙ mark))
      go (keeps live same mark) (inr some) (inl e) = stays goes_on (record {
        level = level ∙ sym e;
        entered = rw z (entry_same (time s) (task s t) x e ∙ mark);
        active = rw z same;
        first = λ l f. unfold moved in rw (relisted_kept s.levels (level_of (task s t)) (level_of x) t e) f;
      })
      go (keeps live same mark) (inr some) (inr other) = comes some other
      go (begins none some) b c = comes (λ e. omega arith) (λ e. omega arith)

  moving : {j : Kind} (u : ℕ) (x : Task) → (ended_by s j ≡ t → ⊥) → (u ≡ t → Altered (task s t) x) → Seen s t j (moved u x s)
  moving u x goes_on a = ⊎_elim
      (λ (e : u ≡ t). rw e (own x goes_on (a e)))
      (λ (apart : u ≡ t → ⊥). stays goes_on (kept_moved t low s u x apart))
      (same? u t)

  -- a live one whose record keeps life and mark
  changing : {j : Kind} (u : ℕ) (x : Task) → (ended_by s j ≡ t → ⊥) → 1 ≤ (task s u).active → x.active ≡ (task s u).active → x.entered ≡ (task s u).entered → Seen s t j (moved u x s)
  changing u x goes_on live same mark = moving u x goes_on (λ e. rw (← e) (keeps live same mark))

  -- ---- a stop
  chained : Chained (λ z z'. Kept t z z')
  chained = record { same = kept_same t; then = λ a b. kept_then a b }

  -- its own
  itself : {j : Kind} → ended_by s j ≡ t → 1 ≤ (task s t).base → Seen s t j (stopped t s)
  unfolding stopped
  itself {j} stop made = go (eqb (task s t).activations 0)
    where
      x : Task
      x = dormant (task s t).base

      s₁ : State
      s₁ = moved t x s

      z : task s₁ t ≡ settled (time s) (task s t) x
      z = task-moved s t x (there s k t top)

      y : task (moved t (activated x) s₁) t ≡ settled (time s₁) (task s₁ t) (activated x)
      y = task-moved s₁ t (activated x) (rw (tasks-moved s t x) (there s k t top))

      none : level_in s₁ t ≡ 0
      none = ap level_of z ∙ level_settled (time s) (task s t) x ∙ level_dormant x refl

      some : level_of (activated x) ≡ 0 → ⊥
      some e = let p : level_of (activated x) ≡ (task s t).base = unfold level_of in refl in omega arith

      go : (b : Bool) → Seen s t j (cond b s₁ (moved t (activated x) s₁))
      go true = rests none (rw z)
      go false =
          restarts stop (rw (ap level_of y ∙ level_settled (time s₁) (task s₁ t) (activated x)) (omega (arith, some)))
          (unfold moved in rw y (entry_new (time s₁) (task s₁ t) (activated x) some (λ e. some (sym e ∙ none))))

  stopping : {j : Kind} (u : ℕ) → 1 ≤ (task s u).base → ended_by s j ≡ u → Seen s t j (stopped u s)
  stopping {j} u made own-end = ⊎_elim
      (λ (e : u ≡ t). rw e (itself (own-end ∙ e) (rw (← e) made)))
      (λ (apart : u ≡ t → ⊥). stays (λ z. apart (sym own-end ∙ z)) (by_stop chained u s (λ z x. kept_moved t low z u x apart)))
      (same? u t)

  -- ---- news and a tick
  -- through moves that take nobody out of a level
  passing : {j : Kind} (z : State) → (ended_by s j ≡ t → ⊥) → Through t s z → Seen s t j z
  passing z goes_on a = ⊎_elim
      (λ (p : Kept t s z). stays goes_on p)
      (λ (p : Came t s z). arrives p.some (λ e. omega (arith, p.none, p.some)) (p.entered ∙ sym a.clock))
      a.fate

  telling : {j : Kind} (w : News) (n : ℕ) → (ended_by s j ≡ t → ⊥) → Seen s t j (told_all w (waiters s n) s)
  telling w n goes_on = passing (told_all w (waiters s n) s) goes_on (through_told t low w (waiters s n) s (there s k t top))

  ticking : {j : Kind} → (ended_by s j ≡ t → ⊥) → Seen s t j (ticked s)
  unfolding ticked running
  ticking {j} goes_on = go (seen_charged s₀ k₀ t top) a.fate
    where
      s₀ : State
      s₀ = with_time ((time s + 1) % 2 ^ 32) s

      timed : Kept t s s₀
      timed = record { level = refl; entered = refl; active = refl; first = λ l f. f }

      k₀ : Sound s₀
      k₀ = sound_with_time s ((time s + 1) % 2 ^ 32) k

      z : State
      z = charged (running s) s₀

      kz : Sound z
      kz = sound_charged s₀ k₀ (running s) (λ runs. let r = runner s k runs in (r.listed, r.level, r.first))

      s' : State
      s' = lapsed 24 1 z

      a : Through t z s'
      a = through_lapsed t low 24 1 z (there z kz t top)

      clock : time z ≡ time s₀
      clock = rw (only_charged s₀ (running s)).numbers

      -- who is first then stays first
      next_first : (l v : ℕ) → 1 ≤ l → l ≤ 30 → 1 ≤ v → first_of z.levels l ≡ v → first_of s'.levels l ≡ v
      next_first l v some most one f =
          let key = key_first z.levels 31 (λ u. level_of (task z u)) kz.levels l (omega arith) (λ e. omega (arith, sym f ∙ e)) in
          let stands : level_in z v ≡ l = ap (λ i. level_of (task z i)) (sym f) ∙ key.1 in
          let inside = through_lapsed v one 24 1 z (omega (arith, kz.tasks#, named v stands)) in
          ⊎_elim (λ (p : Kept v z s'). p.first l f) (λ (p : Came v z s'). absurd (omega (arith, p.none, stands))) inside.fate
        where
          named : (v : ℕ) → level_in z v ≡ l → v ≤ 24
          named v e = (task_in z (sound_orderly kz) level_of level_none v (omega arith)).1

      go : Kept t s₀ z ⊎ Rotated t s₀ z → Kept t z s' ⊎ Came t z s' → Seen s t j s'
      go (inl p) (inl q) = stays goes_on (kept_then timed (kept_then p q))
      go (inl p) (inr q) = arrives q.some (λ e. omega (arith, q.some, sym p.level ∙ q.none, e)) (q.entered ∙ sym a.clock)
      go (inr p) (inl q) =
          rotates p.some (q.level ∙ p.level) p.was
          (λ f. p.other (sym (next_first (level_in s t) p.next p.some (level_most (task s t) (k.tasks t)) p.low p.is) ∙ f))
          (q.entered ∙ p.entered ∙ sym clock ∙ sym a.clock)
      go (inr p) (inr q) = absurd (omega (arith, p.some, p.level, q.none))

  -- ---- every way
  -- a call of another kind ends nobody
  nobody : 0 ≡ t → ⊥
  nobody e = omega arith

  -- where tasks and levels are the same
  alike : (z : State) → z.tasks ≡ s.tasks → z.levels ≡ s.levels → Kept t s z
  alike z a b = record { level = rw a; entered = rw a; active = rw a; first = λ l f. rw b f }

  -- the numbers change after the moves
  noting : {j : Kind} (y z : State) → z.tasks ≡ y.tasks → z.levels ≡ y.levels → time z ≡ time y → Seen s t j y → Seen s t j z
  noting y z a b c (arrives e f g) = arrives (rw a e) (rw a f) (rw (a, c) g)
  noting y z a b c (restarts d e g) = restarts d (rw a e) (rw (a, c) g)
  noting y z a b c (rotates d e f n g) = rotates d (rw a e) f (rw b n) (rw (a, c) g)
  noting y z a b c (rests e f) = rests (rw a e) (rw a f)
  noting y z a b c (leaves e f g) = leaves (rw a e) f (rw a g)
  noting y z a b c (stays d p) = stays d (record { level = rw a p.level; entered = rw a p.entered; active = rw a p.active; first = λ l f. rw b (p.first l f) })

  -- the first of a row of waiters is served, and gets b
  serving : {j : Kind} (m b : ℕ) → 1 ≤ m → m ≤ 28 → (ended_by s j ≡ t → ⊥) → 1 ≤ first_of s.waits m → Seen s t j (moved (first_of s.waits m) (ended (task s (first_of s.waits m)) served b) s)
  serving m b least most goes_on some =
      let u = first_of s.waits m in
      changing u (ended (task s u) served b) goes_on (row_live (task s u) (k.tasks u) (omega (arith, first_waits s k m most some))) refl refl

  -- the first who waits on a data queue
  queue_serving : {j : Kind} {q : ℕ} → QueueMade s q → (b : ℕ) → (ended_by s j ≡ t → ⊥) → 1 ≤ first_at s q → Seen s t j (moved (first_at s q) (ended (task s (first_at s q)) served b) s)
  queue_serving {q = q} made b = let n = queue_row_lem q made.low made.top in serving (queue_row q) b (omega (arith, n)) (omega (arith, n, made.top))

  receiving : {j : Kind} {q v : ℕ} {x : Effect} → QueueMade s q → (ended_by s j ≡ t → ⊥) → Receives s q v x → Seen s t j (carried s x)
  unfolding carried
  receiving made goes_on (direct side empty e) = queue_serving made 0 goes_on side.0
  receiving {q = q} made goes_on (oldest none some e) = stays goes_on (unfold taken stocked in alike (taken q s) refl refl)
  receiving {q = q} made goes_on (refills side some e) = unfold refilled stocked moved in noting (moved (first_at s q) (ended (task s (first_at s q)) served 0) s) (refilled q s) refl refl refl (queue_serving made 0 goes_on side.0)

  pub seen : {v : ℕ} {j : Kind} {i : Entry} {c : Code} {x : Effect} → Done s v j i c x → Seen s t j (carried s x)
  unfolding carried ticked
  seen Ways.ticks = ticking nobody
  seen (Ways.exits runs) =
      let r = runner s k runs in
      stopping (running s) (live_made (task s (running s)) (k.tasks (running s)) r.live) refl
  seen (Ways.terminates u low top made) = stopping u made refl
  seen (Ways.forces u low top waits) = changing u (ended (task s u) released 0) nobody (waiting_live (task s u) (k.tasks u) (λ e. omega arith)) refl refl
  seen (Ways.slices l n some most) =
      stays nobody (let p = kept_marked s k t top first 0 (task s first).entered (there s k t top) (λ e. rw e) in unfold sliced in record { level = p.level; entered = p.entered; active = p.active; first = p.first })
    where
      first : ℕ
      first = first_of s.levels l
  seen (Ways.serves m made some) = serving m 0 made.low (omega (arith, made.top)) nobody some
  seen (Ways.raises m made free less) = stays nobody (unfold counted in alike (counted m _ _ s) refl refl)
  seen (Ways.deletes m made) = unfold deleted counted in noting (told_all Deleted (waiters s m) s) (deleted m s) refl refl refl (telling Deleted m nobody)
  seen Ways.keeps = stays nobody (kept_same t s)
  seen (Ways.moves u x n c) = moving u x nobody (λ e. altered s k t (rw e at c))
  seen (Ways.waits w runs b) = let r = runner s k runs in changing (running s) (waiting (task s (running s)) w) nobody r.live refl refl
  seen (Ways.creates m n v low top fits more few free) = stays nobody (unfold counted in alike (counted m n v s) refl refl)
  seen (Ways.takes m made left i) = stays nobody (unfold counted in alike (counted m _ _ s) refl refl)
  seen (Ways.flags f a b r) = stays nobody (unfold flagged in alike (flagged f a b s) refl refl)
  seen (Ways.tells f w a b made r) = unfold told_flag flagged in noting (told_all w (waiters s (flag_row f)) s) (told_flag f w a b s) refl refl refl (telling w (flag_row f) nobody)
  seen (Ways.opens q c low top most free) = stays nobody (unfold sized in alike (sized q (c + 1) s) refl refl)
  seen (Ways.removes q made) = unfold removed sized stocked in noting (told_all Deleted (waiters s (queue_row q)) s) (removed q s) refl refl refl (telling Deleted (queue_row q) nobody)
  seen (Ways.hands q e made side) = queue_serving made e nobody side.0
  seen (Ways.stores q e made none room) = stays nobody (unfold stored stocked in alike (stored q (taken_of s q + 1) e s) refl refl)
  seen (Ways.gets q made r) = receiving made nobody r
