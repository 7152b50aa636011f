-- The ways of the plans of the services on tasks, of time slices and of the tick.
-- It rests on the services of model/specs/Service; Objects has those on semaphores and flags.
use mathlib.Core.Path.{refl}
use mathlib.Core.Bool.{Bool}
use Prim.Native.Nat.{ℕ, ◌≤◌}
use Rattle.model.specs.declared.Task.{Task}
use Rattle.model.specs.declared.State.{State}
use Rattle.model.specs.declared.Effect.TheVariants.{Moves}
use Rattle.model.specs.Task.{a_sleep, endless, asleep}
use Rattle.model.specs.State.{task, time, running}
use Rattle.model.specs.Plan.{does}
use Rattle.model.specs.Service.{create, delete, activate, exit, terminate, suspend, resume, sleep, wakeup, release_wait, wanted, change_priority, ready_ticks, tslice_ticks, tick}
use Rattle.laws.proofs.Says.{says_not, says_and}
use Rattle.ways.specs.Kind as Kinds
use Rattle.ways.specs.Kind.{other, forced_release, set_slice}
use Rattle.ways.specs.Entry as Entries
use Rattle.ways.proofs.Tests.{yes, in_range, equals, at_most, some_of, none_of, positive}
use Rattle.ways.proofs.Done.{given, runs, Change, sleeps, ticks, exits, terminates, forces, slices, keeps, moves, waits, Way, done, pending, needs, picks, checks}
use Rattle.ways.proofs.Done.Change.{creates, deletes, activates, counts_activation, suspends, resumes, uses_wakeup, wakes, counts_wakeup, prioritises}

module _ (s : State) (mine : Bool) where
  -- a task that a call names, one of the 24, gets another record
  changes : (t : ℕ) {x : Task} → (1 ≤ t) × (t ≤ 24) → Change s t x → Way s other Entries.none (does (Moves t x))
  changes t {x} r c = done 0 (moves t x (given t r.0 r.1) c)

  pub way_create : (t p o : ℕ) → Way s other Entries.none (create mine t p o (task s t))
  unfolding create
  way_create t p o = checks (says_and (in_range 1 t 24) (says_and (in_range 1 p 30) (says_and (at_most o 1) (none_of (task s t).base)))) yes mine _ (λ h _.
      changes t h.0 (creates p o h.1.0.0 h.1.0.1 h.1.1.1))

  pub way_delete : (t : ℕ) → Way s other Entries.none (delete mine t (task s t))
  unfolding delete
  way_delete t = checks (in_range 1 t 24) (some_of (task s t).base) mine _ (λ h _. needs (equals (task s t).active 0) _ _ tt (λ rests. changes t h (deletes rests)))

  pub way_activate : (t : ℕ) → Way s other Entries.none (activate mine t (task s t))
  unfolding activate
  way_activate t = checks (in_range 1 t 24) (some_of (task s t).base) mine _ (λ h made. picks (equals (task s t).active 0) _ _
      (λ _. changes t h (activates made))
      (λ live. needs (equals (task s t).activations 0) _ _ tt (λ _. changes t h (counts_activation (positive live)))))

  pub way_exit : Way s Kinds.exit Entries.none (exit mine (running s))
  unfolding exit
  way_exit = checks yes yes mine _ (λ _ _. needs (some_of (running s)) _ _ tt (λ runs. done 0 (exits runs)))

  pub way_terminate : (t : ℕ) → Way s (Kinds.terminate t) Entries.none (terminate mine t (running s) (task s t))
  unfolding terminate
  way_terminate t = checks (in_range 1 t 24) (some_of (task s t).base) mine _ (λ h made. needs (says_not (equals t (running s))) _ _ tt (λ _.
      needs (some_of (task s t).active) _ _ tt (λ _. done 0 (terminates t h.0 h.1 made))))

  pub way_suspend : (t : ℕ) → Way s other Entries.none (suspend mine t (task s t))
  unfolding suspend
  way_suspend t = checks (in_range 1 t 24) (some_of (task s t).base) mine _ (λ h _. needs (some_of (task s t).active) _ _ tt (λ live.
      needs (none_of (task s t).suspended) _ _ tt (λ _. changes t h (suspends live))))

  pub way_resume : (t : ℕ) → Way s other Entries.none (resume mine t (task s t))
  unfolding resume
  way_resume t = checks (in_range 1 t 24) (some_of (task s t).base) mine _ (λ h _. needs (some_of (task s t).suspended) _ _ tt (λ held. changes t h (resumes held)))

  pub way_sleep : (d : ℕ) → Way s other Entries.none (sleep mine d (running s) (task s (running s)))
  unfolding sleep
  way_sleep d = checks (in_range 1 d endless) yes mine _ (λ h _. needs (some_of (running s)) _ _ tt (λ low. picks (equals (task s (running s)).wakeups 0) _ _
      (λ e. pending (waits (asleep d) low (sleeps d h.0 e)))
      (λ _. done 0 (moves (running s) _ (runs low) (uses_wakeup low refl)))))

  pub way_wakeup : (t : ℕ) → Way s other Entries.none (wakeup mine t (task s t))
  unfolding wakeup
  way_wakeup t = checks (in_range 1 t 24) (some_of (task s t).base) mine _ (λ h _. needs (some_of (task s t).active) _ _ tt (λ live. picks (equals (task s t).wait.kind a_sleep) _ _
      (λ sleeps. changes t h (wakes live sleeps))
      (λ awake. needs (equals (task s t).wakeups 0) _ _ tt (λ _. changes t h (counts_wakeup live awake)))))

  pub way_release_wait : (t : ℕ) → Way s (forced_release t) Entries.none (release_wait mine t (task s t))
  unfolding release_wait
  way_release_wait t = checks (in_range 1 t 24) (some_of (task s t).base) mine _ (λ h _. needs (some_of (task s t).wait.kind) _ _ tt (λ waits. done 0 (forces t h.0 h.1 waits)))

  pub way_change_priority : (t p : ℕ) → Way s other Entries.none (change_priority mine t p (task s t))
  unfolding change_priority
  way_change_priority t p = checks (says_and (in_range 1 t 24) (at_most p 30)) (some_of (task s t).base) mine _ (λ h made. needs (some_of (task s t).active) _ _ tt (λ live.
      picks (equals (wanted p (task s t)) (task s t).priority) _ _ (λ _. done 0 keeps) (λ _. changes t h.0 (prioritises p h.1 made live))))

  pub way_ready_ticks : (t : ℕ) → Way s other Entries.none (ready_ticks mine t (time s) (task s t))
  unfolding ready_ticks
  way_ready_ticks t = checks (in_range 1 t 24) (some_of (task s t).base) mine _ (λ _ _. needs (some_of (task s t).active) _ _ tt (λ _. done _ keeps))

  -- ---- slices and the tick
  pub way_tslice_ticks : (l v : ℕ) → Way s (set_slice l) Entries.none (tslice_ticks mine l v)
  unfolding tslice_ticks
  way_tslice_ticks l v = checks (says_and (in_range 1 l 30) (at_most v 1000)) yes mine _ (λ h _. done 0 (slices l v h.0.0 h.1))

  pub way_tick : Way s Kinds.tick Entries.none (tick mine)
  unfolding tick
  way_tick = checks yes yes mine _ (λ _ _. done 0 ticks)
