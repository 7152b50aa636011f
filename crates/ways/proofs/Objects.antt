-- The ways of the plans of the services on semaphores and on event flags.
-- It rests on the services of model/specs/Service; Tasks has those on tasks.
use mathlib.Core.Bool.{Bool, true, not}
use Prim.Native.Nat.{ℕ, ◌+◌, ◌≤◌}
use Rattle.model.specs.declared.State.{State}
use Rattle.model.specs.Row.{first_of}
use Rattle.model.specs.Flag.{is_attributes, is_met, flag_row, bits_left, without_bits}
use Rattle.model.specs.Task.{endless, on_semaphore, on_flag}
use Rattle.model.specs.State.{task, count, maximum, attribute, bits_of, semaphore, flag, running}
use Rattle.model.specs.Service.{sem_create, sem_delete, signal, acquire, polling, flag_create, flag_delete, flag_set, flag_clear, is_occupied, taken, flag_wait, flag_poll}
use Rattle.laws.proofs.Says.{says_same, says_not, says_and}
use Rattle.ways.specs.Kind.{other, release, deletion}
use Rattle.ways.specs.Entry as Entries
use Rattle.ways.specs.Entry.{creation, acquisition, poll}
use Rattle.ways.proofs.Tests.{yes, in_range, equals, at_most, below, some_of, none_of, positive, is_false}
use Rattle.ways.proofs.Done as Does
use Rattle.ways.proofs.Done.{Made, FlagMade, queues, asks, at_once, by_poll, serves, raises, waits, takes, flags, tells, Way, done, pending, needs, picks, checks}
use Rattle.ways.proofs.Done.Reflag.{clears, meets}
use Rattle.ways.proofs.Done.Tell.{sets}

module _ (s : State) (mine : Bool) where
  -- ---- semaphores
  exists : (m : ℕ) → (1 ≤ m) × (m ≤ 12) → 1 ≤ maximum s m → Made s m
  exists m r made = record { low = r.0; top = r.1; made = made }

  pub way_sem_create : (m n v : ℕ) → Way s other (creation m n) (sem_create mine m n v (semaphore s m))
  unfolding sem_create
  way_sem_create m n v = checks (says_and (in_range 1 m 12) (says_and (in_range 1 v 65535) (says_and (at_most n v) (none_of (maximum s m))))) yes mine _ (λ h _.
      done 0 (Does.Done.creates m n v h.0.0 h.0.1 h.1.1.0 h.1.0.0 h.1.0.1 h.1.1.1))

  pub way_sem_delete : (m : ℕ) → Way s (deletion m) (Entries.deletion m) (sem_delete mine m (semaphore s m))
  unfolding sem_delete
  way_sem_delete m = checks (in_range 1 m 12) (some_of (maximum s m)) mine _ (λ h made. done 0 (Does.Done.deletes m (exists m h made)))

  pub way_signal : (m : ℕ) → Way s (release m) (Entries.release m) (signal mine m (task s (first_of s.waits m)) (semaphore s m))
  unfolding signal
  way_signal m = checks (in_range 1 m 12) (some_of (maximum s m)) mine _ (λ h made. picks (equals (first_of s.waits m) 0) _ _
      (λ free. needs (below (count s m) (maximum s m)) _ _ tt (λ less. done 0 (raises m (exists m h made) free less)))
      (λ first. done 0 (serves m (exists m h made) (positive first))))

  pub way_acquire : (m d : ℕ) → Way s other (acquisition m) (acquire mine m d (running s) (task s (running s)) (semaphore s m))
  unfolding acquire
  way_acquire m d = checks (says_and (in_range 1 m 12) (in_range 1 d endless)) (some_of (maximum s m)) mine _ (λ h made. needs (some_of (running s)) _ _ tt (λ runs.
      picks (equals (count s m) 0) _ _
      (λ e. pending (waits (on_semaphore m d) runs (queues m d (exists m h.0 made) h.1.0 e)))
      (λ left. done 0 (takes m (exists m h.0 made) (positive left) at_once))))

  pub way_polling : (m : ℕ) → Way s other (poll m) (polling mine m (semaphore s m))
  unfolding polling
  way_polling m = checks (in_range 1 m 12) (some_of (maximum s m)) mine _ (λ h made. needs (some_of (count s m)) _ _ tt (λ left. done 0 (takes m (exists m h made) left by_poll)))

  -- ---- event flags
  flag_exists : (f : ℕ) → (1 ≤ f) × (f ≤ 8) → 1 ≤ attribute s f → FlagMade s f
  flag_exists f r made = record { low = r.0; top = r.1; made = made }

  pub way_flag_create : (f a b : ℕ) → Way s other Entries.none (flag_create mine f a b (flag s f))
  unfolding flag_create
  way_flag_create f a b = checks (says_and (in_range 1 f 8) (says_and (says_same (is_attributes a)) (none_of (attribute s f)))) yes mine _ (λ h _.
      done 0 (flags f (a + 1) b (Does.Reflag.creates a b h.0.0 h.0.1 h.1.0 h.1.1)))

  pub way_flag_delete : (f : ℕ) → Way s other Entries.none (flag_delete mine f (flag s f))
  unfolding flag_delete
  way_flag_delete f = checks (in_range 1 f 8) (some_of (attribute s f)) mine _ (λ h made. done 0 (tells f _ _ _ (flag_exists f h made) Does.Tell.deletes))

  pub way_flag_set : (f p : ℕ) → Way s other Entries.none (flag_set mine f p (task s (first_of s.waits (flag_row f))) (flag s f))
  unfolding flag_set
  way_flag_set f p = checks (says_and (in_range 1 f 8) (some_of p)) (some_of (attribute s f)) mine _ (λ h made. done 0 (tells f _ _ _ (flag_exists f h.0 made) (sets _ _)))

  pub way_flag_clear : (f p : ℕ) → Way s other Entries.none (flag_clear mine f p (flag s f))
  unfolding flag_clear
  way_flag_clear f p = checks (says_and (in_range 1 f 8) (some_of p)) (some_of (attribute s f)) mine _ (λ h made.
      done 0 (flags f (attribute s f) (without_bits (bits_of s f) p) (clears p (flag_exists f h.0 made))))

  -- a wait or poll is met at once
  way_taken : (f : ℕ) → FlagMade s f → Way s other Entries.none (taken f (flag s f))
  unfolding taken
  way_taken f made = done (bits_of s f) (flags f (attribute s f) (bits_left (attribute s f) true (bits_of s f)) (meets made))

  pub way_flag_wait : (f p m d : ℕ) → Way s other Entries.none (flag_wait mine f p m d (running s) (task s (running s)) (flag s f))
  unfolding flag_wait
  way_flag_wait f p m d =
      checks (says_and (in_range 1 f 8) (says_and (some_of p) (says_and (at_most m 1) (in_range 1 d endless)))) (some_of (attribute s f)) mine _ (λ h made.
      needs (some_of (running s)) _ _ tt (λ runs. needs (says_same (not (is_occupied (flag s f)))) _ _ tt (λ free. picks (says_same (is_met p m (bits_of s f))) _ _
      (λ _. way_taken f (flag_exists f h.0 made))
      (λ unmet. pending (waits (on_flag f p m d) runs (asks f p m d (flag_exists f h.0 made) h.1.0 h.1.1.0 h.1.1.1.0 free (is_false (is_met p m (bits_of s f)) unmet)))))))

  pub way_flag_poll : (f p m : ℕ) → Way s other Entries.none (flag_poll mine f p m (flag s f))
  unfolding flag_poll
  way_flag_poll f p m = checks (says_and (in_range 1 f 8) (says_and (some_of p) (at_most m 1))) (some_of (attribute s f)) mine _ (λ h made.
      needs (says_not (says_same (is_occupied (flag s f)))) _ _ tt (λ _. needs (says_same (is_met p m (bits_of s f))) _ _ tt (λ _. way_taken f (flag_exists f h.0 made))))
