-- Each record that a call makes of a sound one is sound, where the call's tests have shown what the record's clauses ask.
-- It rests on `SoundTask` of model/specs/Sound and the records of model/specs/Task; what a key or a test says of a record stands first.
use mathlib.Core.Path.{◌≡◌, refl, ap}
use mathlib.Core.Bool.{Bool, true, false, cond, not, ◌&&◌}
use mathlib.Core.Logic.{◌⊎◌, inl, inr, ⊎_elim}
use Prim.Native.Nat.{ℕ, ◌-◌, ◌≤◌}
use native.Mathlib.Omega.{arith}
use lib.Dec.{T as So, eqb}
use borrow.Author.Tests.{eqb-false}
use Rattle.model.specs.declared.Wait.{Wait}
use Rattle.model.specs.declared.Task.{Task}
use Rattle.model.specs.declared.News.{News}
use Rattle.model.specs.declared.News.TheVariants.{Deleted, Bits}
use Rattle.model.specs.Flag.{is_met}
use Rattle.model.specs.Task.{nothing, a_sleep, served, dlt, is_dormant, is_suspended, is_waiting, is_asleep, is_runnable, is_timed, endless, level_of, row_of, ran_out, aged, told}
use Rattle.model.specs.Task.{asleep, on_semaphore, on_flag, to_send, to_receive, dormant, activated, created, with_priority, with_suspended, with_wakeups, with_activations, with_marks, with_remaining, waiting, ended}
use Rattle.model.specs.Test.{is_wait_code}
use Rattle.model.specs.Sound.{SoundTask}
use Rattle.laws.proofs.Padded.{both}
use Rattle.laws.proofs.Record.{row_waits}
use Rattle.laws.proofs.Waits.{SoundWait, SoundAsk, unasked, wait_none, ask_none, WaitOf, wait_of, ask_of, sound_of}
use Rattle.ways.proofs.Tests.{some_of, none_of}

-- ---- what a sound record's fields say of each other
module _ (x : Task) (k : SoundTask x) where
  pub live_made : 1 ≤ x.active → 1 ≤ x.base
  live_made live = let made : x.base ≡ 0 → ⊥ = λ e. omega (arith, ap (λ (y : Task). y.active) (k.blank e)) in omega arith

  pub suspended_live : 1 ≤ x.suspended → 1 ≤ x.active
  suspended_live h = let live : x.active ≡ 0 → ⊥ = λ e. omega (arith, k.dormant e) in omega arith

  pub waiting_live : (x.wait.kind ≡ nothing → ⊥) → 1 ≤ x.active
  waiting_live waits = let live : x.active ≡ 0 → ⊥ = λ e. waits (k.dormant e).0 in omega arith

-- ---- what its keys say
pub level_live : (x : Task) → 1 ≤ level_of x → (1 ≤ x.active) × (x.wait.kind ≡ nothing)
unfolding level_of
level_live x h = go (is_runnable x) h (both (not (is_dormant x)) (not (is_suspended x) && not (is_waiting x)))
  where
    go : (b : Bool) → 1 ≤ cond b x.priority 0 → (So b → So (not (is_dormant x)) × So (not (is_suspended x) && not (is_waiting x)))
        → (1 ≤ x.active) × (x.wait.kind ≡ nothing)
    go true h r = ((some_of x.active).yields (r tt).0, (none_of x.wait.kind).yields (both (not (is_suspended x)) (not (is_waiting x)) (r tt).1).1)
    go false h r = absurd (omega arith)

pub level_priority : (x : Task) → 1 ≤ level_of x → level_of x ≡ x.priority
unfolding level_of
level_priority x h = go (is_runnable x) h
  where
    go : (b : Bool) → 1 ≤ cond b x.priority 0 → cond b x.priority 0 ≡ x.priority
    go true h = refl
    go false h = absurd (omega arith)

pub row_live : (x : Task) → SoundTask x → 1 ≤ row_of x → 1 ≤ x.active
row_live x k h = waiting_live x k (λ z. omega (arith, row_waits x h))

-- ---- records that wait for nothing
pub sound_dormant : (p : ℕ) → 1 ≤ p → p ≤ 30 → SoundTask (dormant p)
sound_dormant p low top = sound_of (dormant p) (low, top) (low, top) (omega arith) (omega arith) (omega arith) (omega arith) tt (refl, refl) (λ e. (refl, refl, refl, refl, refl, refl, refl, refl)) (wait_none 0 0 0) ask_none

pub sound_activated : (x : Task) → SoundTask x → 1 ≤ x.base → SoundTask (activated x)
sound_activated x k made =
    sound_of (activated x) (made, k.base) (k.priority made) (omega arith) k.suspended k.wakeups k.activations k.code k.spare (λ e. absurd (omega arith)) (wait_of x k) (ask_of x k)

pub sound_created : (p o : ℕ) → 1 ≤ p → p ≤ 30 → SoundTask (created p o)
sound_created p o low top = go (eqb o 0)
  where
    go : (b : Bool) → SoundTask (cond b (dormant p) (activated (dormant p)))
    go true = sound_dormant p low top
    go false = sound_activated (dormant p) (sound_dormant p low top) low

-- ---- records of a live task
module _ (x : Task) (k : SoundTask x) (live : 1 ≤ x.active) where
  -- it stays what it was created as, and live
  still : (y : Task) → y.base ≡ x.base → y.active ≡ x.active → (1 ≤ y.priority) × (y.priority ≤ 30) → y.suspended ≤ 1 → y.wakeups ≤ 1 → y.activations ≤ 1
      → So (is_wait_code y.code) → (y.spare ≡ 0) × (y.wait.spare ≡ 0) → WaitOf y → SoundAsk y.wait → SoundTask y
  still y same lives priority suspended wakeups activations code spare =
      sound_of y (rw same (live_made x k live, k.base)) priority (rw lives k.active) suspended wakeups activations code spare (λ e. absurd (omega arith))

  priority_now : (1 ≤ x.priority) × (x.priority ≤ 30)
  priority_now = k.priority (live_made x k live)

  pub sound_with_priority : (p : ℕ) → 1 ≤ p → p ≤ 30 → SoundTask (with_priority x p)
  sound_with_priority p low top = still (with_priority x p) refl refl (low, top) k.suspended k.wakeups k.activations k.code k.spare (wait_of x k) (ask_of x k)

  pub sound_with_suspended : (n : ℕ) → n ≤ 1 → SoundTask (with_suspended x n)
  sound_with_suspended n h = still (with_suspended x n) refl refl priority_now h k.wakeups k.activations k.code k.spare (wait_of x k) (ask_of x k)

  pub sound_with_activations : (n : ℕ) → n ≤ 1 → SoundTask (with_activations x n)
  sound_with_activations n h = still (with_activations x n) refl refl priority_now k.suspended k.wakeups h k.code k.spare (wait_of x k) (ask_of x k)

  -- a sleeper's wakeup count is 0
  pub sound_with_wakeups : (n : ℕ) → n ≤ 1 → (x.wait.kind ≡ a_sleep → n ≡ 0) → SoundTask (with_wakeups x n)
  sound_with_wakeups n h awake =
      still (with_wakeups x n) refl refl priority_now k.suspended h k.activations k.code k.spare
      (record { wait = k.wait; waiting = k.waiting; free = k.free; sleeper = λ e. (awake e, (k.sleeper e).1); object = k.object; flag = k.flag; queue = k.queue }) (ask_of x k)

  pub sound_with_remaining : (d : ℕ) → 1 ≤ d → (x.wait.kind ≡ nothing → ⊥) → SoundTask (with_remaining x d)
  sound_with_remaining d some waits =
      still (with_remaining x d) refl refl priority_now k.suspended k.wakeups k.activations k.code k.spare
      (record { wait = k.wait; waiting = λ n. (some, (k.waiting n).1, (k.waiting n).2); free = λ e. absurd (waits e); sleeper = k.sleeper; object = k.object; flag = k.flag; queue = k.queue }) (record { asks = k.asks; modeless = k.modeless; silent = k.silent })

  pub sound_ended : (v b : ℕ) → So (is_wait_code v) → SoundTask (ended x v b)
  sound_ended v b h =
      still (ended x v b) refl refl priority_now k.suspended k.wakeups k.activations h (k.spare.0, refl) (wait_none x.wakeups v b) ask_none

  -- a wait begins
  begins : (w : Wait) → w.spare ≡ 0 → SoundWait w x.wakeups 0 0 → SoundAsk w → SoundTask (waiting x w)
  begins w unused = still (waiting x w) refl refl priority_now k.suspended k.wakeups k.activations tt (k.spare.0, unused)

  pub sound_asleep : (d : ℕ) → 1 ≤ d → x.wakeups ≡ 0 → SoundTask (waiting x (asleep d))
  sound_asleep d some none = begins (asleep d) refl
      (record { wait = inr (inl refl); waiting = λ n. (some, refl, refl); free = λ e. absurd (omega arith); sleeper = λ e. (none, refl); object = λ e. absurd (omega arith); flag = λ e. absurd (omega arith); queue = ⊎_elim (λ e. absurd (omega arith)) (λ e. absurd (omega arith)) })
      (unasked (asleep d) (λ e. omega arith) refl (λ n. refl))

  pub sound_queued : (m d : ℕ) → 1 ≤ m → m ≤ 12 → 1 ≤ d → SoundTask (waiting x (on_semaphore m d))
  sound_queued m d low top some = begins (on_semaphore m d) refl
      (record { wait = inr (inr (inl refl)); waiting = λ n. (some, refl, refl); free = λ e. absurd (omega arith); sleeper = λ e. absurd (omega arith); object = λ e. (low, top); flag = λ e. absurd (omega arith); queue = ⊎_elim (λ e. absurd (omega arith)) (λ e. absurd (omega arith)) })
      (unasked (on_semaphore m d) (λ e. omega arith) refl (λ n. refl))

  pub sound_asking : (f p m d : ℕ) → 1 ≤ f → f ≤ 8 → 1 ≤ d → 1 ≤ p → m ≤ 1 → SoundTask (waiting x (on_flag f p m d))
  sound_asking f p m d low top some bits mode = begins (on_flag f p m d) refl
      (record { wait = inr (inr (inr (inl refl))); waiting = λ n. (some, refl, refl); free = λ e. absurd (omega arith); sleeper = λ e. absurd (omega arith); object = λ e. absurd (omega arith); flag = λ e. (low, top); queue = ⊎_elim (λ e. absurd (omega arith)) (λ e. absurd (omega arith)) })
      (record { asks = λ e. (bits, mode); modeless = λ n. absurd (n refl); silent = λ n. absurd (n refl) })

  pub sound_sending : (q e d : ℕ) → 1 ≤ q → q ≤ 8 → 1 ≤ d → SoundTask (waiting x (to_send q e d))
  sound_sending q e d low top some = begins (to_send q e d) refl
      (record { wait = inr (inr (inr (inr (inl refl)))); waiting = λ n. (some, refl, refl); free = λ e. absurd (omega arith); sleeper = λ e. absurd (omega arith); object = λ e. absurd (omega arith); flag = λ e. absurd (omega arith); queue = λ o. (low, top) })
      (unasked (to_send q e d) (λ e. omega arith) refl (λ n. absurd (n refl)))

  pub sound_receiving : (q d : ℕ) → 1 ≤ q → q ≤ 8 → 1 ≤ d → SoundTask (waiting x (to_receive q d))
  sound_receiving q d low top some = begins (to_receive q d) refl
      (record { wait = inr (inr (inr (inr (inr refl)))); waiting = λ n. (some, refl, refl); free = λ e. absurd (omega arith); sleeper = λ e. absurd (omega arith); object = λ e. absurd (omega arith); flag = λ e. absurd (omega arith); queue = λ o. (low, top) })
      (unasked (to_receive q d) (λ e. omega arith) refl (λ n. refl))

  pub sound_told : (w : News) → SoundTask (told w x)
  unfolding told
  sound_told Deleted = sound_ended dlt 0 tt
  sound_told (Bits b) = go (is_met x.wait.pattern x.wait.mode b)
    where
      go : (met : Bool) → SoundTask (cond met (ended x served b) x)
      go true = sound_ended served b tt
      go false = k

-- ---- who was told and still waits
-- a deletion lets nobody wait on, and bits those whom they do not meet
abbrev pub Stays : News → Task → Type 0
Stays Deleted x = ⊥
Stays (Bits b) x = is_met x.wait.pattern x.wait.mode b ≡ false

pub stays_marks : (w : News) (x : Task) (n e : ℕ) → Stays w x → Stays w (with_marks x n e)
stays_marks Deleted x n e h = h
stays_marks (Bits b) x n e h = h

pub told_stays : (w : News) (x : Task) → (row_of (told w x) ≡ 0) ⊎ (Stays w x × (told w x ≡ x))
unfolding told row_of
told_stays Deleted x = inl refl
told_stays (Bits b) x = go (is_met x.wait.pattern x.wait.mode b) refl
  where
    go : (met : Bool) → is_met x.wait.pattern x.wait.mode b ≡ met → (row_of (cond met (ended x served b) x) ≡ 0) ⊎ ((is_met x.wait.pattern x.wait.mode b ≡ false) × (cond met (ended x served b) x ≡ x))
    go true e = inl refl
    go false e = inr (e, refl)

-- what the end of a wait leaves as it is, news leave too; and so does a tick, where a timeout that falls leaves it
module _ {A : Type 0} (of : Task → A) where
  pub told_keeps : (w : News) (x : Task) → ((v b : ℕ) → of (ended x v b) ≡ of x) → of (told w x) ≡ of x
  unfolding told
  told_keeps Deleted x ends = ends dlt 0
  told_keeps (Bits b) x ends = go (is_met x.wait.pattern x.wait.mode b)
    where
      go : (met : Bool) → of (cond met (ended x served b) x) ≡ of x
      go true = ends served b
      go false = refl

  pub aged_keeps : (x : Task) → ((v b : ℕ) → of (ended x v b) ≡ of x) → ((d : ℕ) → of (with_remaining x d) ≡ of x) → of (aged x) ≡ of x
  unfolding aged
  aged_keeps x ends falls = go (is_timed x) (eqb x.wait.remaining 1)
    where
      go : (a b : Bool) → of (cond a (cond b (ended x (ran_out x) 0) (with_remaining x (x.wait.remaining - 1))) x) ≡ of x
      go true true = ends (ran_out x) 0
      go true false = falls (x.wait.remaining - 1)
      go false b = refl

-- ---- a tick's
code_out : (x : Task) → So (is_wait_code (ran_out x))
code_out x = go (is_asleep x)
  where
    go : (b : Bool) → So (is_wait_code (cond b 0 4))
    go true = tt
    go false = tt

pub sound_aged : (x : Task) → SoundTask x → SoundTask (aged x)
unfolding aged
sound_aged x k = go (is_timed x) (eqb x.wait.remaining 1) (λ h. (both (not (eqb x.wait.remaining 0)) (not (eqb x.wait.remaining endless)) h).0) refl
  where
    -- who has ticks left waits
    waits : 1 ≤ x.wait.remaining → x.wait.kind ≡ nothing → ⊥
    waits some e = omega (arith, k.free e)

    go : (a b : Bool) → (So a → So (not (eqb x.wait.remaining 0))) → eqb x.wait.remaining 1 ≡ b
        → SoundTask (cond a (cond b (ended x (ran_out x) 0) (with_remaining x (x.wait.remaining - 1))) x)
    go true true timed e = sound_ended x k (waiting_live x k (waits ((some_of x.wait.remaining).yields (timed tt)))) (ran_out x) 0 (code_out x)
    go true false timed e =
        let some : 1 ≤ x.wait.remaining = (some_of x.wait.remaining).yields (timed tt) in
        let more : x.wait.remaining ≡ 1 → ⊥ = eqb-false x.wait.remaining 1 e in
        sound_with_remaining x k (waiting_live x k (waits some)) (x.wait.remaining - 1) (omega arith) (waits some)
    go false b timed e = k

-- x waits where y does, for the same and asking for the same
abbrev pub WaitsAs : Task → Task → Type 0
WaitsAs x y = (row_of x ≡ row_of y) × (x.wait.kind ≡ y.wait.kind) × (x.wait.pattern ≡ y.wait.pattern) × (x.wait.mode ≡ y.wait.mode)

-- no tick makes anyone wait
pub aged_row : (x : Task) → (row_of (aged x) ≡ 0) ⊎ WaitsAs (aged x) x
unfolding aged row_of
aged_row x = go (is_timed x) (eqb x.wait.remaining 1)
  where
    z : Bool → Bool → Task
    z a b = cond a (cond b (ended x (ran_out x) 0) (with_remaining x (x.wait.remaining - 1))) x

    go : (a b : Bool) → (row_of (z a b) ≡ 0) ⊎ WaitsAs (z a b) x
    go true true = inl refl
    go true false = inr (refl, refl, refl, refl)
    go false b = inr (refl, refl, refl, refl)
