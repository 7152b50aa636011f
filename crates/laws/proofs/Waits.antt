-- The clauses of a sound record that are about its wait, as two records over the wait alone; and a created task's record, put together from its clauses.
-- They rest on `SoundTask` of model/specs/Sound.
use mathlib.Core.Path.{◌≡◌, refl}
use mathlib.Core.Logic.{◌⊎◌, inl, ⊎_elim}
use Prim.Native.Nat.{ℕ, ◌≤◌}
use native.Mathlib.Omega.{arith}
use lib.Dec.{T as So}
use Rattle.model.specs.declared.Wait.{Wait}
use Rattle.model.specs.declared.Task.{Task}
use Rattle.model.specs.Task.{no_wait, nothing, a_sleep, a_semaphore, a_flag, a_send, a_receive}
use Rattle.model.specs.Test.{is_wait_code}
use Rattle.model.specs.Sound.{SoundTask}

-- a wait at n wakeups, code v and bits b
pub record SoundWait (w : Wait) (n v b : ℕ) : Type 0 where
  pub wait : (w.kind ≡ nothing) ⊎ ((w.kind ≡ a_sleep) ⊎ ((w.kind ≡ a_semaphore) ⊎ ((w.kind ≡ a_flag) ⊎ ((w.kind ≡ a_send) ⊎ (w.kind ≡ a_receive)))))
  pub waiting : (w.kind ≡ nothing → ⊥) → (1 ≤ w.remaining) × (v ≡ 0) × (b ≡ 0)
  pub free : w.kind ≡ nothing → (w.remaining ≡ 0) × (w.object ≡ 0)
  pub sleeper : w.kind ≡ a_sleep → (n ≡ 0) × (w.object ≡ 0)
  pub object : w.kind ≡ a_semaphore → (1 ≤ w.object) × (w.object ≤ 12)
  pub flag : w.kind ≡ a_flag → (1 ≤ w.object) × (w.object ≤ 8)
  pub queue : (w.kind ≡ a_send) ⊎ (w.kind ≡ a_receive) → (1 ≤ w.object) × (w.object ≤ 8)

-- what it asks for
pub record SoundAsk (w : Wait) : Type 0 where
  pub asks : w.kind ≡ a_flag → (1 ≤ w.pattern) × (w.mode ≤ 1)
  pub modeless : (w.kind ≡ a_flag → ⊥) → w.mode ≡ 0
  pub silent : (w.kind ≡ a_flag → ⊥) → (w.kind ≡ a_send → ⊥) → w.pattern ≡ 0

-- only a flag wait asks for anything, and a sender waits with an element
pub unasked : (w : Wait) → (w.kind ≡ a_flag → ⊥) → w.mode ≡ 0 → ((w.kind ≡ a_send → ⊥) → w.pattern ≡ 0) → SoundAsk w
unasked w other mode none = record { asks = λ e. absurd (other e); modeless = λ n. mode; silent = λ n. none }

-- no wait
pub wait_none : (n v b : ℕ) → SoundWait no_wait n v b
wait_none n v b = record {
  wait = inl refl;
  waiting = λ waits. absurd (waits refl);
  free = λ e. (refl, refl);
  sleeper = λ e. absurd (omega arith);
  object = λ e. absurd (omega arith);
  flag = λ e. absurd (omega arith);
  queue = ⊎_elim (λ e. absurd (omega arith)) (λ e. absurd (omega arith));
}

pub ask_none : SoundAsk no_wait
ask_none = unasked no_wait (λ e. omega arith) refl (λ n. refl)

-- ---- of a record
abbrev pub WaitOf : Task → Type 0
WaitOf x = SoundWait x.wait x.wakeups x.code x.handed

-- what a dormant one has
abbrev pub Resting : Task → Type 0
Resting x = (x.wait.kind ≡ nothing) × (x.suspended ≡ 0) × (x.wakeups ≡ 0) × (x.activations ≡ 0) × (x.code ≡ 0) × (x.handed ≡ 0) × (x.entered ≡ 0) × (x.priority ≡ x.base)

module _ (x : Task) where
  pub wait_of : SoundTask x → WaitOf x
  wait_of k = record { wait = k.wait; waiting = k.waiting; free = k.free; sleeper = k.sleeper; object = k.object; flag = k.flag; queue = k.queue }

  pub ask_of : SoundTask x → SoundAsk x.wait
  ask_of k = record { asks = k.asks; modeless = k.modeless; silent = k.silent }

  pub sound_of : (1 ≤ x.base) × (x.base ≤ 30) → (1 ≤ x.priority) × (x.priority ≤ 30) → x.active ≤ 1 → x.suspended ≤ 1 → x.wakeups ≤ 1 → x.activations ≤ 1
      → So (is_wait_code x.code) → (x.spare ≡ 0) × (x.wait.spare ≡ 0) → (x.active ≡ 0 → Resting x) → WaitOf x → SoundAsk x.wait → SoundTask x
  sound_of base priority active suspended wakeups activations code spare dormant w a = record {
    blank = λ e. absurd (omega arith);
    base = base.1;
    priority = λ h. priority;
    active = active;
    suspended = suspended;
    wakeups = wakeups;
    activations = activations;
    code = code;
    spare = spare;
    dormant = dormant;
    wait = w.wait;
    waiting = w.waiting;
    free = w.free;
    sleeper = w.sleeper;
    object = w.object;
    flag = w.flag;
    queue = w.queue;
    asks = a.asks;
    modeless = a.modeless;
    silent = a.silent;
  }
