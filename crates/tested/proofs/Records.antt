-- The test of one task's record says that the record is sound; and a sound record's level is a row of the table of levels.
-- Rests on Says.
use mathlib.Core.Path.{◌≡◌, sym, ap, subst}
use mathlib.Core.Bool.{Bool, true, false, cond, ◌&&◌}
use mathlib.Core.Logic.{◌⊎◌, inl, inr, ⊎_elim}
use Prim.Native.Nat.{ℕ, ◌≤◌}
use native.Mathlib.Omega.{arith}
use lib.Dec.{T as So, eqb}
use Rattle.model.specs.declared.Wait.{Wait}
use Rattle.model.specs.declared.Task.{Task}
use Rattle.model.specs.Task.{no_wait, no_task, nothing, a_sleep, a_semaphore, a_flag, a_send, is_queue_wait, is_runnable, level_of}
use Rattle.model.specs.Plan.{is_semaphore, is_flag, is_queue}
use Rattle.model.specs.Test.{is_no_wait, is_blank, is_wait_code, is_resting, is_wait_sound, is_ask_sound, is_task_sound}
use Rattle.model.specs.Sound.{SoundTask}
use Rattle.laws.proofs.Number.{same?}
use Rattle.laws.proofs.Record.{OnQueue, sound_none}
use Rattle.laws.proofs.Waits.{SoundAsk, WaitOf, Resting, wait_of, ask_of, sound_of}
use Rattle.laws.proofs.Says.{Says, says_as, says_same, says_eq, says_le, says_not, says_and, says_or, says_implies, says_cond, says_within}

-- ---- all zeros
blank : (base priority active suspended wakeups activations code spare : ℕ) (wait : Wait) (handed charge entered : ℕ)
    → base ≡ 0 → priority ≡ 0 → active ≡ 0 → suspended ≡ 0 → wakeups ≡ 0 → activations ≡ 0 → code ≡ 0 → spare ≡ 0 → wait ≡ no_wait → handed ≡ 0 → charge ≡ 0 → entered ≡ 0
    → ◌≡◌ {A = Task} (record { base = base; priority = priority; active = active; suspended = suspended; wakeups = wakeups; activations = activations; code = code; spare = spare; wait = wait; handed = handed; charge = charge; entered = entered }) no_task
blank b p a s u v c n w h d t eb ep ea es eu ev ec en ew eh ed et = cc

unwaiting : (kind object mode spare remaining pattern : ℕ) → kind ≡ 0 → object ≡ 0 → mode ≡ 0 → spare ≡ 0 → remaining ≡ 0 → pattern ≡ 0
    → ◌≡◌ {A = Wait} (record { kind = kind; object = object; mode = mode; spare = spare; remaining = remaining; pattern = pattern }) no_wait
unwaiting k o m n r p ek eo em en er ep = cc

says_no_wait : (w : Wait) → Says (is_no_wait w) (w ≡ no_wait)
says_no_wait w = record {
  yields = λ t. let p = zeros.yields t in unwaiting w.kind w.object w.mode w.spare w.remaining w.pattern p.0 p.1.0 p.1.1.0 p.1.1.1.0 p.1.1.1.1.0 p.1.1.1.1.1;
  tests = λ e. subst (λ (v : Wait). So (is_no_wait v)) (sym e) tt;
}
  where
    zeros : Says (is_no_wait w) ((w.kind ≡ 0) × ((w.object ≡ 0) × ((w.mode ≡ 0) × ((w.spare ≡ 0) × ((w.remaining ≡ 0) × (w.pattern ≡ 0))))))
    zeros = says_and says_eq (says_and says_eq (says_and says_eq (says_and says_eq (says_and says_eq says_eq))))

pub says_blank : (x : Task) → Says (is_blank x) (x ≡ no_task)
says_blank x = record {
  yields = λ t. let p = zeros.yields t in let q = p.1.1.1.1 in
      blank x.base x.priority x.active x.suspended x.wakeups x.activations x.code x.spare x.wait x.handed x.charge x.entered
      p.0 p.1.0 p.1.1.0 p.1.1.1.0 q.0 q.1.0 q.1.1.0 q.1.1.1.0 q.1.1.1.1.0 q.1.1.1.1.1.0 q.1.1.1.1.1.1.0 q.1.1.1.1.1.1.1;
  tests = λ e. subst (λ (y : Task). So (is_blank y)) (sym e) tt;
}
  where
    zeros : Says (is_blank x) ((x.base ≡ 0) × ((x.priority ≡ 0) × ((x.active ≡ 0) × ((x.suspended ≡ 0) × ((x.wakeups ≡ 0) × ((x.activations ≡ 0) × ((x.code ≡ 0) × ((x.spare ≡ 0) × ((x.wait ≡ no_wait) × ((x.handed ≡ 0) × ((x.charge ≡ 0) × (x.entered ≡ 0))))))))))))
    zeros = says_and says_eq (says_and says_eq (says_and says_eq (says_and says_eq (says_and says_eq (says_and says_eq (says_and says_eq (says_and says_eq (says_and (says_no_wait x.wait) (says_and says_eq (says_and says_eq says_eq))))))))))

-- ---- one that is dormant, and what one waits for
says_resting : (x : Task) → Says (is_resting x) (Resting x)
says_resting x = says_as
    (λ p. let q = p.1.1.1.1 in (p.0, p.1.0, p.1.1.0, p.1.1.1.0, q.0, q.1.0, q.1.1.0, q.1.1.1))
    (λ p. (p.0, (p.1, (p.2, (p.3, (p.4, (p.5, (p.6, p.7))))))))
    (says_and says_eq (says_and says_eq (says_and says_eq (says_and says_eq (says_and says_eq (says_and says_eq (says_and says_eq says_eq)))))))

-- what the test says of a wait's object, in its own order
abbrev Object : Task → Type 0
Object x =
    (x.wait.kind ≡ a_sleep → (x.wait.object ≡ 0) × (x.wakeups ≡ 0))
    × ((x.wait.kind ≡ a_sleep → ⊥) → (x.wait.kind ≡ a_semaphore → (1 ≤ x.wait.object) × (x.wait.object ≤ 12))
    × ((x.wait.kind ≡ a_semaphore → ⊥) → (x.wait.kind ≡ a_flag → (1 ≤ x.wait.object) × (x.wait.object ≤ 8))
    × ((x.wait.kind ≡ a_flag → ⊥) → OnQueue x × ((1 ≤ x.wait.object) × (x.wait.object ≤ 8)))))

says_object : (x : Task) → Says (cond (eqb x.wait.kind a_sleep) (eqb x.wait.object 0 && eqb x.wakeups 0)
    (cond (eqb x.wait.kind a_semaphore) (is_semaphore x.wait.object) (cond (eqb x.wait.kind a_flag) (is_flag x.wait.object) (is_queue_wait x.wait && is_queue x.wait.object)))) (Object x)
says_object x = says_cond says_eq (says_and says_eq says_eq) (says_cond says_eq says_within (says_cond says_eq says_within (says_and (says_or says_eq says_eq) says_within)))

-- what is waited for, where that is none of the first kinds
abbrev Kind : Task → Type 0
Kind x = (x.wait.kind ≡ nothing) ⊎ ((x.wait.kind ≡ a_sleep) ⊎ ((x.wait.kind ≡ a_semaphore) ⊎ ((x.wait.kind ≡ a_flag) ⊎ OnQueue x)))

says_wait : (x : Task) → Says (is_wait_sound x) (WaitOf x)
says_wait x = says_as
    (λ p. let on : (x.wait.kind ≡ nothing → ⊥) → Object x = λ n. (p.1 n).1.1.1 in record {
      wait = kind on (same? x.wait.kind nothing) (same? x.wait.kind a_sleep) (same? x.wait.kind a_semaphore) (same? x.wait.kind a_flag);
      waiting = λ n. ((p.1 n).0, (p.1 n).1.0, (p.1 n).1.1.0);
      free = λ e. ((p.0 e).1, (p.0 e).0);
      sleeper = λ e. let q = (on (λ k. omega arith)).0 e in (q.1, q.0);
      object = λ e. ((on (λ k. omega arith)).1 (λ k. omega arith)).0 e;
      flag = λ e. (((on (λ k. omega arith)).1 (λ k. omega arith)).1 (λ k. omega arith)).0 e;
      queue = λ o. let far : 4 ≤ x.wait.kind = beyond o in ((((on (λ k. omega arith)).1 (λ k. omega arith)).1 (λ k. omega arith)).1 (λ k. omega arith)).1;
    })
    (λ h. (
      λ e. ((h.free e).1, (h.free e).0),
      λ n. let w = h.waiting n in (
        w.0,
        (
          w.1,
          (
            w.2,
            (
              λ e. ((h.sleeper e).1, (h.sleeper e).0),
              λ d. (h.object, λ c. (h.flag, λ b. let o = last n d c b h.wait in (o, h.queue o))),
            ),
          ),
        ),
      ),
    ))
    (says_cond says_eq (says_and says_eq says_eq) (says_and says_le (says_and says_eq (says_and says_eq (says_object x)))))
  where
    beyond : OnQueue x → 4 ≤ x.wait.kind
    beyond (inl e) = omega arith
    beyond (inr e) = omega arith

    kind : ((x.wait.kind ≡ nothing → ⊥) → Object x) → (x.wait.kind ≡ nothing) ⊎ (x.wait.kind ≡ nothing → ⊥) → (x.wait.kind ≡ a_sleep) ⊎ (x.wait.kind ≡ a_sleep → ⊥)
        → (x.wait.kind ≡ a_semaphore) ⊎ (x.wait.kind ≡ a_semaphore → ⊥) → (x.wait.kind ≡ a_flag) ⊎ (x.wait.kind ≡ a_flag → ⊥) → Kind x
    kind on (inl e) b c d = inl e
    kind on (inr n) (inl e) c d = inr (inl e)
    kind on (inr n) (inr m) (inl e) d = inr (inr (inl e))
    kind on (inr n) (inr m) (inr l) (inl e) = inr (inr (inr (inl e)))
    kind on (inr n) (inr m) (inr l) (inr k) = inr (inr (inr (inr ((((on n).1 m).1 l).1 k).0)))

    last : (x.wait.kind ≡ nothing → ⊥) → (x.wait.kind ≡ a_sleep → ⊥) → (x.wait.kind ≡ a_semaphore → ⊥) → (x.wait.kind ≡ a_flag → ⊥) → Kind x → OnQueue x
    last n d c b (inl e) = absurd (n e)
    last n d c b (inr (inl e)) = absurd (d e)
    last n d c b (inr (inr (inl e))) = absurd (c e)
    last n d c b (inr (inr (inr (inl e)))) = absurd (b e)
    last n d c b (inr (inr (inr (inr o)))) = o

-- what a flag wait asks for, and what a sender waits with
says_ask : (w : Wait) → Says (is_ask_sound w) (SoundAsk w)
says_ask w = says_as
    (λ p. record { asks = λ e. let q = p.0 e in (some q.0, q.1); modeless = λ n. (p.1 n).1; silent = λ n m. ⊎_elim (λ (e : w.kind ≡ a_send). absurd (m e)) (λ (e : w.pattern ≡ 0). e) (p.1 n).0 })
    (λ h. (λ e. (λ z. omega (arith, h.asks e), (h.asks e).1), λ n. (⊎_elim (λ (e : w.kind ≡ a_send). inl e) (λ (m : w.kind ≡ a_send → ⊥). inr (h.silent n m)) (same? w.kind a_send), h.modeless n)))
    (says_cond says_eq (says_and (says_not says_eq) says_le) (says_and (says_or says_eq says_eq) says_eq))
  where
    some : (w.pattern ≡ 0 → ⊥) → 1 ≤ w.pattern
    some n = omega arith

-- ---- the whole record
-- what the test says of one that is created, in its own order
abbrev Made : Task → Type 0
Made x =
    ((1 ≤ x.base) × (x.base ≤ 30)) × (((1 ≤ x.priority) × (x.priority ≤ 30)) × ((x.active ≤ 1) × ((x.suspended ≤ 1) × ((x.wakeups ≤ 1)
    × ((x.activations ≤ 1) × (So (is_wait_code x.code) × ((x.active ≡ 0 → Resting x) × (WaitOf x × (SoundAsk x.wait × ((x.spare ≡ 0) × (x.wait.spare ≡ 0)))))))))))

made_sound : (x : Task) → Made x → SoundTask x
made_sound x p =
    let q = p.1.1.1.1 in
    sound_of x p.0 p.1.0 p.1.1.0 p.1.1.1.0 q.0 q.1.0 q.1.1.0 q.1.1.1.1.1.1 q.1.1.1.0 q.1.1.1.1.0 q.1.1.1.1.1.0

sound_made : (x : Task) → SoundTask x → (x.base ≡ 0 → ⊥) → Made x
sound_made x h n =
    let some : 1 ≤ x.base = omega arith in
    ((some, h.base), (h.priority some, (h.active, (h.suspended, (h.wakeups, (h.activations, (h.code, (h.dormant, (wait_of x h, (ask_of x h, h.spare))))))))))

pub says_task : (x : Task) → Says (is_task_sound x) (SoundTask x)
unfolding is_task_sound
says_task x = says_as
    (λ p. ⊎_elim
    (λ (e : x.base ≡ 0). subst SoundTask (sym (p.1 (λ n. n e))) sound_none)
    (λ (n : x.base ≡ 0 → ⊥). made_sound x (p.0 n))
    (same? x.base 0))
    (λ h. (sound_made x h, λ k. ⊎_elim (λ (e : x.base ≡ 0). h.blank e) (λ (n : x.base ≡ 0 → ⊥). absurd (k n)) (same? x.base 0)))
    (says_cond (says_not says_eq)
    (says_and says_within (says_and says_within (says_and says_le (says_and says_le (says_and says_le
    (says_and says_le (says_and (says_same (is_wait_code x.code)) (says_and (says_implies says_eq (says_resting x)) (says_and (says_wait x) (says_and (says_ask x.wait) (says_and says_eq says_eq)))))))))))
    (says_blank x))

-- ---- the queues that list it
module _ (x : Task) (h : SoundTask x) where
  pub level_most : level_of x ≤ 30
  unfolding level_of
  level_most = go (is_runnable x)
    where
      priority_most : x.priority ≤ 30
      priority_most = ⊎_elim
          (λ (e : x.base ≡ 0). let k : x.priority ≡ 0 = ap (λ (y : Task). y.priority) (h.blank e) in omega arith)
          (λ (n : x.base ≡ 0 → ⊥). (h.priority (omega arith)).1)
          (same? x.base 0)

      go : (b : Bool) → cond b x.priority 0 ≤ 30
      go true = priority_most
      go false = omega arith
