-- Whose wait on a semaphore ends with 0 at a release of it: one task's if somebody waits, and nobody's else.
-- It goes by the definition of `waits_ended` in specs/Tally, and by who stands first among the waiters of a sound state (soundness).
use mathlib.Core.Path.{◌≡◌, refl}
use mathlib.Core.Bool.{Bool, true, false, not, ◌&&◌}
use mathlib.Core.Logic.{⊎_elim}
use Prim.Native.Nat.{ℕ, zero, suc, ◌≤◌}
use native.Mathlib.Omega.{arith}
use lib.Dec.{eqb}
use borrow.Author.Tests.{eq-eqb, ne_eqb}
use Rattle.model.specs.declared.Task.{Task}
use Rattle.model.specs.declared.State.{State}
use Rattle.model.specs.Row.{first_of}
use Rattle.model.specs.Task.{nothing, served, is_waiting, row_of, ended}
use Rattle.model.specs.State.{task, moved}
use Rattle.model.specs.Sound.{Sound}
use Rattle.laws.proofs.Number.{same?}
use Rattle.laws.proofs.Record.{row_waits}
use Rattle.soundness.proofs.Told.{waiter_in, first_waits, no_waiter}
use Rattle.soundness.proofs.Moved.{task_kept, task-moved}
use Rattle.turns.specs.Tally.{ends_with0, waits_ended}

-- ---- how many end, by who does
module _ (s s' : State) (m : ℕ) where
  ended_none : (n : ℕ) → ((t : ℕ) → t ≤ n → ends_with0 s s' m t ≡ false) → waits_ended s s' m n ≡ 0
  unfolding waits_ended
  ended_none zero none = refl
  ended_none (suc n) none = rw (none (suc n) (omega arith)) (omega (arith, ended_none n (λ t low. none t (omega arith))))

  ended_one : (n u : ℕ) → 1 ≤ u → u ≤ n → ends_with0 s s' m u ≡ true → ((t : ℕ) → (u ≡ t → ⊥) → ends_with0 s s' m t ≡ false) → waits_ended s s' m n ≡ 1
  unfolding waits_ended
  ended_one zero u some low here others = absurd (omega arith)
  ended_one (suc n) u some low here others = ⊎_elim
      (λ (e : u ≡ suc n). rw (← e, here) (omega (arith, ended_none n (λ t top. others t (λ z. omega arith)))))
      (λ (apart : u ≡ suc n → ⊥). rw (others (suc n) apart) (omega (arith, ended_one n u some (omega arith) here others)))
      (same? u (suc n))

-- who still waits on m has not ended
waits_on : (x : Task) (m : ℕ) → 1 ≤ m → (b : Bool) → eqb (row_of x) m && (not (is_waiting x) && b) ≡ false
waits_on x m some b = ⊎_elim
    (λ (e : row_of x ≡ m). rw (eq-eqb (row_of x) m e, ne_eqb x.wait.kind nothing (λ z. omega (arith, row_waits x (omega arith)))))
    (λ (apart : row_of x ≡ m → ⊥). rw (ne_eqb (row_of x) m apart))
    (same? (row_of x) m)

-- ---- at a release
module _ (s : State) (k : Sound s) (m : ℕ) (low : 1 ≤ m) (top : m ≤ 12) where
  -- the first waiter's wait ends, and no other's
  pub one_is_served : 1 ≤ first_of s.waits m → waits_ended s (moved (first_of s.waits m) (ended (task s (first_of s.waits m)) served 0) s) m 24 ≡ 1
  one_is_served some = ended_one s (moved u x s) m 24 u some waits.1 here others
    where
      u : ℕ
      u = first_of s.waits m

      x : Task
      x = ended (task s u) served 0

      on : row_of (task s u) ≡ m
      on = first_waits s k m (omega arith) some

      waits : (1 ≤ u) × (u ≤ 24)
      waits = waiter_in s k u (omega (arith, on))

      here : ends_with0 s (moved u x s) m u ≡ true
      here = rw (task-moved s u x (omega (arith, k.tasks#, waits)), eq-eqb (row_of (task s u)) m on)

      others : (t : ℕ) → (u ≡ t → ⊥) → ends_with0 s (moved u x s) m t ≡ false
      others t apart = rw (task_kept s u x t apart) (waits_on (task s t) m low (eqb (task s t).code served))

  -- where nobody waits, none ends
  pub nobody_is_served : (s' : State) → first_of s.waits m ≡ 0 → waits_ended s s' m 24 ≡ 0
  nobody_is_served s' free = ended_none s s' m 24 (λ t _. rw (ne_eqb (row_of (task s t)) m (no_waiter s k m low (omega arith) free t)))
