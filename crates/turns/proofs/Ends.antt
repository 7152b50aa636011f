-- The record of a task whose own wait a tick, a stop or a deletion ends: after all the moves that these make, it is over.
-- It goes by the effects of model/specs/Effect, one move after the other.
use mathlib.Core.Path.{◌≡◌, refl, ap, ◌∙◌}
use mathlib.Core.Bool.{Bool, true, false, cond}
use mathlib.Core.List.{List, [], ◌∷◌}
use mathlib.Core.Logic.{◌⊎◌, inl, inr, ⊎_elim}
use Prim.Native.Nat.{ℕ, zero, suc, ◌+◌, ◌-◌, ◌≤◌, ◌<◌}
use native.Mathlib.Omega.{arith}
use lib.Dec.{T as So, eqb}
use lib.ListN.{length}
use borrow.Author.Tests.{eq-eqb, ne_eqb}
use Rattle.model.specs.declared.Task.{Task}
use Rattle.model.specs.declared.State.{State}
use Rattle.model.specs.declared.News.TheVariants.{Deleted}
use Rattle.model.specs.Task.{nothing, a_sleep, is_timed, ran_out, timeout, dlt, row_of, dormant, activated, ended, with_remaining, settled, aged, told}
use Rattle.model.specs.State.{task, time, moved}
use Rattle.model.specs.Code.{wait_number}
use Rattle.model.specs.Effect.{stopped, told_all, lapsed}
use Rattle.model.specs.Test.{occ, padded}
use Rattle.laws.proofs.Number.{same?}
use Rattle.laws.proofs.Occ.{one_ne, occ_none, occ_cons}
use Rattle.laws.proofs.Padded.{padded_rest, first_none}
use Rattle.laws.proofs.Record.{row_waits}
use Rattle.soundness.proofs.Moved.{task_kept, task-moved, tasks-moved}
use Rattle.turns.specs.Statements.{Ended}

-- ---- a tick
lapsed_past : (n i : ℕ) (s : State) (t : ℕ) → t < i → task (lapsed n i s) t ≡ task s t
unfolding lapsed
lapsed_past zero i s t h = refl
lapsed_past (suc n) i s t h =
    lapsed_past n (suc i) (moved i (aged (task s i)) s) t (omega arith) ∙ task_kept s i (aged (task s i)) t (λ z. omega arith)

pub lapsed_at : (n i : ℕ) (s : State) (t : ℕ) → t < length s.tasks → i ≤ t → t < n + i → task (lapsed n i s) t ≡ settled (time s) (task s t) (aged (task s t))
unfolding lapsed moved
lapsed_at zero i s t long low top = absurd (omega arith)
lapsed_at (suc n) i s t long low top = ⊎_elim
    (λ (e : i ≡ t). lapsed_past n (suc i) (moved i (aged (task s i)) s) t (omega arith) ∙ ap (λ j. task (moved j (aged (task s j)) s) t) e ∙ task-moved s t (aged (task s t)) long)
    (λ (apart : i ≡ t → ⊥). lapsed_at n (suc i) (moved i (aged (task s i)) s) t (rw (tasks-moved s i (aged (task s i))) long) (omega arith) (omega arith)
    ∙ ap (λ y. settled (time s) y (aged y)) (task_kept s i (aged (task s i)) t apart))
    (same? i t)

-- who waits on an object waits on, or has run out of time
pub aged_waits : (x : Task) (m : ℕ) → 1 ≤ m → row_of x ≡ m → (row_of (aged x) ≡ m) ⊎ (((aged x).wait.kind ≡ nothing) × ((aged x).code ≡ timeout))
unfolding aged row_of
aged_waits x m some e = go (is_timed x) (eqb x.wait.remaining 1)
  where
    awake : ran_out x ≡ timeout
    awake = rw (ne_eqb x.wait.kind a_sleep (λ z. omega (arith, row_waits x (omega arith))))

    go : (a b : Bool) → (row_of (cond a (cond b (ended x (ran_out x) 0) (with_remaining x (x.wait.remaining - 1))) x) ≡ m)
        ⊎ (((cond a (cond b (ended x (ran_out x) 0) (with_remaining x (x.wait.remaining - 1))) x).wait.kind ≡ nothing)
        × ((cond a (cond b (ended x (ran_out x) 0) (with_remaining x (x.wait.remaining - 1))) x).code ≡ timeout))
    go true true = inr (refl, awake)
    go true false = inl e
    go false b = inl e

-- ---- a stop
pub stopped_at : (s : State) (t : ℕ) → t < length s.tasks → (task (stopped t s) t).wait.kind ≡ nothing
unfolding stopped
stopped_at s t long = go (eqb (task s t).activations 0)
  where
    x : Task
    x = dormant (task s t).base

    go : (b : Bool) → (task (cond b (moved t x s) (moved t (activated x) (moved t x s))) t).wait.kind ≡ nothing
    go true = rw (task-moved s t x long)
    go false = rw (task-moved (moved t x s) t (activated x) (rw (tasks-moved s t x) long))

-- ---- a deletion
pub ended_at : (q : List ℕ) (s : State) (t : ℕ) → 1 ≤ t → t < length s.tasks → So (padded q) → Ended s t (wait_number dlt) ⊎ (1 ≤ occ t q) → Ended (told_all Deleted q s) t (wait_number dlt)
unfolding told_all told
ended_at [] s t some long ends (inl done) = done
ended_at [] s t some long ends (inr there) = absurd (omega (arith, occ_none t))
ended_at (u ∷ q) s t some long ends w = ⊎_elim
    (λ (z : u ≡ 0). rw (eq-eqb u 0 z) (here z w))
    (λ (n : u ≡ 0 → ⊥). rw (ne_eqb u 0 n) (ended_at q s₁ t some (rw (tasks-moved s u (ended (task s u) dlt 0)) long) (padded_rest u q ends) (on (same? u t) w)))
    (same? u 0)
  where
    s₁ : State
    s₁ = moved u (ended (task s u) dlt 0) s

    here : u ≡ 0 → Ended s t (wait_number dlt) ⊎ (1 ≤ occ t (u ∷ q)) → Ended s t (wait_number dlt)
    here z (inl done) = done
    here z (inr there) = absurd (omega (arith, first_none (u ∷ q) ends z t some))

    on : (u ≡ t) ⊎ (u ≡ t → ⊥) → Ended s t (wait_number dlt) ⊎ (1 ≤ occ t (u ∷ q)) → Ended s₁ t (wait_number dlt) ⊎ (1 ≤ occ t q)
    on (inl e) w = let z : task s₁ t ≡ settled (time s) (task s t) (ended (task s t) dlt 0) = ap (λ i. task (moved i (ended (task s i) dlt 0) s) t) e ∙ task-moved s t (ended (task s t) dlt 0) long in inl (record { over = rw z; code = rw z })
    on (inr apart) (inl done) = let z = task_kept s u (ended (task s u) dlt 0) t apart in inl (record { over = rw z done.over; code = rw z done.code })
    on (inr apart) (inr there) = inr (omega (arith, occ_cons t u q, one_ne u t apart))
