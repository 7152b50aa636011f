-- What soundness says of the levels and charges alone: it outlasts any move of a task, whatever record the task gets.
-- It rests on the tables' laws in Listed and on the laws of charges (Charges); Changes has the rest of soundness.
use mathlib.Core.Path.{◌≡◌, sym, ap, ◌∙◌, subst}
use mathlib.Core.List.{List}
use mathlib.Core.Logic.{⊎_elim}
use Prim.Native.Nat.{ℕ, ◌≤◌, ◌<◌}
use native.Mathlib.Omega.{arith}
use lib.ListN.{length, get_or-eq_default}
use Rattle.model.specs.declared.Queue.{Queue}
use Rattle.model.specs.declared.Task.{Task}
use Rattle.model.specs.declared.State.{State}
use Rattle.model.specs.Row.{relisted}
use Rattle.model.specs.Task.{no_task, level_of, settled}
use Rattle.model.specs.State.{task, time, moved}
use Rattle.model.specs.Sound.{Lists, SoundSlices, SoundCharge, Sound}
use Rattle.laws.proofs.Number.{same?}
use Rattle.laws.proofs.Record.{level_none, level_settled}
use Rattle.soundness.proofs.Listed.{lists_relisted}
use Rattle.soundness.proofs.Moved.{task-moved, task_kept, tasks-moved}
use Rattle.soundness.proofs.Charges.{charge_settled, charge_kept}

pub record Orderly (s : State) : Type 0 where
  pub tasks# : length s.tasks ≡ 25
  pub nobody : task s 0 ≡ no_task
  pub levels : Lists s.levels 31 (λ t. level_of (task s t))
  pub slices : SoundSlices s.numbers.slices
  pub charges : (t : ℕ) → SoundCharge s.levels s.numbers.slices t (task s t)

pub sound_orderly : {s : State} → Sound s → Orderly s
sound_orderly k = record { tasks# = k.tasks#; nobody = k.nobody; levels = k.levels; slices = k.slices; charges = k.charges }

module _ (s : State) (k : Orderly s) where
  -- ---- who has a key is one of the tasks
  pub no_task_lem : (t : ℕ) → 24 < t → task s t ≡ no_task
  no_task_lem t h = get_or-eq_default s.tasks no_task (omega (arith, k.tasks#))

  pub task_in : (key : Task → ℕ) → key no_task ≡ 0 → (t : ℕ) → 1 ≤ key (task s t) → (1 ≤ t) × (t ≤ 24)
  task_in key z t h =
      let low : t ≡ 0 → ⊥ = λ e. omega (arith, ap (λ u. key (task s u)) e ∙ ap key k.nobody ∙ z) in
      let top : 24 < t → ⊥ = λ out. omega (arith, ap key (no_task_lem t out) ∙ z) in
      (omega arith, omega arith)

  -- ---- a task moves
  module _ (t : ℕ) (x : Task) (some : 1 ≤ t) (top : t ≤ 24) where
    pub task_now : task (moved t x s) t ≡ settled (time s) (task s t) x
    task_now = task-moved s t x (omega (arith, k.tasks#))

    pub task_else : (u : ℕ) → (u ≡ t → ⊥) → task (moved t x s) u ≡ task s u
    task_else u other = task_kept s t x u (λ e. other (sym e))

    -- what holds of its new record, and of the others', holds of each
    pub task_cases : (P : Task → Type 0) (u : ℕ) → (u ≡ t → P (settled (time s) (task s t) x)) → ((u ≡ t → ⊥) → P (task s u)) → P (task (moved t x s) u)
    task_cases P u here else = ⊎_elim
        (λ (e : u ≡ t). subst P (sym (ap (task (moved t x s)) e ∙ task_now)) (here e))
        (λ (other : u ≡ t → ⊥). subst P (sym (task_else u other)) (else other))
        (same? u t)

    -- its level is its new record's
    level_now : level_of (task (moved t x s) t) ≡ level_of x
    level_now = ap level_of task_now ∙ level_settled (time s) (task s t) x

    abbrev moves : List Queue
    moves = relisted s.levels (level_of (task s t)) (level_of x) t

    pub orderly_moved : Orderly (moved t x s)
    unfolding moved
    orderly_moved = record {
      tasks# = tasks-moved s t x ∙ k.tasks#;
      nobody = task_else 0 (λ e. omega arith) ∙ k.nobody;
      levels = lists_relisted s.levels 31 (λ u. level_of (task s u)) k.levels t (level_of x) some top (λ u h. ap level_of (no_task_lem u h) ∙ level_none)
          (λ u. level_of (task (moved t x s) u)) level_now (λ u other. ap level_of (task_else u other));
      slices = k.slices;
      charges = λ u. task_cases (SoundCharge moves s.numbers.slices u) u
          (λ e. rw e (charge_settled s.levels s.numbers.slices k.slices (time s) t (task s t) x (k.charges t)))
          (λ other. charge_kept s.levels s.numbers.slices k.slices (time s) t (task s t) x u (task s u) other (λ h. (task_in level_of level_none u h).0) (k.charges u));
    }
