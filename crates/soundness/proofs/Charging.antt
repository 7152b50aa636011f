-- A task marked, a level sliced and a level turned leave a sound state sound.
-- It rests on the laws of charges (Charges) and of stored numbers (Changes); a change of marks alone touches no queue.
use mathlib.Core.Path.{◌≡◌, refl, sym, ap, ◌∙◌}
use mathlib.Core.List.{List}
use mathlib.Core.Logic.{inl, ⊎_elim}
use mathlib.Core.Bool.{cond}
use Prim.Native.Nat.{ℕ, ◌≤◌, ◌<◌}
use native.Mathlib.Omega.{arith}
use lib.Dec.{eqb}
use lib.ListN.{length, get_or, set, length-set}
use lib.Seq.{get_or-set_same, get_or-set_other, set_out}
use borrow.Author.Tests.{eq-eqb, ne_eqb}
use Rattle.model.specs.declared.Task.{Task}
use Rattle.model.specs.declared.State.{State}
use Rattle.model.specs.Row.{first_of}
use Rattle.model.specs.Task.{no_task, level_of, row_of, with_marks}
use Rattle.model.specs.State.{task, slice, sliced, marked, recharged, rotated}
use Rattle.model.specs.Sound.{SoundSlices, SoundCharge, Sound}
use Rattle.laws.proofs.Number.{same?, below?}
use Rattle.laws.proofs.Record.{level_none, level_marks, row_marks, sound_marks}
use Rattle.soundness.proofs.Listed.{lists_same, lists_turned}
use Rattle.soundness.proofs.Charges.{charge_none, charge-turned}
use Rattle.soundness.proofs.Orderly.{sound_orderly, no_task_lem}
use Rattle.soundness.proofs.Changes.{stored, semaphores_of, flags_of, renumbered}
use Rattle.soundness.proofs.Stocks.{unserved, queues_of_lem}

-- ---- marks
-- the same records with other marks: charges that are sound by themselves, and no time of entry of a dormant one
module _ (s : State) (k : Sound s) (xs : List Task) (n e : ℕ → ℕ) (long : length xs ≡ 25) (at : (u : ℕ) → get_or xs u no_task ≡ with_marks (task s u) (n u) (e u))
    (fits : (u : ℕ) → SoundCharge s.levels s.numbers.slices u (with_marks (task s u) (n u) (e u))) (rests : (u : ℕ) → (task s u).active ≡ 0 → e u ≡ 0) where
  none : (u : ℕ) → task s u ≡ no_task → n u ≡ 0
  none u z = charge_none s.levels s.numbers.slices k.slices u (with_marks (task s u) (n u) (e u)) (fits u) (level_marks (task s u) (n u) (e u) ∙ ap level_of z ∙ level_none)

  row : (u : ℕ) → row_of (get_or xs u no_task) ≡ row_of (task s u)
  row u = ap row_of (at u) ∙ row_marks (task s u) (n u) (e u)

  marked_anew : Sound (record { tasks = xs; levels = s.levels; waits = s.waits; numbers = s.numbers })
  marked_anew = record {
    tasks# = long;
    nobody = rw (at 0, none 0 k.nobody, rests 0 (ap (λ (y : Task). y.active) k.nobody), k.nobody);
    tasks = λ u. rw (at u) (sound_marks (task s u) (n u) (e u) (k.tasks u) (λ z. none u ((k.tasks u).blank z)) (rests u));
    levels = lists_same s.levels 31 (λ u. level_of (task s u)) (λ u. level_of (get_or xs u no_task)) (λ u. ap level_of (at u) ∙ level_marks (task s u) (n u) (e u)) k.levels;
    waits = lists_same s.waits 29 (λ u. row_of (task s u)) (λ u. row_of (get_or xs u no_task)) row k.waits;
    slices = k.slices;
    charges = λ u. rw (at u) (fits u);
    semaphores = semaphores_of k.semaphores (λ m u low top z. k.semaphores.waited m u low top (sym (row u) ∙ z));
    flags = flags_of k.flags
        (λ f u low top z. rw (at u) (k.flags.unmet f u low top (sym (row u) ∙ z)))
        (λ f u v low top one y z. k.flags.single f u v low top one (sym (row u) ∙ y) (sym (row v) ∙ z));
    queues = queues_of_lem k.queues
        (λ q u low top z. rw (at u) (unserved k.queues q u low top (sym (row u) ∙ z)))
        (λ q u v low top y z. rw (at u, at v) (k.queues.alike q u v low top (sym (row u) ∙ y) (sym (row v) ∙ z)));
  }

-- task t has charge n and entered its level at e: no charge, or as the first of its level one below the slice; if dormant, no time of entry
module _ (s : State) (k : Sound s) (t n e : ℕ) (fits : SoundCharge s.levels s.numbers.slices t (with_marks (task s t) n e)) (rests : (task s t).active ≡ 0 → e ≡ 0) where
  -- the marks of each task
  abbrev charges : ℕ → ℕ
  charges u = cond (eqb u t) n (task s u).charge

  abbrev entries : ℕ → ℕ
  entries u = cond (eqb u t) e (task s u).entered

  -- past the tables nothing is stored, and nothing was to be
  past : 24 < t → with_marks (task s t) n e ≡ task s t
  past h =
      let z : task s t ≡ no_task = no_task_lem s (sound_orderly k) t h in
      let y : n ≡ 0 = charge_none s.levels s.numbers.slices k.slices t (with_marks (task s t) n e) fits (level_marks (task s t) n e ∙ ap level_of z ∙ level_none) in
      rw (z, y, rests (ap (λ (x : Task). x.active) z))

  pub marks_after : (u : ℕ) → task (marked t n e s) u ≡ with_marks (task s u) (charges u) (entries u)
  unfolding marked
  marks_after u = ⊎_elim
      (λ (z : u ≡ t). rw (z, eq-eqb t t refl) (⊎_elim
      (λ (h : t < length s.tasks). get_or-set_same s.tasks t (with_marks (task s t) n e) no_task h)
      (λ (h : length s.tasks ≤ t). rw (set_out s.tasks t (with_marks (task s t) n e) h) (sym (past (omega (arith, k.tasks#)))))
      (below? t (length s.tasks))))
      (λ (other : u ≡ t → ⊥). rw (ne_eqb u t other) (get_or-set_other s.tasks t u (with_marks (task s t) n e) no_task other))
      (same? u t)

  pub sound_marked : Sound (marked t n e s)
  unfolding marked
  sound_marked = marked_anew s k (set s.tasks t (with_marks (task s t) n e)) charges entries (length-set s.tasks t (with_marks (task s t) n e) ∙ k.tasks#) marks_after fit rest
    where
      fit : (u : ℕ) → SoundCharge s.levels s.numbers.slices u (with_marks (task s u) (charges u) (entries u))
      fit u = ⊎_elim
          (λ (z : u ≡ t). rw (z, eq-eqb t t refl) fits)
          (λ (other : u ≡ t → ⊥). rw (ne_eqb u t other) (k.charges u))
          (same? u t)

      rest : (u : ℕ) → (task s u).active ≡ 0 → entries u ≡ 0
      rest u h = ⊎_elim
          (λ (z : u ≡ t). rw (z, eq-eqb t t refl) (rests (rw z at h)))
          (λ (other : u ≡ t → ⊥). rw (ne_eqb u t other) ((k.tasks u).dormant h).6)
          (same? u t)

-- a charge alone leaves the time of entry, which is sound
pub entry_rests : (s : State) → Sound s → (t : ℕ) → (task s t).active ≡ 0 → (task s t).entered ≡ 0
entry_rests s k t z = ((k.tasks t).dormant z).6

-- ---- a level's slice
resliced : (vs : List ℕ) (l v : ℕ) → SoundSlices vs → 1 ≤ l → v ≤ 1000 → SoundSlices (set vs l v)
resliced vs l v k some top = record {
  slices# = length-set vs l v ∙ k.slices#;
  unused = stored (λ a. a ≡ 0) vs l v 0 (λ e. absurd (omega arith)) k.unused;
  slices = λ i. stored (λ b. b ≤ 1000) vs l v i (λ e. top) (k.slices i);
}

module _ (s : State) (l v : ℕ) (k : Sound s) where
  -- its first has no charge then, and so nobody of the level
  abbrev cleared : State
  cleared = recharged (first_of s.levels l) 0 s

  cleared_sound : Sound cleared
  cleared_sound = sound_marked s k (first_of s.levels l) 0 (task s (first_of s.levels l)).entered (inl refl) (entry_rests s k (first_of s.levels l))

  pub level_cleared : (t : ℕ) → level_of (task cleared t) ≡ l → (task cleared t).charge ≡ 0
  unfolding marked
  level_cleared t e = ⊎_elim
      (λ (z : (task cleared t).charge ≡ 0). z)
      (λ (z : (first_of cleared.levels (level_of (task cleared t)) ≡ t) × ((task cleared t).charge < slice cleared (level_of (task cleared t)))).
      rw (marks_after s k (first_of s.levels l) 0 (task s (first_of s.levels l)).entered (inl refl) (entry_rests s k (first_of s.levels l)) t, eq-eqb t (first_of s.levels l) (sym (rw e at z.0))))
      (cleared_sound.charges t)

  pub sound_sliced : 1 ≤ l → v ≤ 1000 → Sound (sliced l v s)
  unfolding sliced marked
  sound_sliced some top = renumbered cleared (sliced l v s).numbers cleared_sound (resliced s.numbers.slices l v k.slices some top) charges cleared_sound.semaphores cleared_sound.flags cleared_sound.queues
    where
      charges : (t : ℕ) → SoundCharge cleared.levels (set s.numbers.slices l v) t (task cleared t)
      charges t = ⊎_elim
          (λ (e : level_of (task cleared t) ≡ l). inl (level_cleared t e))
          (λ (other : level_of (task cleared t) ≡ l → ⊥). rw (get_or-set_other s.numbers.slices l (level_of (task cleared t)) v 0 other) (cleared_sound.charges t))
          (same? (level_of (task cleared t)) l)

-- ---- a level's first becomes its last; it has no charge
pub sound_rotated : (s : State) (l : ℕ) → Sound s → (task s (first_of s.levels l)).charge ≡ 0 → Sound (rotated l s)
unfolding rotated
sound_rotated s l k clear = record {
  tasks# = k.tasks#;
  nobody = k.nobody;
  tasks = k.tasks;
  levels = lists_turned s.levels 31 (λ t. level_of (task s t)) l k.levels;
  waits = k.waits;
  slices = k.slices;
  charges = λ u. charge-turned s.levels s.numbers.slices l u (task s u) (λ e. rw (← e) clear) (k.charges u);
  semaphores = k.semaphores;
  flags = k.flags;
  queues = k.queues;
}
