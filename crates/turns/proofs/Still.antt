-- A task that keeps its key keeps its row and stands no later in it, whatever is moved, stopped, told or lapsed.
-- What every such move keeps is said once, of a key and a relation between a state and a later one (Steady); a key's table of rows is one such.
use mathlib.Core.Path.{◌≡◌, refl, sym, ap, ◌∙◌, subst}
use mathlib.Core.Bool.{Bool, true, false, cond}
use mathlib.Core.List.{List, [], ◌∷◌}
use mathlib.Core.Logic.{⊎_elim}
use Prim.Native.Nat.{ℕ, zero, suc, ◌+◌, ◌≤◌, ◌<◌}
use native.Mathlib.Omega.{arith}
use lib.Dec.{eqb, ltb}
use lib.ListN.{length, length-set}
use lib.Seq.{set_out}
use borrow.Author.Tests.{eq-eqb, ne_eqb}
use Rattle.model.specs.declared.Task.{Task}
use Rattle.model.specs.declared.Queue.{Queue}
use Rattle.model.specs.declared.State.{State}
use Rattle.model.specs.Row.{place, row, relisted}
use Rattle.model.specs.declared.News.{News}
use Rattle.model.specs.Task.{dormant, activated, with_marks, settled, aged, told}
use Rattle.model.specs.State.{task, slice, time, moved, marked, recharged, rotated}
use Rattle.model.specs.Effect.{stopped, told_all, turned_at, charged_in, charged, lapsed}
use Rattle.model.specs.Test.{occ}
use Rattle.laws.proofs.Number.{same?, below?}
use Rattle.laws.proofs.Occ.{occ_cons, one_eq}
use Rattle.soundness.proofs.Moved.{task_kept, task-moved, task-marked}
use Rattle.turns.proofs.Places.{place-relisted}

-- ---- the record of t after a move
-- what holds of its own new record, and of its old one, holds of its record
pub task_either : (P : Task → Type 0) (s : State) (u : ℕ) (x : Task) (t : ℕ) → (u ≡ t → P (settled (time s) (task s t) x)) → P (task s t) → P (task (moved u x s) t)
unfolding moved
task_either P s u x t here else = ⊎_elim
    (λ (e : u ≡ t). ⊎_elim
    (λ (h : t < length s.tasks). subst P (sym (ap (λ i. task (moved i x s) t) e ∙ task-moved s t x h)) (here e))
    (λ (h : length s.tasks ≤ t). rw (set_out s.tasks u (settled (time s) (task s u) x) (omega arith)) else)
    (below? t (length s.tasks)))
    (λ (apart : u ≡ t → ⊥). subst P (sym (task_kept s u x t apart)) else)
    (same? u t)

-- a tick's charge changes marks alone, and the order of one level
pub record Charged (s s' : State) : Type 1 where
  pub tasks# : length s'.tasks ≡ length s.tasks
  pub records : (P : Task → Type 0) (t : ℕ) → ((c e : ℕ) → P (with_marks (task s t) c e)) → P (task s' t)
  pub waits : s'.waits ≡ s.waits
  pub numbers : s'.numbers ≡ s.numbers

pub only_charged : (s : State) (run : ℕ) → Charged s (charged run s)
unfolding charged charged_in
only_charged s run = go (eqb run 0) (eqb (slice s l) 0) (ltb ((task s run).charge + 1) (slice s l))
  where
    l : ℕ
    l = (task s run).priority

    nothing : Charged s s
    nothing = record { tasks# = refl; records = λ P t holds. holds (task s t).charge (task s t).entered; waits = refl; numbers = refl }

    one : (n e : ℕ) → Charged s (marked run n e s)
    one n e = record {
      tasks# = unfold marked in length-set s.tasks run (with_marks (task s run) n e);
      records = λ P t. task-marked P s run n e t;
      waits = unfold marked in refl;
      numbers = unfold marked in refl;
    }

    turned : Charged s (rotated l (marked run 0 (turned_at l run s) s))
    turned = unfold rotated in let a = one 0 (turned_at l run s) in record { tasks# = a.tasks#; records = a.records; waits = a.waits; numbers = a.numbers }

    go : (a b c : Bool) → Charged s (cond a s (cond b s (cond c (recharged run ((task s run).charge + 1) s) (rotated l (marked run 0 (turned_at l run s) s)))))
    go true b c = nothing
    go false true c = nothing
    go false false true = one ((task s run).charge + 1) (task s run).entered
    go false false false = turned

-- ---- a key, and a relation that holds through any moves of tasks that let t keep its key
pub record Steady (key : Task → ℕ) (l t : ℕ) (R : State → State → Type 0) : Type 0 where
  pub unmarked : (x : Task) (n e : ℕ) → key (with_marks x n e) ≡ key x
  pub same : (s : State) → key (task s t) ≡ l → R s s
  pub then : {s₁ s₂ s₃ : State} → R s₁ s₂ → R s₂ s₃ → R s₁ s₃
  pub moves : (s : State) (u : ℕ) (x : Task) → 1 ≤ u → u ≤ 24 → key (task s t) ≡ l → (u ≡ t → key x ≡ l) → R s (moved u x s)

module _ {key : Task → ℕ} {l t : ℕ} {R : State → State → Type 0} (steady : Steady key l t R) where
  key-moved : (s : State) (u : ℕ) (x : Task) → key (task s t) ≡ l → (u ≡ t → key x ≡ l) → key (task (moved u x s) t) ≡ l
  key-moved s u x e keeps = task_either (λ y. key y ≡ l) s u x t (λ z. steady.unmarked x (settled (time s) (task s t) x).charge (settled (time s) (task s t) x).entered ∙ keeps z) e

  -- another stops
  pub still_stopped : (s : State) (u : ℕ) → 1 ≤ u → u ≤ 24 → (u ≡ t → ⊥) → key (task s t) ≡ l → R s (stopped u s)
  unfolding stopped
  still_stopped s u low top apart e = go (eqb (task s u).activations 0)
    where
      x : Task
      x = dormant (task s u).base

      a : R s (moved u x s)
      a = steady.moves s u x low top e (λ z. absurd (apart z))

      go : (b : Bool) → R s (cond b (moved u x s) (moved u (activated x) (moved u x s)))
      go true = a
      go false = steady.then a (steady.moves (moved u x s) u (activated x) low top (key-moved s u x e (λ z. absurd (apart z))) (λ z. absurd (apart z)))

  -- those in a queue are told
  pub still_told : (w : News) (q : List ℕ) (s : State) → ((u : ℕ) → 1 ≤ u → 1 ≤ occ u q → u ≤ 24)
      → (1 ≤ occ t q → (x : Task) → key x ≡ l → key (told w x) ≡ l) → key (task s t) ≡ l → R s (told_all w q s)
  unfolding told_all
  still_told w [] s known keeps e = steady.same s e
  still_told w (u ∷ q) s known keeps e = ⊎_elim
      (λ (z : u ≡ 0). rw (eq-eqb u 0 z) (steady.same s e))
      (λ (n : u ≡ 0 → ⊥). rw (ne_eqb u 0 n)
      (let x = told w (task s u) in
      let there : (i : ℕ) → u ≡ i → 1 ≤ occ i (u ∷ q) = λ i z. omega (arith, occ_cons i u q, one_eq u i z) in
      let own : u ≡ t → key x ≡ l = λ z. rw z (keeps (there t z) (task s t) e) in
      steady.then (steady.moves s u x (omega arith) (known u (omega arith) (there u refl)) e own)
      (still_told w q (moved u x s) (λ i low h. known i low (omega (arith, occ_cons i u q))) (λ h. keeps (omega (arith, occ_cons t u q))) (key-moved s u x e own))))
      (same? u 0)

  -- timeouts fall
  pub still_lapsed : (n i : ℕ) (s : State) → 1 ≤ i → n + i ≤ 25 → (i ≤ t → key (aged (task s t)) ≡ l) → key (task s t) ≡ l → R s (lapsed n i s)
  unfolding lapsed
  still_lapsed zero i s low top keeps e = steady.same s e
  still_lapsed (suc n) i s low top keeps e =
      let x = aged (task s i) in
      let own : i ≡ t → key x ≡ l = λ z. rw z (keeps (omega arith)) in
      steady.then (steady.moves s i x low (omega arith) e own)
      (still_lapsed n (suc i) (moved i x s) (omega arith) (omega arith) (λ h. rw (task_kept s i x t (λ z. omega arith)) (keeps (omega arith))) (key-moved s i x e own))

-- ---- a key and its table
pub record Keyed (key : Task → ℕ) (table : State → List Queue) : Type 0 where
  pub relists : (s : State) (u : ℕ) (x : Task) → table (moved u x s) ≡ relisted (table s) (key (task s u)) (key x) u
  pub unmarked : (x : Task) (n e : ℕ) → key (with_marks x n e) ≡ key x

pub record Still (key : Task → ℕ) (table : State → List Queue) (l t : ℕ) (s s' : State) : Type 0 where
  pub keyed : key (task s' t) ≡ l
  pub nearer : place (row (table s') l) t ≤ place (row (table s) l) t

module _ {key : Task → ℕ} {table : State → List Queue} (keyed : Keyed key table) (l t : ℕ) (some : 1 ≤ t) where
  pub still_moved : (s : State) (u : ℕ) (x : Task) → key (task s t) ≡ l → (u ≡ t → key x ≡ l) → Still key table l t s (moved u x s)
  still_moved s u x e keeps = record {
    keyed = task_either (λ y. key y ≡ l) s u x t (λ z. keyed.unmarked x (settled (time s) (task s t) x).charge (settled (time s) (task s t) x).entered ∙ keeps z) e;
    nearer = rw (keyed.relists s u x) (place-relisted (table s) (key (task s u)) (key x) u l t some (λ z. ap (λ i. key (task s i)) z ∙ e ∙ sym (keeps z)));
  }

  pub in_table : Steady key l t (Still key table l t)
  in_table = record {
    unmarked = keyed.unmarked;
    same = λ s e. record { keyed = e; nearer = omega arith };
    then = λ a b. record { keyed = b.keyed; nearer = omega (arith, a.nearer, b.nearer) };
    moves = λ s u x low top. still_moved s u x;
  }
