-- What any moves do to one task's level and mark: it keeps both, and its place if it is first of its level; or it comes from no level into one, marked.
-- So it goes for the moves that news and a tick make, which take nobody out of a level; it rests on the folds of soundness.
use mathlib.Core.Path.{◌≡◌, refl, sym, ap, ◌∙◌}
use mathlib.Core.List.{List}
use mathlib.Core.Logic.{◌⊎◌, inl, inr, ⊎_elim}
use Prim.Native.Nat.{ℕ, ◌≤◌, ◌<◌}
use native.Mathlib.Omega.{arith}
use lib.ListN.{length}
use Rattle.model.specs.declared.Task.{Task}
use Rattle.model.specs.declared.State.{State}
use Rattle.model.specs.declared.News.{News}
use Rattle.model.specs.Row.{first_of}
use Rattle.model.specs.Task.{level_of, settled, aged, told}
use Rattle.model.specs.State.{task, time, moved}
use Rattle.model.specs.Effect.{told_all, lapsed}
use Rattle.laws.proofs.Number.{same?}
use Rattle.laws.proofs.Record.{level_settled, entry_new, entry_same}
use Rattle.laws.proofs.Relisted.{relisted_kept}
use Rattle.soundness.proofs.Listed.{first_relisted}
use Rattle.soundness.proofs.Moved.{task_kept, task-moved, tasks-moved}
use Rattle.soundness.proofs.Records.{told_keeps, aged_keeps}
use Rattle.soundness.proofs.Folds.{Chained, by_news, by_fall}
use Rattle.turns.proofs.Levels.{level_told, level_aged}
use Rattle.since.specs.Statements.{level_in}

-- ---- the two fates of a task
pub record Kept (t : ℕ) (s s' : State) : Type 0 where
  pub level : level_in s' t ≡ level_in s t
  pub entered : (task s' t).entered ≡ (task s t).entered
  pub active : (task s' t).active ≡ (task s t).active
  pub first : (l : ℕ) → first_of s.levels l ≡ t → first_of s'.levels l ≡ t

pub record Came (t : ℕ) (s s' : State) : Type 0 where
  pub none : level_in s t ≡ 0
  pub some : 1 ≤ level_in s' t
  pub entered : (task s' t).entered ≡ time s

pub record Through (t : ℕ) (s s' : State) : Type 0 where
  pub clock : time s' ≡ time s
  pub long : length s'.tasks ≡ length s.tasks
  pub fate : Kept t s s' ⊎ Came t s s'

pub kept_same : (t : ℕ) (s : State) → Kept t s s
kept_same t s = record { level = refl; entered = refl; active = refl; first = λ l e. e }

pub kept_then : {t : ℕ} {s₁ s₂ s₃ : State} → Kept t s₁ s₂ → Kept t s₂ s₃ → Kept t s₁ s₃
kept_then a b = record { level = b.level ∙ a.level; entered = b.entered ∙ a.entered; active = b.active ∙ a.active; first = λ l e. b.first l (a.first l e) }

then : {t : ℕ} {s₁ s₂ s₃ : State} → Through t s₁ s₂ → Through t s₂ s₃ → Through t s₁ s₃
then {t} {s₁} {s₂} {s₃} a b = record { clock = b.clock ∙ a.clock; long = b.long ∙ a.long; fate = go a.fate b.fate }
  where
    go : Kept t s₁ s₂ ⊎ Came t s₁ s₂ → Kept t s₂ s₃ ⊎ Came t s₂ s₃ → Kept t s₁ s₃ ⊎ Came t s₁ s₃
    go (inl p) (inl q) = inl (kept_then p q)
    go (inl p) (inr q) = inr (record { none = sym p.level ∙ q.none; some = q.some; entered = q.entered ∙ a.clock })
    go (inr p) (inl q) = inr (record { none = p.none; some = rw q.level p.some; entered = q.entered ∙ p.entered })
    go (inr p) (inr q) = absurd (omega (arith, p.some, q.none))

-- ---- one move
-- record x has the mark and the life of record k, and its level if k has one
pub record Alike (k x : Task) : Type 0 where
  pub entered : x.entered ≡ k.entered
  pub active : x.active ≡ k.active
  pub level : 1 ≤ level_of k → level_of x ≡ level_of k

module _ (t : ℕ) (some : 1 ≤ t) where
  abbrev Goes : State → State → Type 0
  Goes s s' = t < length s.tasks → Through t s s'

  chained : Chained Goes
  chained = record {
    same = λ s h. record { clock = refl; long = refl; fate = inl (kept_same t s) };
    then = λ a b h. let p = a h in then p (b (rw p.long h));
  }

  -- another moves
  pub kept_moved : (s : State) (u : ℕ) (x : Task) → (u ≡ t → ⊥) → Kept t s (moved u x s)
  kept_moved s u x apart =
      let e = task_kept s u x t apart in
      record { level = ap level_of e; entered = rw e; active = rw e; first = λ l f. unfold moved in first_relisted s.levels (level_of (task s u)) (level_of x) u l t (λ z. apart (sym z)) some f }

  -- it moves itself, to a record that is alike
  own : (s : State) (x : Task) → t < length s.tasks → Alike (task s t) x → Kept t s (moved t x s) ⊎ Came t s (moved t x s)
  own s x h alike = ⊎_elim
      (λ (e : level_of (task s t) ≡ level_of x). inl (record {
        level = level ∙ sym e;
        entered = rw z (entry_same (time s) (task s t) x e ∙ alike.entered);
        active = rw z alike.active;
        first = λ l f. unfold moved in rw (relisted_kept s.levels (level_of (task s t)) (level_of x) t e) f;
      }))
      (λ (other : level_of (task s t) ≡ level_of x → ⊥).
      let none : level_of (task s t) ≡ 0 = empty other in
      let there : level_of x ≡ 0 → ⊥ = λ y. other (none ∙ sym y) in
      inr (record { none = none; some = rw level (omega arith); entered = rw z (entry_new (time s) (task s t) x there other) }))
      (same? (level_of (task s t)) (level_of x))
    where
      z : task (moved t x s) t ≡ settled (time s) (task s t) x
      z = task-moved s t x h

      level : level_in (moved t x s) t ≡ level_of x
      level = ap level_of z ∙ level_settled (time s) (task s t) x

      empty : (level_of (task s t) ≡ level_of x → ⊥) → level_of (task s t) ≡ 0
      empty other = ⊎_elim (λ (y : level_of (task s t) ≡ 0). y) (λ (n : level_of (task s t) ≡ 0 → ⊥). absurd (other (sym (alike.level (omega arith))))) (same? (level_of (task s t)) 0)

  goes_moved : (s : State) (u : ℕ) (x : Task) → (u ≡ t → Alike (task s t) x) → Goes s (moved u x s)
  goes_moved s u x alike h = record {
    clock = unfold moved in refl;
    long = tasks-moved s u x;
    fate = ⊎_elim (λ (e : u ≡ t). rw e (own s x h (alike e))) (λ (apart : u ≡ t → ⊥). inl (kept_moved s u x apart)) (same? u t);
  }

  -- ---- news and the fall of timeouts
  alike_told : (w : News) (x : Task) → Alike x (told w x)
  alike_told w x = record { entered = told_keeps (λ (y : Task). y.entered) w x (λ v b. refl); active = told_keeps (λ (y : Task). y.active) w x (λ v b. refl); level = level_told w x }

  alike_aged : (x : Task) → Alike x (aged x)
  alike_aged x = record {
    entered = aged_keeps (λ (y : Task). y.entered) x (λ v b. refl) (λ d. refl);
    active = aged_keeps (λ (y : Task). y.active) x (λ v b. refl) (λ d. refl);
    level = level_aged x;
  }

  pub through_told : (w : News) (q : List ℕ) (s : State) → t < length s.tasks → Through t s (told_all w q s)
  through_told w q s = by_news chained w q s (λ z u low there. goes_moved z u (told w (task z u)) (λ e. rw e (alike_told w (task z t))))

  pub through_lapsed : (n i : ℕ) (s : State) → t < length s.tasks → Through t s (lapsed n i s)
  through_lapsed n i s = by_fall chained n i s (λ z u low top. goes_moved z u (aged (task z u)) (λ e. rw e (alike_aged (task z t))))
