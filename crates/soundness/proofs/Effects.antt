-- A wait that ends, a task that stops, a semaphore that is deleted, a flag whose waiters are told and a tick leave a sound state sound.
-- It rests on the changes of Changes, the records of Records and the queues of Told; the tick goes by induction over the tasks it moves.
use mathlib.Core.Path.{◌≡◌, refl}
use mathlib.Core.Bool.{Bool, true, false, cond}
use mathlib.Core.Logic.{inl, inr, ⊎_elim}
use Prim.Native.Nat.{ℕ, zero, suc, ◌+◌, ◌≤◌, ◌%◌, ◌^◌}
use native.Mathlib.Omega.{arith}
use lib.Dec.{T as So, eqb, ltb}
use borrow.Author.Tests.{eq-eqb, eqb-false, ltb-true}
use Rattle.model.specs.declared.Task.{Task}
use Rattle.model.specs.declared.State.{State}
use Rattle.model.specs.declared.News.{News}
use Rattle.model.specs.declared.News.TheVariants.{Deleted}
use Rattle.model.specs.Row.{first_of}
use Rattle.model.specs.Flag.{is_flag_attributes, is_single, is_met}
use Rattle.model.specs.Task.{served, dormant, activated, ended, aged, level_of, row_of}
use Rattle.model.specs.State.{task, slice, attribute, time, waiters, running, moved, marked, recharged, rotated, with_time}
use Rattle.model.specs.Effect.{stopped, told_all, deleted, told_flag, turned_at, charged_in, charged, lapsed, ticked}
use Rattle.model.specs.Test.{is_wait_code}
use Rattle.model.specs.Sound.{SoundTask, Sound}
use Rattle.laws.proofs.Record.{level_marks, level_dormant, flag_row_lem}
use Rattle.soundness.proofs.Changes.{sound_moved, sound_counted, sound_flagged, sound_with_time}
use Rattle.soundness.proofs.Charging.{marks_after, sound_marked, entry_rests, sound_rotated}
use Rattle.soundness.proofs.Records.{Stays, row_live, sound_dormant, sound_activated, sound_ended, sound_aged, aged_row}
use Rattle.soundness.proofs.Folds.{numbers_told}
use Rattle.soundness.proofs.Running.{runner}
use Rattle.soundness.proofs.Told.{may_none, may_same, waiter_in, first_waits, Told, told_row, deleted_row}

-- attributes a and bits b fit flag f once those who wait on it were told w
pub record Tellable (s : State) (f : ℕ) (w : News) (a b : ℕ) : Type 0 where
  pub attributes : So (is_flag_attributes a)
  pub none : a ≡ 0 → b ≡ 0
  pub unmet : (x : Task) → SoundTask x → row_of x ≡ f + 12 → Stays w x → (1 ≤ a) × (is_met x.wait.pattern x.wait.mode b ≡ false)
  pub single : So (is_single a) → So (is_single (attribute s f))

-- ---- a wait ends
pub sound_ends : (s : State) → Sound s → (t v b : ℕ) → (1 ≤ t) × (t ≤ 24) → 1 ≤ (task s t).active → So (is_wait_code v) → Sound (moved t (ended (task s t) v b) s)
unfolding row_of
sound_ends s k t v b r live h = sound_moved s k t (ended (task s t) v b) r.0 r.1 (sound_ended (task s t) (k.tasks t) live v b h) (may_none s t (ended (task s t) v b) refl)

-- the first of a row of waiters is live, and is served
pub sound_served : (s : State) → Sound s → (m : ℕ) → 1 ≤ m → m ≤ 28 → 1 ≤ first_of s.waits m → (b : ℕ) → Sound (moved (first_of s.waits m) (ended (task s (first_of s.waits m)) served b) s)
sound_served s k m low top some b =
    let t = first_of s.waits m in
    let e = first_waits s k m top some in
    sound_ends s k t served b (waiter_in s k t (omega arith)) (row_live (task s t) (k.tasks t) (omega arith)) tt

-- ---- a task stops
pub sound_stopped : (s : State) → Sound s → (t : ℕ) → 1 ≤ t → t ≤ 24 → 1 ≤ (task s t).base → Sound (stopped t s)
unfolding stopped row_of
sound_stopped s k t some top made = go (eqb (task s t).activations 0)
  where
    p : ℕ
    p = (task s t).base

    rests : SoundTask (dormant p)
    rests = sound_dormant p made (k.tasks t).base

    s₁ : State
    s₁ = moved t (dormant p) s

    k₁ : Sound s₁
    k₁ = sound_moved s k t (dormant p) some top rests (may_none s t (dormant p) refl)

    go : (b : Bool) → Sound (cond b s₁ (moved t (activated (dormant p)) s₁))
    go true = k₁
    go false = sound_moved s₁ k₁ t (activated (dormant p)) some top (sound_activated (dormant p) rests made) (may_none s₁ t (activated (dormant p)) refl)

-- ---- a semaphore is deleted, or a flag's waiters are told
pub sound_deleted : (s : State) → Sound s → (m : ℕ) → 1 ≤ m → m ≤ 12 → Sound (deleted m s)
unfolding deleted
sound_deleted s k m some top =
    let z = deleted_row s k m some (omega arith) in
    sound_counted (told_all Deleted (waiters s m) s) m 0 0 z.0 some (omega arith) (omega arith) (λ t e. absurd (z.1 t e))

pub sound_told_flag : (s : State) → Sound s → (f : ℕ) (w : News) (a b : ℕ) → 1 ≤ f → f ≤ 8 → Tellable s f w a b → Sound (told_flag f w a b s)
unfolding told_flag
sound_told_flag s k f w a b low top fits = rw (flag_row_lem f low top) (sound_flagged s' f a b z.sound low (record {
  attributes = fits.attributes;
  none = fits.none;
  unmet = λ t e. fits.unmet (task s' t) (z.sound.tasks t) e (z.stays t (waiter_in s' z.sound t (omega arith)).0 e);
  single = λ one t u. z.sound.flags.single f t u low top (rw (numbers_told w (waiters s (f + 12)) s) (fits.single one));
}))
  where
    s' : State
    s' = told_all w (waiters s (f + 12)) s

    z : Told w (f + 12) s'
    z = told_row w s k (f + 12) (omega arith) (omega arith)

-- ---- a tick passes
-- the first of a level is charged
sound_charged_in : (s : State) → Sound s → (l t : ℕ) → 1 ≤ l → level_of (task s t) ≡ l → first_of s.levels l ≡ t → Sound (charged_in l t s)
unfolding charged_in
sound_charged_in s k l t some e f = go (eqb (slice s l) 0) (ltb ((task s t).charge + 1) (slice s l)) refl
  where
    -- it is in a level, and so not dormant
    rests : (task s t).active ≡ 0 → turned_at l t s ≡ 0
    rests z = absurd (omega (arith, level_dormant (task s t) z))

    clear : (task (marked t 0 (turned_at l t s) s) t).charge ≡ 0
    clear = rw (marks_after s k t 0 (turned_at l t s) (inl refl) rests t, eq-eqb t t refl)

    go : (a b : Bool) → ltb ((task s t).charge + 1) (slice s l) ≡ b → Sound (cond a s (cond b (recharged t ((task s t).charge + 1) s) (rotated l (marked t 0 (turned_at l t s) s))))
    go true b g = k
    go false true g =
        sound_marked s k t ((task s t).charge + 1) (task s t).entered (rw (level_marks (task s t) ((task s t).charge + 1) (task s t).entered, e) (inr (f, ltb-true ((task s t).charge + 1) (slice s l) g)))
        (entry_rests s k t)
    go false false g = sound_rotated (marked t 0 (turned_at l t s) s) l (sound_marked s k t 0 (turned_at l t s) (inl refl) rests) (unfold marked in rw f clear)

pub sound_charged : (s : State) → Sound s → (run : ℕ) → (1 ≤ run → (1 ≤ level_of (task s run)) × (level_of (task s run) ≡ (task s run).priority) × (first_of s.levels (task s run).priority ≡ run)) → Sound (charged run s)
unfolding charged
sound_charged s k run first = go (eqb run 0) refl
  where
    go : (b : Bool) → eqb run 0 ≡ b → Sound (cond b s (charged_in (task s run).priority run s))
    go true e = k
    go false e = let some : run ≡ 0 → ⊥ = eqb-false run 0 e in let r = first (omega arith) in sound_charged_in s k (task s run).priority run (omega (arith, r)) r.1 r.2

sound_lapsed : (n t : ℕ) (s : State) → Sound s → 1 ≤ t → n + t ≤ 25 → Sound (lapsed n t s)
unfolding lapsed
sound_lapsed zero t s k some top = k
sound_lapsed (suc n) t s k some top =
    sound_lapsed n (suc t) (moved t (aged (task s t)) s)
    (sound_moved s k t (aged (task s t)) some (omega arith) (sound_aged (task s t) (k.tasks t))
    (⊎_elim (may_none s t (aged (task s t))) (may_same s k t (aged (task s t))) (aged_row (task s t))))
    (omega arith) (omega arith)

pub sound_ticked : (s : State) → Sound s → Sound (ticked s)
unfolding ticked
sound_ticked s k =
    sound_lapsed 24 1 (charged (running s) (with_time ((time s + 1) % 2 ^ 32) s))
    (sound_charged (with_time ((time s + 1) % 2 ^ 32) s) (sound_with_time s ((time s + 1) % 2 ^ 32) k) (running s) (λ some. let r = runner s k some in (r.listed, r.level, r.first)))
    (omega arith) (omega arith)
