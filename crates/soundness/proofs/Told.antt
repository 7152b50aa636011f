-- Those in a queue are told the news, one after the other: the state stays sound, and whoever still waits there is one whom the news lets wait.
-- It rests on the changes of Changes and the records of Records, and goes by induction over the queue.
use mathlib.Core.Path.{◌≡◌, refl, sym, ap, ◌∙◌}
use mathlib.Core.List.{List, [], ◌∷◌}
use mathlib.Core.Logic.{◌⊎◌, inl, inr, ⊎_elim}
use Prim.Native.Nat.{ℕ, ◌≤◌}
use native.Mathlib.Omega.{arith}
use lib.Dec.{T as So}
use borrow.Author.Tests.{ne_eqb, eq-eqb}
use Rattle.model.specs.declared.Task.{Task}
use Rattle.model.specs.declared.State.{State}
use Rattle.model.specs.declared.News.{News}
use Rattle.model.specs.declared.News.TheVariants.{Deleted}
use Rattle.model.specs.Row.{first_of}
use Rattle.model.specs.Task.{row_of, settled, told}
use Rattle.model.specs.State.{task, time, waiters, moved}
use Rattle.model.specs.Effect.{told_all}
use Rattle.model.specs.Test.{occ, padded}
use Rattle.model.specs.Sound.{Sound}
use Rattle.laws.proofs.Number.{same?}
use Rattle.laws.proofs.Occ.{one_eq, one_ne, occ_cons, occ_none}
use Rattle.laws.proofs.Padded.{padded_rest, first_none}
use Rattle.laws.proofs.Record.{row_none, row_settled}
use Rattle.soundness.proofs.Listed.{key_of, key_first, listed_in}
use Rattle.soundness.proofs.Orderly.{sound_orderly, task_in, task_cases}
use Rattle.soundness.proofs.Stocks.{unserved}
use Rattle.soundness.proofs.Changes.{MayWait, sound_moved}
use Rattle.soundness.proofs.Records.{WaitsAs, Stays, stays_marks, told_stays, told_keeps, row_live, sound_told}

-- ---- who may wait
pub may_none : (s : State) (t : ℕ) (x : Task) → row_of x ≡ 0 → MayWait s t x
may_none s t x e = record {
  waited = λ m some top f. absurd (omega arith);
  unmet = λ i some top f. absurd (omega arith);
  single = λ i u some top one f. absurd (omega arith);
  unserved = λ q some top f. absurd (omega arith);
  alike = λ q u some top f. absurd (omega arith);
}

pub may_same : (s : State) → Sound s → (t : ℕ) (x : Task) → WaitsAs x (task s t) → MayWait s t x
may_same s k t x e = record {
  waited = λ m some top f. k.semaphores.waited m t some top (sym e.0 ∙ f);
  unmet = λ i some top f. rw (e.2, e.3) (k.flags.unmet i t some top (sym e.0 ∙ f));
  single = λ i u some top one f g. k.flags.single i u t some top one g (sym e.0 ∙ f);
  unserved = λ q some top f. rw e.1 (unserved k.queues q t some top (sym e.0 ∙ f));
  alike = λ q u some top f g. k.queues.alike q u t some top g (sym e.0 ∙ f) ∙ sym e.1;
}

-- who is listed by an object is one of the tasks
pub waiter_in : (s : State) → Sound s → (t : ℕ) → 1 ≤ row_of (task s t) → (1 ≤ t) × (t ≤ 24)
waiter_in s k t h = task_in s (sound_orderly k) row_of row_none t h

-- who stands first in a row of waiters waits there
pub first_waits : (s : State) → Sound s → (m : ℕ) → m ≤ 28 → 1 ≤ first_of s.waits m → row_of (task s (first_of s.waits m)) ≡ m
first_waits s k m top some = (key_first s.waits 29 (λ t. row_of (task s t)) k.waits m (omega arith) (λ z. omega arith)).1

-- and where nobody stands first, nobody waits
pub no_waiter : (s : State) → Sound s → (m : ℕ) → 1 ≤ m → m ≤ 28 → first_of s.waits m ≡ 0 → (t : ℕ) → row_of (task s t) ≡ m → ⊥
no_waiter s k m low top e t f =
    let i = (waiter_in s k t (omega arith)).0 in
    let there : occ t (waiters s m) ≡ 1 = listed_in s.waits 29 (λ t. row_of (task s t)) k.waits m t (omega arith) i low f in
    omega (arith, first_none (waiters s m) (k.waits.ends m (omega arith)) e t i)

-- who stands in a row of waiters is one of the tasks
pub queued_in : (s : State) → Sound s → (m : ℕ) → m ≤ 28 → (t : ℕ) → 1 ≤ t → 1 ≤ occ t (waiters s m) → t ≤ 24
queued_in s k m top t low there =
    let e = key_of s.waits 29 (λ t. row_of (task s t)) k.waits m t (omega arith) low there in
    (waiter_in s k t (omega arith)).1

-- ---- the queue, from its first to its last
-- it holds live tasks, and whoever waits in row m and has not been told
record Queue (w : News) (m : ℕ) (q : List ℕ) (s : State) : Type 0 where
  sound : Sound s
  ends : So (padded q)
  lives : (t : ℕ) → 1 ≤ t → 1 ≤ occ t q → (t ≤ 24) × (1 ≤ (task s t).active)
  holds : (t : ℕ) → 1 ≤ t → row_of (task s t) ≡ m → (1 ≤ occ t q) ⊎ Stays w (task s t)

-- all have been told
pub record Told (w : News) (m : ℕ) (s' : State) : Type 0 where
  pub sound : Sound s'
  pub stays : (t : ℕ) → 1 ≤ t → row_of (task s' t) ≡ m → Stays w (task s' t)

module _ (w : News) (m : ℕ) (some : 1 ≤ m) where
  -- the first is told
  queue_next : (t : ℕ) (q : List ℕ) (s : State) → (t ≡ 0 → ⊥) → Queue w m (t ∷ q) s → Queue w m q (moved t (told w (task s t)) s)
  queue_next t q s low k = record {
    sound = sound_moved s k.sound t x (omega arith) first.0 (sound_told (task s t) (k.sound.tasks t) first.1 w) may;
    ends = padded_rest t q k.ends;
    lives = λ u h there.
        let o = k.lives u h (omega (arith, occ_cons u t q)) in
        (o.0, cases (λ y. 1 ≤ y.active) u (λ e. omega (arith, told_keeps (λ (y : Task). y.active) w (task s t) (λ v b. refl), first.1)) (λ other. o.1));
    holds = λ u h. cases (λ y. row_of y ≡ m → (1 ≤ occ u q) ⊎ Stays w y) u (λ e f. inr (stays_marks w x (settled (time s) (task s t) x).charge (settled (time s) (task s t) x).entered (here (sym (row_settled (time s) (task s t) x) ∙ f)))) (λ other f. behind u other (k.holds u h f));
  }
    where
      x : Task
      x = told w (task s t)

      first : (t ≤ 24) × (1 ≤ (task s t).active)
      first = k.lives t (omega arith) (omega (arith, occ_cons t t q, one_eq t t refl))

      may : MayWait s t x
      may = ⊎_elim
          (may_none s t x)
          (λ (z : Stays w (task s t) × (x ≡ task s t)). may_same s k.sound t x (ap row_of z.1, ap (λ (y : Task). y.wait.kind) z.1, ap (λ (y : Task). y.wait.pattern) z.1, ap (λ (y : Task). y.wait.mode) z.1))
          (told_stays w (task s t))

      cases : (P : Task → Type 0) (u : ℕ) → (u ≡ t → P (settled (time s) (task s t) x)) → ((u ≡ t → ⊥) → P (task s u)) → P (task (moved t x s) u)
      cases = task_cases s (sound_orderly k.sound) t x (omega arith) first.0

      here : row_of x ≡ m → Stays w x
      here f = ⊎_elim
          (λ (e : row_of x ≡ 0). absurd (omega arith))
          (λ (z : Stays w (task s t) × (x ≡ task s t)). rw z.1 z.0)
          (told_stays w (task s t))

      behind : (u : ℕ) → (u ≡ t → ⊥) → (1 ≤ occ u (t ∷ q)) ⊎ Stays w (task s u) → (1 ≤ occ u q) ⊎ Stays w (task s u)
      behind u other (inl there) = inl (omega (arith, occ_cons u t q, one_ne t u (λ e. other (sym e))))
      behind u other (inr stays) = inr stays

  told_all_lem : (q : List ℕ) (s : State) → Queue w m q s → Told w m (told_all w q s)
  unfolding told_all
  told_all_lem [] s k = record { sound = k.sound; stays = λ t h e. ⊎_elim (λ (there : 1 ≤ occ t []). absurd (omega (arith, occ_none t))) (λ z. z) (k.holds t h e) }
  told_all_lem (t ∷ q) s k = ⊎_elim
      (λ (e : t ≡ 0). rw (eq-eqb t 0 e) (record {
        sound = k.sound;
        stays = λ u h f. ⊎_elim (λ (there : 1 ≤ occ u (t ∷ q)). absurd (omega (arith, first_none (t ∷ q) k.ends e u h))) (λ z. z) (k.holds u h f);
      }))
      (λ (low : t ≡ 0 → ⊥). rw (ne_eqb t 0 low) (told_all_lem q (moved t (told w (task s t)) s) (queue_next t q s low k)))
      (same? t 0)

-- ---- those in row m
pub told_row : (w : News) (s : State) → Sound s → (m : ℕ) → 1 ≤ m → m ≤ 28 → Told w m (told_all w (waiters s m) s)
told_row w s k m some top = told_all_lem w m some (waiters s m) s (record {
  sound = k;
  ends = k.waits.ends m (omega arith);
  lives = λ t low there.
      let e = (key_of s.waits 29 (λ t. row_of (task s t)) k.waits m t (omega arith) low there).1 in
      (queued_in s k m top t low there, row_live (task s t) (k.tasks t) (omega arith));
  holds = λ t low e. inl (omega (arith, listed_in s.waits 29 (λ t. row_of (task s t)) k.waits m t (omega arith) low some e));
})

-- whom a deletion is told waits no more
pub deleted_row : (s : State) → Sound s → (m : ℕ) → 1 ≤ m → m ≤ 28 → Sound (told_all Deleted (waiters s m) s) × ((t : ℕ) → row_of (task (told_all Deleted (waiters s m) s) t) ≡ m → ⊥)
deleted_row s k m some top =
    let z = told_row Deleted s k m some top in
    (z.sound, λ t e. z.stays t (waiter_in (told_all Deleted (waiters s m) s) z.sound t (omega arith)).0 e)
