-- Those in a row of the table of waits, each with what its record asks: what a move, news, a stop and a tick make of them. Where nobody enters the
-- row, those who stay keep their order and ask for what they asked. It rests on Listed and Folds of soundness.
use mathlib.Core.Path.{◌≡◌, refl, sym, ap, ◌∙◌}
use mathlib.Core.Bool.{Bool, true, false, cond, not, ◌&&◌, false≢true}
use mathlib.Core.List.{List, [], ◌∷◌, ◌++◌}
use mathlib.Core.Logic.{◌⊎◌, inl, inr, ⊎_elim}
use Prim.Native.Nat.{ℕ, ◌-◌, ◌≤◌, ◌<◌}
use native.Mathlib.Nat.{not-suc-le-zero}
use native.Mathlib.Omega.{arith}
use lib.Dec.{T as So, eqb}
use lib.ListN.{length, get_or-eq_default}
use borrow.Author.Tests.{eq-eqb}
use Rattle.model.specs.declared.Task.{Task}
use Rattle.model.specs.declared.State.{State}
use Rattle.model.specs.declared.News.{News}
use Rattle.model.specs.declared.News.TheVariants.{Deleted, Bits}
use Rattle.model.specs.Row.{row, joined}
use Rattle.model.specs.Flag.{is_met}
use Rattle.model.specs.Task.{no_task, served, dlt, row_of, is_timed, dormant, activated, ended, ran_out, with_remaining, aged, told}
use Rattle.model.specs.State.{task, time, moved}
use Rattle.model.specs.Effect.{stopped, told_all, lapsed}
use Rattle.model.specs.Test.{occ, padded, is_listed}
use Rattle.model.specs.Sound.{Lists, Sound}
use Rattle.model.specs.Bench.{listing}
use Rattle.laws.proofs.Number.{same?, below?}
use Rattle.laws.proofs.Occ.{one_le, place_in}
use Rattle.laws.proofs.Record.{row_none, row_settled}
use Rattle.laws.proofs.Relisted.{relisted_kept, row-relisted_from, row-relisted_to, row-relisted_other}
use Rattle.soundness.proofs.Listed.{key_of, has_room_lem, listed_not, lists_relisted}
use Rattle.soundness.proofs.Moved.{task_kept, task-moved, tasks-moved}
use Rattle.soundness.proofs.Folds.{Chained, by_news, by_fall}
use Rattle.order.specs.Lists.{has, once, staying, paired}
use Rattle.order.proofs.Lists.{both, has-staying}
use Rattle.order.proofs.Listing.{paired_append, listing-joined, paired_same, staying_twice, staying_all, listing-left, not_listed, once-listing}

-- those in row r
abbrev pub queue : State → ℕ → List ℕ
queue s r = listing (row s.waits r)

abbrev Listed : State → Type 0
Listed s = Lists s.waits 29 (λ t. row_of (task s t))

-- what a record waits for, and with what
abbrev pub asks : Task → ℕ × ℕ
asks x = (x.wait.kind, x.wait.pattern)

-- ---- tables with their places
pub record Good (s : State) : Type 0 where
  pub tasks# : length s.tasks ≡ 25
  pub waits : Listed s

pub sound_good : {s : State} → Sound s → Good s
sound_good k = record { tasks# = k.tasks#; waits = k.waits }

far : (s : State) → length s.tasks ≡ 25 → (u : ℕ) → 24 < u → row_of (task s u) ≡ 0
far s e u h = ap row_of (get_or-eq_default s.tasks no_task {n = u} (omega (arith, e, h))) ∙ row_none

good_moved : (s : State) → Good s → (t : ℕ) (x : Task) → 1 ≤ t → t ≤ 24 → Good (moved t x s)
unfolding moved
good_moved s g t x some top = record {
  tasks# = tasks-moved s t x ∙ g.tasks#;
  waits = lists_relisted s.waits 29 (λ u. row_of (task s u)) g.waits t (row_of x) some top (far s g.tasks#) (λ u. row_of (task (moved t x s) u))
      (ap row_of (task-moved s t x (omega (arith, g.tasks#, top))) ∙ row_settled (time s) (task s t) x) (λ u apart. ap row_of (task_kept s t x u (λ e. apart (sym e))));
}

-- ---- some of row r stay, in order, and ask for what they asked
pub record Shrinks (r : ℕ) (s s' : State) : Type 0 where
  pub p : ℕ → Bool
  pub row : queue s' r ≡ staying p (queue s r)
  pub asked : (t : ℕ) → has t (queue s' r) ≡ true → asks (task s' t) ≡ asks (task s t)

-- where the table of waits is as it was, and so is what the records ask, all stay
pub shrinks_like : (r : ℕ) (s s' : State) → s'.waits ≡ s.waits → ((t : ℕ) → asks (task s' t) ≡ asks (task s t)) → Shrinks r s s'
shrinks_like r s s' e same = record { p = λ _. true; row = rw e (sym (staying_all (λ _. true) (queue s r) (λ _ _. refl))); asked = λ t _. same t }

shrinks_none : (r : ℕ) (s : State) → Shrinks r s s
shrinks_none r s = shrinks_like r s s refl (λ _. refl)

pub shrinks_twice : (r : ℕ) (s s' s'' : State) → Shrinks r s s' → Shrinks r s' s'' → Shrinks r s s''
shrinks_twice r s s' s'' h g = record {
  p = λ t. h.p t && g.p t;
  row = g.row ∙ rw h.row (staying_twice h.p g.p (queue s r));
  asked = λ t y. g.asked t y ∙ h.asked t (there t y);
}
  where
    there : (t : ℕ) → has t (queue s'' r) ≡ true → has t (queue s' r) ≡ true
    there t y = (both (g.p t) (has t (queue s' r)) (sym (has-staying g.p t (queue s' r)) ∙ rw g.row at y)).1

-- ---- a move
is_true : (b : Bool) → So b → b ≡ true
is_true true h = refl
is_true false h = absurd h

module _ (r : ℕ) (low : 1 ≤ r) (top : r < 29) (s : State) (g : Good s) where
  pub padded_queue : padded (row s.waits r) ≡ true
  padded_queue = is_true (padded (row s.waits r)) (g.waits.ends r top)

  pub once-queue : once (queue s r) ≡ true
  once-queue = once-listing (row s.waits r) padded_queue (λ t some. omega (arith, g.waits.exactly r t top some, one_le (is_listed r (row_of (task s t)))))

  -- who waits elsewhere, or nowhere, does not stand in the row
  pub absent : (t : ℕ) → 1 ≤ t → (row_of (task s t) ≡ r → ⊥) → has t (queue s r) ≡ false
  absent t some off = not_listed t (row s.waits r) some padded_queue (listed_not s.waits 29 (λ u. row_of (task s u)) g.waits r t top some (λ _ e. off e))

  module _ (t : ℕ) (x : Task) (some : 1 ≤ t) (high : t ≤ 24) where
    -- its new record asks what x does
    asks_now : asks (task (moved t x s) t) ≡ asks x
    asks_now = ap asks (task-moved s t x (omega (arith, g.tasks#)))

    asks_else : (u : ℕ) → (u ≡ t → ⊥) → asks (task (moved t x s) u) ≡ asks (task s u)
    asks_else u apart = ap asks (task_kept s t x u (λ e. apart (sym e)))

    -- it leaves row r: the others stay
    pub queue_left : row_of (task s t) ≡ r → (row_of x ≡ r → ⊥) → queue (moved t x s) r ≡ staying (λ u. not (eqb u t)) (queue s r)
    unfolding moved
    queue_left y n =
        rw (← y) (ap listing (row-relisted_from s.waits (row_of (task s t)) (row_of x) t (λ e. n (sym e ∙ y)) (λ e. omega (arith, e, y)) (omega (arith, y, g.waits.sized))))
        ∙ listing-left (row s.waits r) t (λ e. omega (arith, e)) once-queue

    -- it goes last in row r
    pub queue_joined : (row_of (task s t) ≡ r → ⊥) → row_of x ≡ r → queue (moved t x s) r ≡ queue s r ++ (t ∷ [])
    unfolding moved
    queue_joined off on = ap listing enters ∙ listing-joined (row s.waits r) t (λ e. omega (arith, e, some)) padded_queue
        (place_in 0 (row s.waits r) (has_room_lem s.waits 29 (λ u. row_of (task s u)) g.waits (far s g.tasks#) r t top some high
        (listed_not s.waits 29 (λ u. row_of (task s u)) g.waits r t top some (λ _ e. off e))))
      where
        enters : row (moved t x s).waits r ≡ joined (row s.waits r) t
        enters = rw (← on) (row-relisted_to s.waits (row_of (task s t)) (row_of x) t (λ e. off (e ∙ on)) (λ e. omega (arith, e, on, low)) (omega (arith, on, g.waits.sized)))

    -- a move that does not enter row r: whoever is in it before and after asks for the same
    pub shrinks_moved : (row_of x ≡ r → (row_of (task s t) ≡ r) × (asks x ≡ asks (task s t))) → Shrinks r s (moved t x s)
    unfolding moved
    shrinks_moved stays = go (same? (row_of (task s t)) r) (same? (row_of x) r)
      where
        s' : State
        s' = moved t x s

        -- the row is as it was
        same : row s'.waits r ≡ row s.waits r → (has t (queue s r) ≡ true → asks x ≡ asks (task s t)) → Shrinks r s s'
        same e h = record {
          p = λ _. true;
          row = ap listing e ∙ sym (staying_all (λ _. true) (queue s r) (λ _ _. refl));
          asked = λ u y. ⊎_elim
              (λ (z : u ≡ t). let there : has t (queue s r) ≡ true = rw (← z, ← e) y in rw z (asks_now ∙ h there))
              (λ (apart : u ≡ t → ⊥). asks_else u apart)
              (same? u t);
        }

        go : (row_of (task s t) ≡ r) ⊎ (row_of (task s t) ≡ r → ⊥) → (row_of x ≡ r) ⊎ (row_of x ≡ r → ⊥) → Shrinks r s s'
        go (inl y) (inl z) = same (ap (λ ls. row ls r) (relisted_kept s.waits (row_of (task s t)) (row_of x) t (y ∙ sym z))) (λ _. (stays z).1)
        go (inl y) (inr n) = record {
          p = λ u. not (eqb u t);
          row = queue_left y n;
          asked = λ u h. ⊎_elim
              (λ (z : u ≡ t). absurd (false≢true (rw (queue_left y n, has-staying (λ v. not (eqb v t)) u (queue s r), eq-eqb u t z) at h)))
              (λ (apart : u ≡ t → ⊥). asks_else u apart)
              (same? u t);
        }
        go (inr m) (inl z) = absurd (m (stays z).0)
        go (inr m) (inr n) = same (row-relisted_other s.waits (row_of (task s t)) (row_of x) t r (λ e. m (sym e)) (λ e. n (sym e)))
            (λ h. absurd (false≢true (sym (absent t some m) ∙ h)))

    -- the pairs of a row that it joins: itself last, with its pattern
    pub pairs_joined : (row_of (task s t) ≡ r → ⊥) → row_of x ≡ r
        → paired (λ u. (task (moved t x s) u).wait.pattern) (queue (moved t x s) r) ≡ paired (λ u. (task s u).wait.pattern) (queue s r) ++ ((t, x.wait.pattern) ∷ [])
    unfolding paired
    pairs_joined off on = rw (queue_joined off on) (paired_append pattern' (queue s r) (t ∷ []) ∙ rw (ap (λ (z : ℕ × ℕ). z.1) asks_now, paired_same pattern' (λ u. (task s u).wait.pattern) (queue s r) others))
      where
        pattern' : ℕ → ℕ
        pattern' u = (task (moved t x s) u).wait.pattern

        others : (u : ℕ) → has u (queue s r) ≡ true → (task (moved t x s) u).wait.pattern ≡ (task s u).wait.pattern
        others u h = ⊎_elim
            (λ (z : u ≡ t). absurd (false≢true (sym (absent t some off) ∙ rw z at h)))
            (λ (apart : u ≡ t → ⊥). ap (λ (z : ℕ × ℕ). z.1) (asks_else u apart))
            (same? u t)

-- ---- records that leave every row, or stay in theirs and ask for the same
pub record Leaves (x x' : Task) : Type 0 where
  pub stays : 1 ≤ row_of x' → (row_of x' ≡ row_of x) × (asks x' ≡ asks x)

pub leaves_ended : (x : Task) (v b : ℕ) → Leaves x (ended x v b)
unfolding row_of
leaves_ended x v b = record { stays = λ h. absurd (not-suc-le-zero h) }

pub leaves_same : (x : Task) → Leaves x x
leaves_same x = record { stays = λ _. (refl, refl) }

pub leaves_dormant : (x : Task) (p : ℕ) → Leaves x (dormant p) × Leaves x (activated (dormant p))
unfolding row_of
leaves_dormant x p = (record { stays = λ h. absurd (not-suc-le-zero h) }, record { stays = λ h. absurd (not-suc-le-zero h) })

leaves_aged : (x : Task) → Leaves x (aged x)
unfolding aged row_of
leaves_aged x = go (is_timed x) (eqb x.wait.remaining 1)
  where
    go : (a b : Bool) → Leaves x (cond a (cond b (ended x (ran_out x) 0) (with_remaining x (x.wait.remaining - 1))) x)
    go true true = leaves_ended x (ran_out x) 0
    go true false = record { stays = λ _. (refl, refl) }
    go false b = leaves_same x

leaves_told : (w : News) (x : Task) → Leaves x (told w x)
unfolding told
leaves_told Deleted x = leaves_ended x dlt 0
leaves_told (Bits b) x = go (is_met x.wait.pattern x.wait.mode b)
  where
    go : (a : Bool) → Leaves x (cond a (ended x served b) x)
    go true = leaves_ended x served b
    go false = leaves_same x

-- ---- calls that let nobody enter row r
module _ (r : ℕ) (low : 1 ≤ r) (top : r < 29) where
  abbrev After : State → State → Type 0
  After s s' = Good s → Shrinks r s s' × Good s'

  chained : Chained After
  chained = record {
    same = λ s g. (shrinks_none r s, g);
    then = λ {s₁} {s₂} {s₃} a b g. (let m = a g in let n = b m.1 in (shrinks_twice r s₁ s₂ s₃ m.0 n.0, n.1));
  }

  pub after_moved : (s : State) (t : ℕ) (x : Task) → 1 ≤ t → t ≤ 24 → Leaves (task s t) x → After s (moved t x s)
  after_moved s t x some high h g =
      (shrinks_moved r low top s g t x some high (λ e. (let y = h.stays (omega (arith, e, low)) in (sym y.0 ∙ e, y.1))), good_moved s g t x some high)

  -- the timeouts of a tick: several of the row may end
  pub after_lapsed : (s : State) → After s (lapsed 24 1 s)
  after_lapsed s = by_fall chained 24 1 s (λ z u some high. after_moved z u (aged (task z u)) some (omega arith) (leaves_aged (task z u)))

  -- dormancy, also of one that is activated again at once
  pub after_stopped : (t : ℕ) (s : State) → 1 ≤ t → t ≤ 24 → After s (stopped t s)
  unfolding stopped
  after_stopped t s some high = go (eqb (task s t).activations 0)
    where
      b : ℕ
      b = (task s t).base

      s₁ : State
      s₁ = moved t (dormant b) s

      sleeps : After s s₁
      sleeps = after_moved s t (dormant b) some high (leaves_dormant (task s t) b).0

      go : (c : Bool) → After s (cond c s₁ (moved t (activated (dormant b)) s₁))
      go true = sleeps
      go false = chained.then sleeps (after_moved s₁ t (activated (dormant b)) some high (leaves_dormant (task s₁ t) b).1)

  -- news of any object, to tasks that there are
  pub after_told : (w : News) (q : List ℕ) (s : State) → ((t : ℕ) → 1 ≤ t → 1 ≤ occ t q → t ≤ 24) → After s (told_all w q s)
  after_told w q s in_range = by_news chained w q s (λ z u some there. after_moved z u (told w (task z u)) some (in_range u some there) (leaves_told w (task z u)))

-- who stands in a row is one of the tasks
pub in_row : (s : State) → Good s → (m : ℕ) → m < 29 → (t : ℕ) → 1 ≤ t → 1 ≤ occ t (row s.waits m) → t ≤ 24
in_row s g m top t some there = ⊎_elim
    (λ (h : 24 < t). absurd (let e = key_of s.waits 29 (λ u. row_of (task s u)) g.waits m t top some there in omega (arith, far s g.tasks# t h, e.0, e.1)))
    (λ (h : t ≤ 24). h)
    (below? 24 t)
