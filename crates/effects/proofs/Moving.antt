-- Moves of a state, and the loops made of them: a tick's timeouts, the news to those in a queue.
-- Each law says what one turn of a loop leaves to do; they rest on the definitions alone.
use mathlib.Core.Path.{◌≡◌, refl, ap, ◌∙◌}
use mathlib.Core.Bool.{and-false}
use mathlib.Core.List.{List, ◌∷◌}
use Prim.Native.Nat.{ℕ, suc, ◌+◌, ◌-◌, ◌≤◌, ◌<◌}
use native.Mathlib.Numerals.{add-one}
use native.Mathlib.Omega.{arith}
use lib.ListN.{get_or, set, length, drop, drop_of_length-le}
use lib.Seq.{drop-cons}
use borrow.Author.Tests.{eq-eqb, ne_eqb}
use Rattle.model.specs.declared.Queue.{Queue}
use Rattle.model.specs.declared.Task.{Task}
use Rattle.model.specs.declared.State.{State}
use Rattle.model.specs.declared.News.{News}
use Rattle.model.specs.Row.{relisted}
use Rattle.model.specs.Task.{level_of, row_of, settled, aged, ended, told, ran_out, with_remaining, endless}
use Rattle.model.specs.State.{moved, moved_from, task, time}
use Rattle.model.specs.Effect.{lapsed, told_all}

-- ---- a move in the tables
kept : (ls : List Queue) (f g t : ℕ) → g ≡ f → relisted ls f g t ≡ ls
unfolding relisted
kept ls f g t e = rw (e, eq-eqb f f refl)

-- the level stays, and so do the marks
settled_kept : (now : ℕ) (k x : Task) → level_of x ≡ level_of k → x.charge ≡ k.charge → settled now k x ≡ x
settled_kept now k x e f = rw (e, eq-eqb (level_of k) (level_of k) refl, and-false, ← f)

-- a record whose queues and charge stay the same
pub moved_kept : (s : State) (t : ℕ) (x : Task) → level_of x ≡ level_of (task s t) → row_of x ≡ row_of (task s t) → x.charge ≡ (task s t).charge
    → moved t x s ≡ record { tasks = set s.tasks t x; levels = s.levels; waits = s.waits; numbers = s.numbers }
unfolding moved
moved_kept s t x e f g =
    rw (kept s.levels (level_of (task s t)) (level_of x) t e, kept s.waits (row_of (task s t)) (row_of x) t f)
    (ap (λ (y : Task). record { tasks = set s.tasks t y; levels = s.levels; waits = s.waits; numbers = s.numbers }) (settled_kept (time s) (task s t) x e g))

-- k is the task's record
pub moved_from_lem : (s : State) (t : ℕ) (k x : Task) → k ≡ task s t → moved_from t k x s ≡ moved t x s
unfolding moved
moved_from_lem s t k x e = rw e

-- ---- a record after a tick
pub untimed : (x : Task) → x.wait.remaining ≡ 0 → aged x ≡ x
unfolding aged
untimed x e = rw (eq-eqb _ _ e)

pub unending : (x : Task) → (x.wait.remaining ≡ 0 → ⊥) → x.wait.remaining ≡ endless → aged x ≡ x
unfolding aged
unending x z e = rw (ne_eqb _ _ z, eq-eqb _ _ e)

pub falling : (x : Task) → (x.wait.remaining ≡ 0 → ⊥) → (x.wait.remaining ≡ endless → ⊥) → (x.wait.remaining ≡ 1 → ⊥) → aged x ≡ with_remaining x (x.wait.remaining - 1)
unfolding aged
falling x z e o = rw (ne_eqb _ _ z, ne_eqb _ _ e, ne_eqb _ _ o)

pub ending : (x : Task) → (x.wait.remaining ≡ 0 → ⊥) → (x.wait.remaining ≡ endless → ⊥) → x.wait.remaining ≡ 1 → aged x ≡ ended x (ran_out x) 0
unfolding aged
ending x z e o = rw (ne_eqb _ _ z, ne_eqb _ _ e, eq-eqb _ _ o)

-- ---- the timeouts of a tick
-- one turn: task t's record is aged, and the rest is left
pub turn : (s : State) (t : ℕ) (w : State) → t < 25 → lapsed (25 - t) t s ≡ w → (s' : State) → moved t (aged (task s t)) s ≡ s' → lapsed (25 - (t + 1)) (t + 1) s' ≡ w
unfolding lapsed
turn s t w h i s' m =
    let e : 25 - t ≡ suc (25 - suc t) = omega arith in
    let j : lapsed (25 - suc t) (suc t) (moved t (aged (task s t)) s) ≡ w = rw e at i in
    rw (← m, add-one t) j

-- nobody is left
pub lapse_end : (t : ℕ) (s w : State) → 25 ≤ t → lapsed (25 - t) t s ≡ w → s ≡ w
unfolding lapsed
lapse_end t s w h i = let e : 25 - t ≡ 0 = omega arith in rw e at i

-- ---- the news to those in a queue
module _ (v : News) (q : List ℕ) (i : ℕ) (s w : State) (h : i < length q) (e : told_all v (drop i q) s ≡ w) where
  -- a 0 ends the queue
  pub over : get_or q i 0 ≡ 0 → s ≡ w
  unfolding told_all
  over z = (rw (drop-cons q i 0 h, eq-eqb _ _ z) refl) ∙ e

  -- the next is told
  pub next : (t : ℕ) (k x : Task) (s' : State) → t ≡ get_or q i 0 → (t ≡ 0 → ⊥) → k ≡ task s t → x ≡ told v k → s' ≡ moved_from t k x s → told_all v (drop (i + 1) q) s' ≡ w
  unfolding told_all
  next t k x s' d z f g m =
      let j : told_all v (get_or q i 0 ∷ drop (suc i) q) s ≡ w = rw (drop-cons q i 0 h) at e in
      rw (add-one i, m, moved_from_lem s t k x f, g, f) (rw (← d, ne_eqb t 0 z) at j)

-- nobody is left
pub end : (v : News) (q : List ℕ) (i : ℕ) (s w : State) → length q ≤ i → told_all v (drop i q) s ≡ w → s ≡ w
unfolding told_all
end v q i s w h e = rw (drop_of_length-le q h) at e
