-- The levels of records: what it is to be runnable, and which changes of its record leave a runnable task in its level.
-- It rests on the records of model/specs/Task.
use mathlib.Core.Path.{◌≡◌, refl}
use mathlib.Core.Bool.{Bool, true, false, cond, not, ◌&&◌}
use Prim.Native.Nat.{ℕ, ◌≤◌}
use lib.Dec.{T as So}
use Rattle.model.specs.declared.Task.{Task}
use Rattle.model.specs.declared.News.{News}
use Rattle.model.specs.Task.{is_dormant, is_suspended, is_waiting, is_runnable, level_of, ended, aged, told}
use Rattle.model.specs.Sound.{SoundTask}
use Rattle.laws.proofs.Padded.{both}
use Rattle.ways.proofs.Tests.{some_of}
use Rattle.soundness.proofs.Records.{level_live, live_made, told_keeps, aged_keeps}

pub level_runnable : (x : Task) (l : ℕ) → So (is_runnable x) → x.priority ≡ l → level_of x ≡ l
unfolding level_of
level_runnable x l h e = go (is_runnable x) h
  where
    go : (b : Bool) → So b → cond b x.priority 0 ≡ l
    go true h = e
    go false h = absurd h

-- a runnable task has a level
pub level_some : (x : Task) → SoundTask x → So (is_runnable x) → 1 ≤ x.priority
level_some x k h = (k.priority (live_made x k ((some_of x.active).yields (both (not (is_dormant x)) (not (is_suspended x) && not (is_waiting x)) h).0))).0

-- a runnable task waits for nothing, so the end of a wait, news and a tick leave it in its level
pub level_ended : (x : Task) (v b : ℕ) → 1 ≤ level_of x → level_of (ended x v b) ≡ level_of x
level_ended x v b h = let e = (level_live x h).1 in unfold level_of in rw e

pub level_told : (w : News) (x : Task) → 1 ≤ level_of x → level_of (told w x) ≡ level_of x
level_told w x h = told_keeps level_of w x (λ v b. level_ended x v b h)

pub level_aged : (x : Task) → 1 ≤ level_of x → level_of (aged x) ≡ level_of x
level_aged x h = aged_keeps level_of x (λ v b. level_ended x v b h) (λ d. unfold level_of in refl)
