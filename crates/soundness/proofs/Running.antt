-- Who runs: the first of the first row that is not empty, found row by row, and in a sound state a live task that waits for nothing.
-- It rests on `best_from` of model/specs/Row and the tables' laws in Listed.
use mathlib.Core.Path.{◌≡◌}
use mathlib.Core.List.{List, [], ◌∷◌}
use mathlib.Core.Logic.{⊎_elim}
use Prim.Native.Nat.{ℕ, zero, suc, ◌+◌, ◌≤◌, ◌<◌}
use native.Mathlib.Omega.{arith}
use native.Mathlib.Nat.{eq-or-lt_of_le}
use lib.Dec.{T as So}
use borrow.Author.Tests.{eq-eqb, ne_eqb}
use Rattle.model.specs.declared.State.{State}
use Rattle.model.specs.declared.Queue.{Queue}
use Rattle.model.specs.Row.{first, row, first_of, best_from}
use Rattle.model.specs.Task.{nothing, level_of}
use Rattle.model.specs.State.{task, running}
use Rattle.model.specs.Test.{zeros, lists_only, padded}
use Rattle.model.specs.Sound.{Sound}
use Rattle.laws.proofs.Number.{same?}
use Rattle.laws.proofs.Record.{level_none}
use Rattle.soundness.proofs.Listed.{key_first}
use Rattle.soundness.proofs.Orderly.{sound_orderly, task_in}
use Rattle.soundness.proofs.Records.{level_live, level_priority}

-- the best of n rows from row l on: nobody, or who stands first in row i
pub data Best (ls : List Queue) (n l : ℕ) : ℕ → Type 0 where
  nobody : ((i : ℕ) → l ≤ i → i < l + n → first_of ls i ≡ 0) → Best ls n l 0
  stands : (i : ℕ) → l ≤ i → i < l + n → (first_of ls i ≡ 0 → ⊥) → ((j : ℕ) → l ≤ j → j < i → first_of ls j ≡ 0) → Best ls n l (first_of ls i)

pub best : (n l : ℕ) (ls : List Queue) → Best ls n l (best_from n l ls)
unfolding best_from
best zero l ls = nobody (λ i low top. absurd (omega arith))
best (suc n) l ls = ⊎_elim
    (λ (e : first_of ls l ≡ 0). rw (eq-eqb (first_of ls l) 0 e) (later e (best n (suc l) ls)))
    (λ (some : first_of ls l ≡ 0 → ⊥). rw (ne_eqb (first_of ls l) 0 some) (stands l (omega arith) (omega arith) some (λ j low top. absurd (omega arith))))
    (same? (first_of ls l) 0)
  where
    here : first_of ls l ≡ 0 → (m : ℕ) → ((j : ℕ) → suc l ≤ j → j < m → first_of ls j ≡ 0) → (j : ℕ) → l ≤ j → j < m → first_of ls j ≡ 0
    here e m more j low top = ⊎_elim
        (λ (z : l ≡ j). rw (← z) e)
        (λ (h : l < j). more j h top)
        (eq-or-lt_of_le low)

    later : first_of ls l ≡ 0 → {t : ℕ} → Best ls n (suc l) t → Best ls (suc n) l t
    later e (nobody more) = nobody (λ i low top. here e (l + suc n) (λ j a b. more j a (omega arith)) i low top)
    later e (stands i low top some more) = stands i (omega arith) (omega arith) some (here e i more)

-- a row where nobody stands first is all zeros
pub row_empty : (ls : List Queue) (l : ℕ) → So (padded (row ls l)) → first_of ls l ≡ 0 → So (zeros (row ls l))
unfolding zeros lists_only
row_empty ls l h e = go (row ls l) h e
  where
    go : (q : List ℕ) → So (padded q) → first q ≡ 0 → So (zeros q)
    go [] h e = tt
    go (x ∷ q) h e = rw (eq-eqb x 0 e) (rw (eq-eqb x 0 e) at h)

-- the task that runs
pub record Runner (s : State) : Type 0 where
  pub low : 1 ≤ running s
  pub top : running s ≤ 24
  pub live : 1 ≤ (task s (running s)).active
  pub idle : (task s (running s)).wait.kind ≡ nothing
  -- it is in a level, and first of that of its priority
  pub listed : 1 ≤ level_of (task s (running s))
  pub level : level_of (task s (running s)) ≡ (task s (running s)).priority
  pub first : first_of s.levels (task s (running s)).priority ≡ running s

pub runner : (s : State) → Sound s → 1 ≤ running s → Runner s
unfolding running
runner s k some = go (best 30 1 s.levels) some
  where
    found : {t : ℕ} → Best s.levels 30 1 t → 1 ≤ t → (1 ≤ level_of (task s t)) × (first_of s.levels (level_of (task s t)) ≡ t)
    found (nobody none) h = absurd (omega arith)
    found (stands i low top some better) h =
        let z = key_first s.levels 31 (λ t. level_of (task s t)) k.levels i (omega arith) some in
        (omega arith, rw z.1)

    go : Best s.levels 30 1 (running s) → 1 ≤ running s → Runner s
    go b h =
        let l = found b h in
        let i = task_in s (sound_orderly k) level_of level_none (running s) l.0 in
        let r = level_live (task s (running s)) l.0 in
        let p = level_priority (task s (running s)) l.0 in
        record { low = i.0; top = i.1; live = r.0; idle = r.1; listed = l.0; level = p; first = rw p at l.1 }
