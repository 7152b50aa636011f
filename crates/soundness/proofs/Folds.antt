-- What every move keeps outlasts a stop, the news to a queue and the fall of timeouts, as these are moves and nothing else.
-- It is said of any relation between a state and a later one; the numbers, which no move touches, are the first instance.
use mathlib.Core.Path.{◌≡◌, refl, ◌∙◌}
use mathlib.Core.Bool.{Bool, true, false, cond}
use mathlib.Core.List.{List, [], ◌∷◌}
use mathlib.Core.Logic.{⊎_elim}
use Prim.Native.Nat.{ℕ, zero, suc, ◌+◌, ◌≤◌, ◌<◌}
use native.Mathlib.Omega.{arith}
use lib.Dec.{eqb}
use borrow.Author.Tests.{eq-eqb, ne_eqb}
use Rattle.model.specs.declared.Task.{Task}
use Rattle.model.specs.declared.State.{State}
use Rattle.model.specs.declared.News.{News}
use Rattle.model.specs.Task.{dormant, activated, aged, told}
use Rattle.model.specs.State.{task, moved}
use Rattle.model.specs.Effect.{stopped, told_all, lapsed}
use Rattle.model.specs.Test.{occ}
use Rattle.laws.proofs.Number.{same?}
use Rattle.laws.proofs.Occ.{occ_cons, one_eq}

-- a relation that goes on from move to move
pub record Chained (R : State → State → Type 0) : Type 0 where
  pub same : (s : State) → R s s
  pub then : {s₁ s₂ s₃ : State} → R s₁ s₂ → R s₂ s₃ → R s₁ s₃

module _ {R : State → State → Type 0} (chained : Chained R) where
  pub by_stop : (u : ℕ) (s : State) → ((z : State) (x : Task) → R z (moved u x z)) → R s (stopped u s)
  unfolding stopped
  by_stop u s moves = go (eqb (task s u).activations 0)
    where
      x : Task
      x = dormant (task s u).base

      go : (b : Bool) → R s (cond b (moved u x s) (moved u (activated x) (moved u x s)))
      go true = moves s x
      go false = chained.then (moves s x) (moves (moved u x s) (activated x))

  pub by_news : (w : News) (q : List ℕ) (s : State) → ((z : State) (u : ℕ) → 1 ≤ u → 1 ≤ occ u q → R z (moved u (told w (task z u)) z)) → R s (told_all w q s)
  unfolding told_all
  by_news w [] s moves = chained.same s
  by_news w (u ∷ q) s moves = ⊎_elim
      (λ (z : u ≡ 0). rw (eq-eqb u 0 z) (chained.same s))
      (λ (n : u ≡ 0 → ⊥). rw (ne_eqb u 0 n)
      (chained.then (moves s u (omega arith) (omega (arith, occ_cons u u q, one_eq u u refl)))
      (by_news w q (moved u (told w (task s u)) s) (λ z i low there. moves z i low (omega (arith, occ_cons i u q))))))
      (same? u 0)

  pub by_fall : (n i : ℕ) (s : State) → ((z : State) (u : ℕ) → i ≤ u → u < n + i → R z (moved u (aged (task z u)) z)) → R s (lapsed n i s)
  unfolding lapsed
  by_fall zero i s moves = chained.same s
  by_fall (suc n) i s moves = chained.then (moves s i (omega arith) (omega arith)) (by_fall n (suc i) (moved i (aged (task s i)) s) (λ z u low top. moves z u (omega arith) (omega arith)))

-- ---- the numbers
abbrev SameNumbers : State → State → Type 0
SameNumbers s s' = s'.numbers ≡ s.numbers

numbers : Chained SameNumbers
numbers = record { same = λ s. refl; then = λ a b. b ∙ a }

pub numbers_moved : (s : State) (u : ℕ) (x : Task) → SameNumbers s (moved u x s)
unfolding moved
numbers_moved s u x = refl

pub numbers_stopped : (s : State) (u : ℕ) → SameNumbers s (stopped u s)
numbers_stopped s u = by_stop numbers u s (λ z x. numbers_moved z u x)

pub numbers_told : (w : News) (q : List ℕ) (s : State) → SameNumbers s (told_all w q s)
numbers_told w q s = by_news numbers w q s (λ z u low there. numbers_moved z u (told w (task z u)))

pub numbers_lapsed : (n i : ℕ) (s : State) → SameNumbers s (lapsed n i s)
numbers_lapsed n i s = by_fall numbers n i s (λ z u low top. numbers_moved z u (aged (task z u)))
