-- Laws by which the loops over the tables go on, and what crossing off says of the tasks' own records.
-- Rests on crossing/proofs/Exactly.
use mathlib.Core.Path.{◌≡◌, refl, sym, ap, ◌∙◌}
use mathlib.Core.Bool.{Bool, true, ◌&&◌}
use mathlib.Core.List.{List, map}
use Prim.Native.Nat.{ℕ, ◌+◌, ◌≤◌, ◌<◌}
use native.Mathlib.Numerals.{add-one}
use native.Mathlib.Omega.{arith}
use lib.ListN.{length, take, get_or, set, length-map, get_or-map}
use lib.Seq.{take-suc, take-suc-set, take_all}
use Rattle.model.specs.declared.Queue.{Queue}
use Rattle.model.specs.declared.Task.{Task}
use Rattle.model.specs.Task.{no_task}
use Rattle.model.specs.Test.{below, lists_exactly}
use Rattle.crossing.specs.Crossing.{crosses_all}
use Rattle.crossing.proofs.Exactly.{exactly}

-- a test at each number below n, one number further
pub below_on : (f : ℕ → Bool) (i : ℕ) {here so_far : Bool} → here ≡ f i → so_far ≡ below i f → (here && so_far) ≡ below (i + 1) f
unfolding below
below_on f i p q = rw (add-one, p, q)

pub below_none : (f : ℕ → Bool) → true ≡ below 0 f
unfolding below
below_none f = refl

-- a table that is filled from the front with what g gives of each element
module _ {A : Type 0} (g : A → ℕ) (xs : List A) where
  pub fill_on : (w : List ℕ) (i : ℕ) (d : A) → i < length w → i < length xs → take i w ≡ take i (map g xs)
      → take (i + 1) (set w i (g (get_or xs i d))) ≡ take (i + 1) (map g xs)
  fill_on w i d hw hx e =
      rw (add-one, take-suc-set w i _ hw, take-suc (map g xs) i (g d) (rw length-map hx), get_or-map g xs i d, e)

  pub fill_end : (w : List ℕ) (i : ℕ) → length w ≤ i → length xs ≤ i → take i w ≡ take i (map g xs) → w ≡ map g xs
  fill_end w i hw hx e = sym (take_all i w hw) ∙ e ∙ take_all i (map g xs) (rw length-map hx)

-- crossing off what the tasks' records want
pub wanted_exactly : (g : Task → ℕ) (n : ℕ) (qs : List Queue) (xs : List Task) → length qs ≡ n → length xs ≡ 25 → g no_task ≡ 0 → g (get_or xs 0 no_task) ≡ 0
    → crosses_all 0 qs (map g xs) ≡ lists_exactly qs n (λ t. g (get_or xs t no_task))
wanted_exactly g n qs xs hq hx none origin =
    exactly n qs (map g xs) hq (rw length-map (omega arith)) (at 0 ∙ origin) (λ t. g (get_or xs t no_task)) (λ t. sym (at t))
  where
    at : (t : ℕ) → get_or (map g xs) t 0 ≡ g (get_or xs t no_task)
    at t = ap (λ (d : ℕ). get_or (map g xs) t d) (sym none) ∙ get_or-map g xs t no_task
