-- What a state has stored in data queue q, and its capacity, once a queue was stocked or sized: q's own if it was q, and as it was if it was another.
-- It rests on the laws of a queue's places (laws: Places).
use mathlib.Core.Path.{◌≡◌, sym, ap, ◌∙◌}
use mathlib.Core.List.{List, ◌∷◌, [], ◌++◌}
use mathlib.Core.Logic.{⊎_elim}
use Prim.Native.Nat.{ℕ, ◌+◌, ◌-◌, ◌≤◌, ◌<◌}
use native.Mathlib.Omega.{arith}
use lib.ListN.{length, get_or, take}
use lib.Seq.{get_or-set_same, get_or-set_other}
use Rattle.model.specs.declared.State.{State}
use Rattle.model.specs.DataQueue.{put, pulled}
use Rattle.model.specs.State.{capacity_of, taken_of, elements_of, stocked, sized}
use Rattle.model.specs.Sound.{Sound}
use Rattle.laws.proofs.Number.{same?}
use Rattle.laws.proofs.Places.{length-put, length-pulled, stored_put, stored_pulled, stored_on, length_places, places_same, places_other}
use Rattle.order.specs.Statements.{stored_in}

module _ (s : State) (k : Sound s) (q : ℕ) (top : q ≤ 8) where
  -- ---- another queue
  module _ (z : State) (same : z.numbers ≡ s.numbers) (n : ℕ) (most : n ≤ 8) (apart : n ≡ q → ⊥) where
    pub stored_else : (m : ℕ) (ps : List ℕ) → length ps ≡ 16 → stored_in (stocked n m ps z) q ≡ stored_in s q
    unfolding stocked
    stored_else m ps size = rw (same, get_or-set_other s.numbers.taken n q m 0 (λ e. apart (sym e)), places_other s.numbers.elements k.queues.elements# n ps most size q top (λ e. apart (sym e)))

    pub capacity_else : (c : ℕ) → capacity_of (sized n c z) q ≡ capacity_of s q
    unfolding sized
    capacity_else c = rw same (get_or-set_other s.numbers.capacities n q c 0 (λ e. apart (sym e)))

  -- ---- q itself
  stored_now : (n : ℕ) (ps : List ℕ) → length ps ≡ 16 → stored_in (stocked q n ps s) q ≡ take n ps
  unfolding stocked
  stored_now n ps size = rw (get_or-set_same s.numbers.taken q n 0 (omega (arith, k.queues.taken#)), places_same s.numbers.elements k.queues.elements# q ps top size)

  pub size : length (elements_of s q) ≡ 16
  size = length_places s.numbers.elements k.queues.elements# q top

  -- at most 16 are stored
  pub few : taken_of s q ≤ 16
  few = ⊎_elim (λ (e : capacity_of s q ≡ 0). omega (arith, k.queues.none q e)) (λ (made : capacity_of s q ≡ 0 → ⊥). omega (arith, k.queues.within q (omega (arith, made)), k.queues.capacities q)) (same? (capacity_of s q) 0)

  pub stored_joined : (e : ℕ) → taken_of s q + 1 < capacity_of s q → stored_in (stocked q (taken_of s q + 1) (put (elements_of s q) (taken_of s q) e) s) q ≡ stored_in s q ++ (e ∷ [])
  stored_joined e room =
      stored_now (taken_of s q + 1) (put (elements_of s q) (taken_of s q) e) (length-put (elements_of s q) (taken_of s q) e ∙ size)
      ∙ stored_put (elements_of s q) (taken_of s q) e (omega (arith, size, room, k.queues.capacities q))

  module _ (some : 1 ≤ taken_of s q) where
    -- the oldest, and those behind it
    pub stored_first : stored_in s q ≡ get_or (elements_of s q) 0 0 ∷ stored_in (stocked q (taken_of s q - 1) (pulled (elements_of s q)) s) q
    stored_first = stored_pulled (elements_of s q) (taken_of s q) some (omega (arith, size, few)) ∙ ap (λ (l : List ℕ). get_or (elements_of s q) 0 0 ∷ l)
        (sym (stored_now (taken_of s q - 1) (pulled (elements_of s q)) (length-pulled (elements_of s q) ∙ size)))

    -- it goes, and e comes in behind them
    pub stored_passed : (e : ℕ) → stored_in (stocked q (taken_of s q) (put (pulled (elements_of s q)) (taken_of s q - 1) e) s) q ≡ take (taken_of s q - 1) (pulled (elements_of s q)) ++ (e ∷ [])
    stored_passed e =
        stored_now (taken_of s q) (put (pulled (elements_of s q)) (taken_of s q - 1) e) (length-put (pulled (elements_of s q)) (taken_of s q - 1) e ∙ length-pulled (elements_of s q) ∙ size)
        ∙ stored_on (elements_of s q) (taken_of s q) e some (omega (arith, size, few))

    pub stored_oldest : stored_in s q ≡ get_or (elements_of s q) 0 0 ∷ take (taken_of s q - 1) (pulled (elements_of s q))
    stored_oldest = stored_pulled (elements_of s q) (taken_of s q) some (omega (arith, size, few))
