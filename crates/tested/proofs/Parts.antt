-- What the test of a state says, part by part and in its own order.
-- Rests on Records for the tasks, on Numbers for the other tables and on Listed for the two tables of queues.
use mathlib.Core.Path.{◌≡◌}
use Prim.Native.Nat.{ℕ, ◌≤◌, ◌<◌}
use lib.Dec.{T as So}
use lib.ListN.{length}
use Rattle.model.specs.declared.Wait.{Wait}
use Rattle.model.specs.declared.State.{State}
use Rattle.model.specs.Row.{first_of, second_of}
use Rattle.model.specs.Flag.{flag_row}
use Rattle.model.specs.DataQueue.{queue_row}
use Rattle.model.specs.Task.{no_task, level_of, row_of}
use Rattle.model.specs.State.{task, slice, count, maximum, attribute, bits_of, capacity_of, taken_of, elements_of}
use Rattle.model.specs.Plan.{is_slice}
use Rattle.model.specs.Test.{lists_exactly, is_task_sound, is_charge_of, is_count_sound, is_flag_sound, is_unmet, is_stock_sound, is_unserved_in, is_sized, is_origin, is_sound}
use Rattle.model.specs.Sound.{SoundTask, SoundCharge}
use Rattle.laws.proofs.Says.{Says, says_as, says_same, says_eq, says_le, says_and, says_below}
use Rattle.tested.proofs.Numbers.{Counted, Flagged, Unmet, Stocked, Unserved, says_charge, says_count, says_flag, says_unmet, says_stock, says_unserved}
use Rattle.tested.proofs.Records.{says_blank, says_task}
use Rattle.tested.proofs.Listed.{Queues, says_queues}

pub record Sized (s : State) : Type 0 where
  pub tasks# : length s.tasks ≡ 25
  pub levels# : Queues 31 s.levels
  pub waits# : Queues 29 s.waits
  pub slices# : length s.numbers.slices ≡ 31
  pub counts# : length s.numbers.counts ≡ 13
  pub maxima# : length s.numbers.maxima ≡ 13
  pub attributes# : length s.numbers.attributes ≡ 9
  pub bits# : length s.numbers.bits ≡ 9
  pub capacities# : length s.numbers.capacities ≡ 9
  pub taken# : length s.numbers.taken ≡ 9
  pub elements# : length s.numbers.elements ≡ 144

abbrev pub Origin : State → Type 0
Origin s = (task s 0 ≡ no_task) × (slice s 0 ≡ 0) × (count s 0 ≡ 0) × (maximum s 0 ≡ 0) × (attribute s 0 ≡ 0) × (bits_of s 0 ≡ 0) × (capacity_of s 0 ≡ 0)

-- of a wait in a state
abbrev pub UnservedIn : State → Wait → Type 0
UnservedIn s w = Unserved w (capacity_of s w.object) (taken_of s w.object) (task s (first_of s.waits (queue_row w.object))).wait.kind

pub record Parts (s : State) : Type 0 where
  pub sized : Sized s
  pub origin : Origin s
  pub tasks : (t : ℕ) → t < 25 → SoundTask (task s t)
  pub slices : (l : ℕ) → l < 31 → slice s l ≤ 1000
  pub charges : (t : ℕ) → t < 25 → SoundCharge s.levels s.numbers.slices t (task s t)
  pub counts : (m : ℕ) → m < 13 → Counted (count s m) (maximum s m) (first_of s.waits m)
  pub flags : (f : ℕ) → f < 9 → Flagged (attribute s f) (bits_of s f) (first_of s.waits (flag_row f)) (second_of s.waits (flag_row f))
  pub unmet : (t : ℕ) → t < 25 → Unmet (task s t).wait (bits_of s (task s t).wait.object)
  pub stocks : (q : ℕ) → q < 9 → Stocked (capacity_of s q) (taken_of s q) (elements_of s q) (first_of s.waits (queue_row q))
  pub unserved : (t : ℕ) → t < 25 → UnservedIn s (task s t).wait
  pub levels : So (lists_exactly s.levels 31 (λ t. level_of (task s t)))
  pub waits : So (lists_exactly s.waits 29 (λ t. row_of (task s t)))

module _ (s : State) where
  says_sized : Says (is_sized s) (Sized s)
  says_sized = says_as
      (λ p. let q = p.1.1.1 in record {
        tasks# = p.0;
        levels# = p.1.0;
        waits# = p.1.1.0;
        slices# = q.0;
        counts# = q.1.0;
        maxima# = q.1.1.0;
        attributes# = q.1.1.1.0;
        bits# = q.1.1.1.1.0;
        capacities# = q.1.1.1.1.1.0;
        taken# = q.1.1.1.1.1.1.0;
        elements# = q.1.1.1.1.1.1.1;
      })
      (λ z. (z.tasks#, (z.levels#, (z.waits#, (z.slices#, (z.counts#, (z.maxima#, (z.attributes#, (z.bits#, (z.capacities#, (z.taken#, z.elements#)))))))))))
      (says_and says_eq (says_and (says_queues 31 s.levels) (says_and (says_queues 29 s.waits)
      (says_and says_eq (says_and says_eq (says_and says_eq (says_and says_eq (says_and says_eq (says_and says_eq (says_and says_eq says_eq))))))))))

  says_origin : Says (is_origin s) (Origin s)
  says_origin = says_as
      (λ p. let q = p.1.1.1.1 in (p.0, p.1.0, p.1.1.0, p.1.1.1.0, q.0, q.1.0, q.1.1))
      (λ p. (p.0, (p.1, (p.2, (p.3, (p.4, (p.5, p.6)))))))
      (says_and (says_blank (task s 0)) (says_and says_eq (says_and says_eq (says_and says_eq (says_and says_eq (says_and says_eq says_eq))))))

  says_unserved_in : (w : Wait) → Says (is_unserved_in s w) (UnservedIn s w)
  says_unserved_in w = says_unserved w (capacity_of s w.object) (taken_of s w.object) (task s (first_of s.waits (queue_row w.object))).wait.kind

  pub says_parts : Says (is_sound s) (Parts s)
  unfolding is_sound
  says_parts = says_as
      (λ p. let q = p.1.1.1 in record {
        sized = p.0;
        origin = p.1.0;
        tasks = p.1.1.0;
        slices = q.0;
        charges = q.1.0;
        counts = q.1.1.0;
        flags = q.1.1.1.0;
        unmet = q.1.1.1.1.0;
        stocks = q.1.1.1.1.1.0;
        unserved = q.1.1.1.1.1.1.0;
        levels = q.1.1.1.1.1.1.1.0;
        waits = q.1.1.1.1.1.1.1.1;
      })
      (λ h. (h.sized, (h.origin, (h.tasks, (h.slices, (h.charges, (h.counts, (h.flags, (h.unmet, (h.stocks, (h.unserved, (h.levels, h.waits))))))))))))
      (says_and says_sized (says_and says_origin
      (says_and (says_below 25 (λ t. is_task_sound (task s t)) (λ t. SoundTask (task s t)) (λ t. says_task (task s t)))
      (says_and (says_below 31 (λ l. is_slice (slice s l)) (λ l. slice s l ≤ 1000) (λ l. says_le))
      (says_and
      (says_below 25 (λ t. is_charge_of s.levels s.numbers.slices t (task s t)) (λ t. SoundCharge s.levels s.numbers.slices t (task s t))
      (λ t. says_charge s.levels s.numbers.slices t (task s t)))
      (says_and
      (says_below 13 (λ m. is_count_sound (count s m) (maximum s m) (first_of s.waits m)) (λ m. Counted (count s m) (maximum s m) (first_of s.waits m))
      (λ m. says_count (count s m) (maximum s m) (first_of s.waits m)))
      (says_and
      (says_below 9 (λ f. is_flag_sound (attribute s f) (bits_of s f) (first_of s.waits (flag_row f)) (second_of s.waits (flag_row f)))
      (λ f. Flagged (attribute s f) (bits_of s f) (first_of s.waits (flag_row f)) (second_of s.waits (flag_row f)))
      (λ f. says_flag (attribute s f) (bits_of s f) (first_of s.waits (flag_row f)) (second_of s.waits (flag_row f))))
      (says_and
      (says_below 25 (λ t. is_unmet (task s t).wait (bits_of s (task s t).wait.object)) (λ t. Unmet (task s t).wait (bits_of s (task s t).wait.object)) (λ t. says_unmet (task s t).wait (bits_of s (task s t).wait.object)))
      (says_and
      (says_below 9 (λ q. is_stock_sound (capacity_of s q) (taken_of s q) (elements_of s q) (first_of s.waits (queue_row q)))
      (λ q. Stocked (capacity_of s q) (taken_of s q) (elements_of s q) (first_of s.waits (queue_row q)))
      (λ q. says_stock (capacity_of s q) (taken_of s q) (elements_of s q) (first_of s.waits (queue_row q))))
      (says_and (says_below 25 (λ t. is_unserved_in s (task s t).wait) (λ t. UnservedIn s (task s t).wait) (λ t. says_unserved_in (task s t).wait))
      (says_and (says_same (lists_exactly s.levels 31 (λ t. level_of (task s t)))) (says_same (lists_exactly s.waits 29 (λ t. row_of (task s t)))))))))))))))
