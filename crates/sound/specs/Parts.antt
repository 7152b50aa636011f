-- The test of soundness in parts, each over the tables that it looks at: of a record, a charge, a slice, a semaphore's count, a flag, a data
-- queue, and what one walk over the records sees. Each is a line of model/specs/Test.
use Rattle.std.specs.Prelude.{Bool, List, map, ℕ, get_or}
use Rattle.model.specs.declared.Queue.{Queue}
use Rattle.model.specs.declared.Task.{Task}
use Rattle.model.specs.declared.Numbers.{Numbers}
use Rattle.model.specs.declared.State.{State}
use Rattle.model.specs.Row.{first_of, second_of}
use Rattle.model.specs.Flag.{flag_row}
use Rattle.model.specs.DataQueue.{places_of, queue_row}
use Rattle.model.specs.Task.{no_task, level_of, row_of}
use Rattle.model.specs.State.{task}
use Rattle.model.specs.Plan.{is_slice}
use Rattle.model.specs.Test.{below, is_task_sound, is_charge_of, is_unmet, is_unserved_in, is_count_sound, is_flag_sound, is_stock_sound}
use Rattle.sound.specs.declared.Seen.{Seen}

abbrev pub task_at : List Task → ℕ → Bool
task_at xs t = is_task_sound (get_or xs t no_task)

-- of the levels and their slices
abbrev pub charge_at : List Task → List Queue → List ℕ → ℕ → Bool
charge_at xs levels slices t = is_charge_of levels slices t (get_or xs t no_task)

-- of the flags' bits
abbrev pub unmet_at : List Task → List ℕ → ℕ → Bool
unmet_at xs bits t = is_unmet (get_or xs t no_task).wait (get_or bits (get_or xs t no_task).wait.object 0)

-- of the data queues: their numbers and their first waiters
abbrev pub unserved_at : State → ℕ → Bool
unserved_at s t = is_unserved_in s (task s t).wait

abbrev pub slice_at : Numbers → ℕ → Bool
slice_at x l = is_slice (get_or x.slices l 0)

abbrev pub count_at : Numbers → List Queue → ℕ → Bool
count_at x waits m = is_count_sound (get_or x.counts m 0) (get_or x.maxima m 0) (first_of waits m)

abbrev pub flag_at : Numbers → List Queue → ℕ → Bool
flag_at x waits f = is_flag_sound (get_or x.attributes f 0) (get_or x.bits f 0) (first_of waits (flag_row f)) (second_of waits (flag_row f))

abbrev pub stock_at : Numbers → List Queue → ℕ → Bool
stock_at x waits q = is_stock_sound (get_or x.capacities q 0) (get_or x.taken q 0) (places_of x.elements q) (first_of waits (queue_row q))

abbrev pub seen_in : State → Seen
seen_in s = record {
  sound = below 25 (task_at s.tasks);
  charges = below 25 (charge_at s.tasks s.levels s.numbers.slices);
  unmet = below 25 (unmet_at s.tasks s.numbers.bits);
  unserved = below 25 (unserved_at s);
  levels = map level_of s.tasks;
  rows = map row_of s.tasks;
}
