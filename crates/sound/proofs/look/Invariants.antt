-- What the loop of `sound::look` keeps.
use mathlib.Core.Path.{◌≡◌}
use mathlib.Core.List.{map}
use lib.ListN.{length, take}
use Rattle.model.specs.Task.{level_of, row_of}
use Rattle.model.specs.Test.{below}
use Rattle.sound.specs.Parts.{task_at, charge_at, unmet_at, unserved_at}
use Rattle.sound.proofs.look.Given as goal

abbrev pub invariant-loop-t : goal.invariant-loop-t
invariant-loop-t l =
    let xs = l.s.tasks in
    (length l.by_level ≡ 25) × (length l.by_row ≡ 25) × (l.sound ≡ below l.t (task_at xs)) × (l.charges ≡ below l.t (charge_at xs l.s.levels l.s.numbers.slices))
    × (l.unmet ≡ below l.t (unmet_at xs l.s.numbers.bits)) × (l.unserved ≡ below l.t (unserved_at l.s))
    × (take l.t l.by_level ≡ take l.t (map level_of xs)) × (take l.t l.by_row ≡ take l.t (map row_of xs))
