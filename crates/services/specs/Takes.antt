-- What a service takes in each field of its line: nothing, a number, or a timeout, which may also be the endless wait.
-- It rests on the table of services, whose kinds of numbers decide it.
use Rattle.std.specs.Prelude.{ℕ, zero, suc, List, [], ◌∷◌}
use Rattle.model.specs.Services.{Field, the_task, the_priority, the_option, the_level, the_slice, the_timeout, the_semaphore, the_start, the_maximum, the_flag, the_attributes, the_bits, the_pattern, the_mode, the_queue, the_capacity, the_element, service}
use Rattle.services.specs.declared.takes.Takes.{Takes}
use Rattle.services.specs.declared.takes.Takes.TheVariants.{Blank, Plain, Timeout}

-- of all numbers a timeout alone can be endless
abbrev pub takes_of : Field → Takes
takes_of the_task = Plain
takes_of the_priority = Plain
takes_of the_option = Plain
takes_of the_level = Plain
takes_of the_slice = Plain
takes_of the_timeout = Timeout
takes_of the_semaphore = Plain
takes_of the_start = Plain
takes_of the_maximum = Plain
takes_of the_flag = Plain
takes_of the_attributes = Plain
takes_of the_bits = Plain
takes_of the_pattern = Plain
takes_of the_mode = Plain
takes_of the_queue = Plain
takes_of the_capacity = Plain
takes_of the_element = Plain

-- at a place among numbers, from 0 on; past the last of them a field is blank
unfoldable pub takes_in : List Field → ℕ → Takes
takes_in [] i = Blank
takes_in (x ∷ xs) zero = takes_of x
takes_in (x ∷ xs) (suc i) = takes_in xs i

-- in the field a, b, c or d, at the place 0, 1, 2 or 3 of a service's numbers
unfoldable pub takes_at : ℕ → ℕ → Takes
takes_at n i = takes_in (service n).fields i
