-- One sound state, and for each sentence of 'A sound state' what breaks it: the test accepts the first and refuses every other.
-- So a clause that went missing from the test is refused here.
use mathlib.Core.Path.{◌≡◌}
use mathlib.Core.Bool.{Bool, true, false, not, ◌&&◌}
use mathlib.Core.List.{List, [], ◌∷◌}
use Prim.Native.Nat.{ℕ}
use lib.Dec.{T as So}
use lib.ListN.{set, take}
use Rattle.model.specs.declared.Task.{Task}
use Rattle.model.specs.declared.State.{State}
use Rattle.model.specs.declared.Context.{Context}
use Rattle.model.specs.declared.Call.{Call}
use Rattle.model.specs.declared.Code.TheVariants.{Unsound}
use Rattle.model.specs.Row
use Rattle.model.specs.Row.{row, with_row}
use Rattle.model.specs.Flag
use Rattle.model.specs.DataQueue
use Rattle.model.specs.DataQueue.{no_elements, put}
use Rattle.model.specs.Task as Record
use Rattle.model.specs.Task.{no_task, of_active, of_code, of_handed, of_spare, with, with_wait, asleep, on_semaphore, on_flag, dormant, activated, waiting, with_priority, with_suspended, with_wakeups, with_activations, with_remaining}
use Rattle.model.specs.State
use Rattle.model.specs.Task.{to_send, to_receive}
use Rattle.model.specs.State.{fresh, task, moved, counted, flagged, stocked, sized, sliced, marked, recharged}
use Rattle.model.specs.Plan
use Rattle.model.specs.Test
use Rattle.model.specs.Call as Calls

-- 1 runs at level 5, 2 waits on semaphore 3 (maximum 7) for 9 ticks, 4 sleeps, 6 is dormant, 7 waits for both bits 6 of flag 2 (SINGLE, bits 3),
-- 10 and 11 are the tasks of level 12; levels 5 and 12 have slice 4, and 1 and 10 charge 2; 1 and 2 have a time of entry; 12 waits to send 0 to data
-- queue 2 (capacity 2, elements 8 and 0), 13 waits to receive from data queue 3 (capacity 0), data queue 4 (capacity 16) has the element 7
-- the places of a data queue that has these two elements
holding : ℕ → ℕ → List ℕ
holding e f = put (put no_elements 0 e) 1 f

pub sound : State
sound =
    sized 4 17 (stocked 4 1 (holding 7 0) (sized 3 1 (sized 2 3 (stocked 2 2 (holding 8 0)
    (moved 13 (waiting (activated (dormant 9)) (to_receive 3 9)) (moved 12 (waiting (activated (dormant 9)) (to_send 2 0 9))
    (marked 2 0 4294967295 (recharged 10 2 (marked 1 2 7 (sliced 12 4 (sliced 5 4 (flagged 2 2 3 (counted 3 0 7
    (moved 11 (activated (dormant 12)) (moved 10 (activated (dormant 12)) (moved 7 (waiting (activated (dormant 9)) (on_flag 2 6 1 9)) (moved 6 (dormant 8) (moved 4 (waiting (activated (dormant 30)) (asleep 4294967295))
    (moved 2 (waiting (activated (dormant 5)) (on_semaphore 3 9)) (moved 1 (activated (dormant 5)) fresh))))))))))))))))))))

-- the state with another record, or another number at a place of a queue, and nothing else changed
recorded : ℕ → Task → State
recorded t x = record { tasks = set sound.tasks t x; levels = sound.levels; waits = sound.waits; numbers = sound.numbers }

levelled : ℕ → ℕ → ℕ → State
levelled l i t = record { tasks = sound.tasks; levels = with_row sound.levels l (set (row sound.levels l) i t); waits = sound.waits; numbers = sound.numbers }

queued : ℕ → ℕ → ℕ → State
queued m i t = record { tasks = sound.tasks; levels = sound.levels; waits = with_row sound.waits m (set (row sound.waits m) i t); numbers = sound.numbers }

-- a table that is cut short, and a queue that is
tabled : List ℕ → State
tabled ns = record { tasks = sound.tasks; levels = sound.levels; waits = sound.waits; numbers = record { slices = sound.numbers.slices; counts = ns; maxima = sound.numbers.maxima; attributes = sound.numbers.attributes; bits = sound.numbers.bits; time = 0; capacities = sound.numbers.capacities; taken = sound.numbers.taken; elements = sound.numbers.elements } }

shortened : ℕ → State
shortened l = record { tasks = sound.tasks; levels = with_row sound.levels l (take 23 (row sound.levels l)); waits = sound.waits; numbers = sound.numbers }

narrowed : ℕ → State
narrowed m = record { tasks = sound.tasks; levels = sound.levels; waits = with_row sound.waits m (take 23 (row sound.waits m)); numbers = sound.numbers }

with_code : Task → ℕ → Task
with_code x v = with of_code v x

with_active : Task → ℕ → Task
with_active x n = with of_active n x

-- another kind of wait and object
with_object : Task → ℕ → ℕ → Task
with_object x w n = let y = x.wait in with_wait (record { kind = w; object = n; mode = y.mode; spare = y.spare; remaining = y.remaining; pattern = y.pattern }) x

-- what is asked for, and what is handed over
with_ask : Task → ℕ → ℕ → ℕ → Task
with_ask x p m b = let y = x.wait in with of_handed b (with_wait (record { kind = y.kind; object = y.object; mode = m; spare = y.spare; remaining = y.remaining; pattern = p }) x)

-- the unused byte of its wait
with_unused : Task → ℕ → Task
with_unused x n = let y = x.wait in with_wait (record { kind = y.kind; object = y.object; mode = y.mode; spare = n; remaining = y.remaining; pattern = y.pattern }) x

abbrev runner : Task
runner = activated (dormant 5)

abbrev waiter : Task
waiter = waiting (activated (dormant 5)) (on_semaphore 3 9)

abbrev sleeper : Task
sleeper = waiting (activated (dormant 30)) (asleep 4294967295)

abbrev idler : Task
idler = dormant 8

abbrev asker : Task
asker = waiting (activated (dormant 9)) (on_flag 2 6 1 9)

abbrev sender : Task
sender = waiting (activated (dormant 9)) (to_send 2 0 9)

abbrev receiver : Task
receiver = waiting (activated (dormant 9)) (to_receive 3 9)

pub damaged : List State
damaged =
    -- a level lists exactly the runnable tasks of that priority, once each
    levelled 5 0 0 ∷ levelled 5 1 1 ∷ levelled 5 1 6 ∷ levelled 5 1 25 ∷ levelled 6 0 1 ∷ levelled 0 0 1 ∷ recorded 1 (with_priority runner 6)
    -- a semaphore lists exactly the tasks waiting on it, once each
    ∷ queued 3 0 0 ∷ queued 3 1 2 ∷ queued 3 1 4 ∷ queued 4 0 2 ∷ queued 0 0 2 ∷ recorded 2 (with_object waiter 2 4)
    -- places past the end hold 0
    ∷ levelled 5 2 1 ∷ queued 3 23 255
    -- the count is at most the maximum, and 0 while anyone waits; a maximum is at most 65,535
    ∷ counted 4 8 7 sound ∷ counted 3 1 7 sound ∷ counted 4 0 65536 sound
    -- a waiting task has remaining ticks of 1 or more and wait code 0; any other has remaining 0
    ∷ recorded 2 (with_remaining waiter 0) ∷ recorded 4 (with_remaining sleeper 0) ∷ recorded 2 (with_code waiter 4) ∷ recorded 4 (with_code sleeper 11) ∷ recorded 1 (with_remaining runner 1)
    -- wakeup and activation counts are 0 or 1; a sleeper's wakeup count is 0
    ∷ recorded 1 (with_wakeups runner 2) ∷ recorded 1 (with_activations runner 2) ∷ recorded 4 (with_wakeups sleeper 1)
    -- wait codes are 0, -4, -10 or -11
    ∷ recorded 1 (with_code runner 1) ∷ recorded 1 (with_code runner 5) ∷ recorded 1 (with_code runner 12)
    -- a dormant task has no wait, suspension, counts or code, and its creation priority
    ∷ recorded 6 (with_object (with_remaining idler 1) 1 0) ∷ recorded 6 (with_suspended idler 1) ∷ recorded 6 (with_wakeups idler 1) ∷ recorded 6 (with_activations idler 1)
    ∷ recorded 6 (with_code idler 4) ∷ recorded 6 (with_priority idler 9)
    -- slices are in range
    ∷ sliced 5 1001 sound
    -- only the first of a level has a charge, and it is below the slice; without a slice there is none, and none without a level
    ∷ recharged 1 4 sound ∷ recharged 10 4 sound ∷ recharged 11 1 sound ∷ recharged 11 2 (recharged 10 0 sound) ∷ recharged 1 1 (sliced 5 0 sound) ∷ recharged 1 4294967295 sound
    ∷ recharged 2 1 sound ∷ recharged 4 1 sound ∷ recharged 6 1 sound ∷ recharged 9 1 sound ∷ recharged 0 1 sound
    -- a dormant task has no time of entry, nor one not created
    ∷ marked 6 0 1 sound ∷ marked 6 0 4294967295 sound ∷ marked 9 0 1 sound ∷ marked 0 0 1 sound ∷ marked 24 0 1 (moved 24 (dormant 8) sound)
    -- a task waits for nothing, a sleep or a created semaphore
    ∷ recorded 2 (with_object waiter 3 3) ∷ recorded 4 (with_object sleeper 1 3) ∷ recorded 1 (with_object runner 0 3) ∷ counted 3 0 0 sound ∷ moved 2 (with_object waiter 2 4) sound ∷ moved 2 (with_object waiter 2 13) sound
    -- objects not created are all zeros; created ones have numbers in range
    ∷ recorded 9 (with_priority no_task 1) ∷ recorded 9 (with_code no_task 4) ∷ recorded 9 (with_active no_task 1) ∷ counted 4 1 0 sound
    ∷ recorded 6 (dormant 31) ∷ recorded 1 (with_priority runner 31) ∷ recorded 1 (with_priority runner 0) ∷ recorded 1 (with_active runner 2) ∷ moved 1 (with_suspended runner 2) sound
    -- a flag lists exactly the tasks waiting on it, once each
    ∷ queued 14 0 0 ∷ queued 14 1 7 ∷ queued 13 0 7 ∷ queued 14 1 2 ∷ recorded 7 (with_object asker 3 3) ∷ recorded 7 (with_object asker 2 2)
    -- what a wait asks for is in range, and 0 outside it
    ∷ recorded 7 (with_ask asker 0 0 0) ∷ recorded 7 (with_ask asker 4 2 0) ∷ recorded 1 (with_ask runner 1 0 0) ∷ recorded 1 (with_ask runner 0 1 0) ∷ recorded 2 (with_ask waiter 1 0 0) ∷ recorded 4 (with_ask sleeper 0 1 0)
    -- what it hands over is 0 during any wait and while dormant
    ∷ recorded 2 (with_ask waiter 0 0 1) ∷ recorded 4 (with_ask sleeper 0 0 1) ∷ recorded 7 (with_ask asker 6 1 1) ∷ recorded 6 (with_ask idler 0 0 1) ∷ recorded 9 (with_ask no_task 0 0 1) ∷ recorded 9 (with_ask no_task 1 0 0)
    -- no waiter is met already, and at most one waits on SINGLE; whoever waits, waits on a created flag
    ∷ flagged 2 2 6 sound ∷ flagged 2 2 14 sound ∷ moved 8 (waiting (activated (dormant 9)) (on_flag 2 8 0 9)) sound ∷ flagged 2 0 0 sound ∷ moved 7 (with_object asker 3 9) sound ∷ moved 7 (with_object asker 4 2) sound
    -- a flag not created has no bits; a created one has attributes 0, 1 or 3
    ∷ flagged 3 0 1 sound ∷ flagged 3 3 0 sound ∷ flagged 3 5 0 sound
    -- a data queue lists exactly the tasks waiting on it, once each
    ∷ queued 22 0 0 ∷ queued 22 1 12 ∷ queued 21 0 12 ∷ queued 23 0 12 ∷ queued 22 1 13 ∷ recorded 12 (with_object sender 4 3) ∷ recorded 13 (with_object receiver 5 2) ∷ recorded 13 (with_object receiver 4 9)
    -- no waiting receiver beside a stored element or a waiting sender, no waiting sender beside free room
    ∷ stocked 3 1 (holding 1 0) sound ∷ stocked 2 1 (holding 8 0) sound ∷ sized 2 4 sound ∷ sized 3 2 (recorded 13 (with_object receiver 4 3)) ∷ recorded 12 (with_object sender 5 2)
    ∷ moved 14 (waiting (activated (dormant 9)) (to_receive 2 9)) sound ∷ moved 14 (waiting (activated (dormant 9)) (to_receive 4 9)) sound ∷ moved 14 (waiting (activated (dormant 9)) (to_send 4 1 9)) sound
    ∷ moved 14 (waiting (activated (dormant 9)) (to_send 3 1 9)) sound ∷ moved 14 (waiting (activated (dormant 9)) (to_send 16 1 9)) sound
    -- whoever waits, waits on a created data queue; one not created has no elements; elements are within the capacity, which is at most 16
    ∷ sized 3 0 sound ∷ sized 2 0 sound ∷ stocked 5 1 (holding 1 0) sound ∷ sized 4 18 sound ∷ sized 4 1 sound ∷ stocked 4 17 (holding 7 0) sound ∷ sized 4 2 (stocked 4 2 (holding 7 1) sound)
    -- places past the last element hold 0
    ∷ stocked 4 1 (holding 7 1) sound ∷ stocked 4 0 (holding 7 0) sound ∷ stocked 5 0 (put no_elements 15 1) sound ∷ stocked 2 2 (put (holding 8 0) 2 1) sound
    -- an element that waits to be sent stands in the sender's record alone, and no mode beside it
    ∷ recorded 13 (with_ask receiver 1 0 0) ∷ recorded 12 (with_ask sender 0 1 0) ∷ recorded 13 (with_ask receiver 0 1 0) ∷ recorded 12 (with_ask sender 0 0 1) ∷ recorded 13 (with_ask receiver 0 0 1)
    -- the unused bytes hold 0, of a created task and of one that is not
    ∷ recorded 1 (with of_spare 1 runner) ∷ recorded 2 (with_unused waiter 255) ∷ recorded 1 (with_unused runner 1) ∷ recorded 9 (with of_spare 1 no_task) ∷ recorded 9 (with_unused no_task 1)
    -- the last level, task, semaphore, flag and queue are looked at too
    ∷ sliced 30 1001 sound ∷ levelled 30 0 1 ∷ recorded 24 (with_priority no_task 1) ∷ recharged 24 1 (moved 24 (dormant 8) sound) ∷ counted 12 8 7 sound ∷ flagged 8 0 1 sound ∷ flagged 8 1 0 (queued 20 0 2)
    ∷ moved 24 (waiting (activated (dormant 9)) (on_flag 4 1 0 9)) (flagged 4 1 1 sound)
    ∷ sized 8 18 sound ∷ stocked 8 0 (put no_elements 15 1) sound ∷ queued 28 0 2 ∷ moved 24 (waiting (activated (dormant 9)) (to_receive 4 9)) sound
    -- the tables have their places, and each queue has its own
    ∷ tabled (0 ∷ []) ∷ shortened 5 ∷ narrowed 3
    -- place 0 of every table is unused
    ∷ recorded 0 (dormant 5) ∷ sliced 0 1 sound ∷ counted 0 0 1 sound ∷ flagged 0 1 0 sound ∷ flagged 0 0 1 sound ∷ sized 0 1 sound ∷ stocked 0 1 no_elements sound ∷ stocked 0 0 (put no_elements 0 1) sound
    ∷ []

pub none_is_sound : List State → Bool
none_is_sound [] = true
none_is_sound (s ∷ rest) = not (Test.is_sound s) && none_is_sound rest

pub tells : So (Test.is_sound sound && none_is_sound damaged)
unfolding sound damaged recorded levelled queued tabled shortened narrowed with_code with_object with_active with_ask with_unused none_is_sound State.moved State.counted State.flagged State.stocked State.sized holding DataQueue.places_of DataQueue.put DataQueue.queue_row Test.is_stock_sound Test.is_unserved State.sliced State.marked Row.place Row.gap Row.joined Row.left Row.row Row.with_row Row.left_row Row.joined_row Row.relisted Record.level_of Record.row_of Flag.is_flag_attributes Flag.is_met Flag.flag_row Test.below Test.every_row Test.occ Test.zeros Test.lists_only Test.is_filed Test.lists_exactly Test.is_task_sound Test.is_charge_sound Test.is_count_sound Test.is_flag_sound Test.is_unmet Test.is_sound Plan.within
tells = tt

-- any state that fails the test gets UNSOUND and task 0, and comes back as it was
pub refuses : (s : State) (c : Context) (a : Call) → Test.is_sound s ≡ false → Calls.call s c a ≡ record { code = Unsound; running = 0; value = 0; state = s }
unfolding Calls.call
refuses s c a e = rw e
