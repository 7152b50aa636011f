-- The words in which the bench tables are written: codes, a call from a task, from an interrupt, or by the tick, and calls that are refused;
-- and what the rows compute through. They rest on the form of a row in specs/Bench.
use mathlib.Core.List.{List}
use Prim.Native.Nat.{ℕ}
use lib.IntN.{ℤ, pos}
use Rattle.model.specs.declared.Context.TheVariants as from
use Rattle.model.specs.declared.Call.{Call}
use Rattle.model.specs.declared.Call.TheVariants.{TickIntProcessing}
use Rattle.model.specs.Row
use Rattle.model.specs.Flag
use Rattle.model.specs.DataQueue
use Rattle.model.specs.Task
use Rattle.model.specs.State
use Rattle.model.specs.State.{fresh}
use Rattle.model.specs.Plan
use Rattle.model.specs.Service
use Rattle.model.specs.Services
use Rattle.model.specs.Effect
use Rattle.model.specs.Test
use Rattle.model.specs.Call as Calls
use Rattle.model.specs.Bench.{Ask, Refusal, Step, asks, gets, Case, listing, all_refused, are_refused, holds}
use Rattle.model.specs.Bench

abbrev pub ok : ℤ
ok = pos 0

abbrev pub pending : ℤ
pending = pos 1

abbrev pub task : Call → ℤ → ℕ → Step
task a v t = asks from.T a v t

abbrev pub int : Call → ℤ → ℕ → Step
int a v t = asks from.I a v t

-- a tick, and the task that runs after it
abbrev pub ticks : ℕ → Step
ticks t = asks from.I TickIntProcessing ok t

abbrev pub from0 : List Step → Case
from0 steps = record { start = fresh; steps = steps }

-- a call with the value that it gives
abbrev pub task_gets : Call → ℤ → ℕ → ℕ → Step
task_gets a v t b = gets from.T a v t b

abbrev pub int_gets : Call → ℤ → ℕ → ℕ → Step
int_gets a v t b = gets from.I a v t b

-- a call that is refused, from context T or I; and those that get one code
abbrev pub in_t : Call → Ask
in_t a = record { context = from.T; asked = a }

abbrev pub in_i : Call → Ask
in_i a = record { context = from.I; asked = a }

abbrev pub each : ℤ → List Ask → Refusal
each v qs = record { answer = v; calls = qs }

-- the whole table of services: a proof that computes through its rows names this
unfoldable pub table : ℕ
unfolding Services.service Services.services Services.tasks Services.system Services.semaphores Services.flags Services.own Services.queues
table = 0

-- what the rows compute through
unfoldable pub opened : ℕ
unfolding Bench.each_holds holds all_refused are_refused listing Calls.call Calls.step Calls.planned Calls.plan Calls.flag_plan Calls.queue_plan Effect.carried Effect.ticked Effect.lapsed Effect.charged Effect.charged_in Effect.deleted Effect.told_flag Effect.told_all Effect.stopped Effect.stored Effect.taken Effect.refilled Effect.removed State.running State.moved State.counted State.flagged State.stocked State.sized State.sliced State.marked State.rotated Row.place Row.gap Row.joined Row.left Row.turned Row.row Row.with_row Row.left_row Row.joined_row Row.relisted Row.best_from Task.level_of Task.row_of Task.since Task.aged Task.told Flag.is_flag_attributes Flag.is_met Flag.with_bits Flag.without_bits Flag.bits_left Flag.flag_row DataQueue.places_of DataQueue.put DataQueue.pulled DataQueue.queue_row Test.below Test.every_row Test.occ Test.zeros Test.lists_only Test.is_filed Test.lists_exactly Test.is_task_sound Test.is_charge_sound Test.is_count_sound Test.is_flag_sound Test.is_unmet Test.is_stock_sound Test.is_unserved Test.is_sound table Services.is_mine Plan.within Service.create Service.delete Service.activate Service.exit Service.terminate Service.suspend Service.resume Service.sleep Service.wakeup Service.release_wait Service.wanted Service.change_priority Service.ready_ticks Service.tslice_ticks Service.tick Service.sem_create Service.sem_delete Service.signal Service.acquire Service.polling Service.flag_create Service.flag_delete Service.meets_first Service.flag_set Service.flag_clear Service.is_occupied Service.taken Service.flag_wait Service.flag_poll Service.queue_create Service.queue_delete Service.is_side Service.sent Service.queue_send Service.queue_send_poll Service.received Service.queue_receive Service.queue_receive_poll
opened = 0
