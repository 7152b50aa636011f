-- The table of public functions, from one record to the kernel: a row cites a function's contract, that the function keeps it, and the law by which it is tight.
-- Rests on the generated modules of the crates named below, and on Laws.
use mathlib.Core.List.{List, [], ◌∷◌}
use Rattle.records.specs.contracts as records
use Rattle.records.proofs as kept_records
use Rattle.rows.specs.contracts as rows
use Rattle.rows.proofs as kept_rows
use Rattle.places.specs.contracts as places
use Rattle.places.proofs as kept_places
use Rattle.stored.specs.contracts as stored
use Rattle.stored.proofs as kept_stored
use Rattle.tables.specs.contracts as tables
use Rattle.tables.proofs as kept_tables
use Rattle.checks.specs.contracts as checks
use Rattle.checks.proofs as kept_checks
use Rattle.plans_task.specs.contracts as plans_task
use Rattle.plans_task.proofs as kept_plans_task
use Rattle.plans_semaphore.specs.contracts as plans_semaphore
use Rattle.plans_semaphore.proofs as kept_plans_semaphore
use Rattle.plans_flag.specs.contracts as plans_flag
use Rattle.plans_flag.proofs as kept_plans_flag
use Rattle.plans_queue.specs.contracts as plans_queue
use Rattle.plans_queue.proofs as kept_plans_queue
use Rattle.plans.specs.contracts as plans
use Rattle.plans.proofs as kept_plans
use Rattle.crossing.specs.contracts as crossing
use Rattle.crossing.proofs as kept_crossing
use Rattle.sound_parts.specs.contracts as sound_parts
use Rattle.sound_parts.proofs as kept_sound_parts
use Rattle.sound.specs.contracts as sound
use Rattle.sound.proofs as kept_sound
use Rattle.effects.specs.contracts as effects
use Rattle.effects.proofs as kept_effects
use Rattle.carry.specs.contracts as carry
use Rattle.carry.proofs as kept_carry
use Rattle.step.specs.contracts as step
use Rattle.step.proofs as kept_step
use Rattle.kernel.specs.contracts as kernel
use Rattle.kernel.proofs as kept_kernel
use Rattle.step.specs.Answer.{answer_of}
use Rattle.promises.specs.Tight.{Promise}
use Rattle.promises.proofs.Laws.{of, plain, twofold, result, decided, buffer, answers}

pub of_records : List Promise
of_records =
    of records.level_of.signature (λ M 𝓤 𝓛. records.level_of.clauses 𝓛) _ (λ M. kept_records.level_of.Met.met) (λ w κs a g h o p. plain w result) ∷
    of records.flag_row.signature (λ M 𝓤 𝓛. records.flag_row.clauses 𝓛) _ (λ M. kept_records.flag_row.Met.met) (λ w κs a g h o p. plain w result) ∷
    of records.queue_row.signature (λ M 𝓤 𝓛. records.queue_row.clauses 𝓛) _ (λ M. kept_records.queue_row.Met.met) (λ w κs a g h o p. plain w result) ∷
    of records.row_of.signature (λ M 𝓤 𝓛. records.row_of.clauses 𝓛) _ (λ M. kept_records.row_of.Met.met) (λ w κs a g h o p. plain w result) ∷
    of records.waits.asleep.signature (λ M 𝓤 𝓛. records.waits.asleep.clauses 𝓛) _ (λ M. kept_records.waits.asleep.Met.met) (λ w κs a g h o p. plain w result) ∷
    of records.waits.on_semaphore.signature (λ M 𝓤 𝓛. records.waits.on_semaphore.clauses 𝓛) _ (λ M. kept_records.waits.on_semaphore.Met.met) (λ w κs a g h o p. plain w result) ∷
    of records.waits.on_flag.signature (λ M 𝓤 𝓛. records.waits.on_flag.clauses 𝓛) _ (λ M. kept_records.waits.on_flag.Met.met) (λ w κs a g h o p. plain w result) ∷
    of records.waits.to_send.signature (λ M 𝓤 𝓛. records.waits.to_send.clauses 𝓛) _ (λ M. kept_records.waits.to_send.Met.met) (λ w κs a g h o p. plain w result) ∷
    of records.waits.to_receive.signature (λ M 𝓤 𝓛. records.waits.to_receive.clauses 𝓛) _ (λ M. kept_records.waits.to_receive.Met.met) (λ w κs a g h o p. plain w result) ∷
    of records.dormant.signature (λ M 𝓤 𝓛. records.dormant.clauses 𝓛) _ (λ M. kept_records.dormant.Met.met) (λ w κs a g h o p. plain w result) ∷
    of records.no_task.signature (λ M 𝓤 𝓛. records.no_task.clauses 𝓛) _ (λ M. kept_records.no_task.Met.met) (λ w κs a g h o p. plain w result) ∷
    of records.activated.signature (λ M 𝓤 𝓛. records.activated.clauses 𝓛) _ (λ M. kept_records.activated.Met.met) (λ w κs a g h o p. plain w result) ∷
    of records.created.signature (λ M 𝓤 𝓛. records.created.clauses 𝓛) _ (λ M. kept_records.created.Met.met) (λ w κs a g h o p. plain w result) ∷
    of records.with_priority.signature (λ M 𝓤 𝓛. records.with_priority.clauses 𝓛) _ (λ M. kept_records.with_priority.Met.met) (λ w κs a g h o p. plain w result) ∷
    of records.with_suspended.signature (λ M 𝓤 𝓛. records.with_suspended.clauses 𝓛) _ (λ M. kept_records.with_suspended.Met.met) (λ w κs a g h o p. plain w result) ∷
    of records.with_wakeups.signature (λ M 𝓤 𝓛. records.with_wakeups.clauses 𝓛) _ (λ M. kept_records.with_wakeups.Met.met) (λ w κs a g h o p. plain w result) ∷
    of records.with_activations.signature (λ M 𝓤 𝓛. records.with_activations.clauses 𝓛) _ (λ M. kept_records.with_activations.Met.met) (λ w κs a g h o p. plain w result) ∷
    of records.settled.signature (λ M 𝓤 𝓛. records.settled.clauses 𝓛) _ (λ M. kept_records.settled.Met.met) (λ w κs a g h o p. plain w result) ∷
    of records.waiting.signature (λ M 𝓤 𝓛. records.waiting.clauses 𝓛) _ (λ M. kept_records.waiting.Met.met) (λ w κs a g h o p. plain w result) ∷
    of records.ended.signature (λ M 𝓤 𝓛. records.ended.clauses 𝓛) _ (λ M. kept_records.ended.Met.met) (λ w κs a g h o p. plain w result) ∷
    of records.is_met.signature (λ M 𝓤 𝓛. records.is_met.clauses 𝓛) _ (λ M. kept_records.is_met.Met.met) (λ w κs a g h o p. plain w result) ∷
    of records.told.signature (λ M 𝓤 𝓛. records.told.clauses 𝓛) _ (λ M. kept_records.told.Met.met) (λ w κs a g h o p. plain w result) ∷
    of records.wait_number.signature (λ M 𝓤 𝓛. records.wait_number.clauses 𝓛) _ (λ M. kept_records.wait_number.Met.met) (λ w κs a g h o p. plain w result) ∷
    []

pub of_rows : List Promise
of_rows =
    of rows.row_at.signature (λ M 𝓤 𝓛. rows.row_at.clauses 𝓛) _ (λ M. kept_rows.row_at.Met.met) (λ w κs a g h o p. plain w result) ∷
    of rows.first_of.signature (λ M 𝓤 𝓛. rows.first_of.clauses 𝓛) _ (λ M. kept_rows.first_of.Met.met) (λ w κs a g h o p. plain w result) ∷
    of rows.second_of.signature (λ M 𝓤 𝓛. rows.second_of.clauses 𝓛) _ (λ M. kept_rows.second_of.Met.met) (λ w κs a g h o p. plain w result) ∷
    of rows.relist.signature (λ M 𝓤 𝓛. rows.relist.clauses 𝓛) _ (λ M. kept_rows.relist.Met.met) (λ w κs a g h o p. plain w buffer) ∷
    of rows.turn_row.signature (λ M 𝓤 𝓛. rows.turn_row.clauses 𝓛) _ (λ M. kept_rows.turn_row.Met.met) (λ w κs a g h o p. plain w buffer) ∷
    of rows.best.signature (λ M 𝓤 𝓛. rows.best.clauses 𝓛) _ (λ M. kept_rows.best.Met.met) (λ w κs a g h o p. plain w result) ∷
    []

pub of_places : List Promise
of_places =
    of places.elements.element_at.signature (λ M 𝓤 𝓛. places.elements.element_at.clauses 𝓛) _ (λ M. kept_places.elements.element_at.Met.met) (λ w κs a g h o p. plain w result) ∷
    of places.elements.put_element.signature (λ M 𝓤 𝓛. places.elements.put_element.clauses 𝓛) _ (λ M. kept_places.elements.put_element.Met.met) (λ w κs a g h o p. plain w buffer) ∷
    of places.elements.pull_elements.signature (λ M 𝓤 𝓛. places.elements.pull_elements.clauses 𝓛) _ (λ M. kept_places.elements.pull_elements.Met.met) (λ w κs a g h o p. plain w buffer) ∷
    of places.elements.refill_elements.signature (λ M 𝓤 𝓛. places.elements.refill_elements.clauses 𝓛) _ (λ M. kept_places.elements.refill_elements.Met.met) (λ w κs a g h o p. plain w buffer) ∷
    of places.elements.clear_elements.signature (λ M 𝓤 𝓛. places.elements.clear_elements.clauses 𝓛) _ (λ M. kept_places.elements.clear_elements.Met.met) (λ w κs a g h o p. plain w buffer) ∷
    []

pub of_stored : List Promise
of_stored =
    of stored.record_at.signature (λ M 𝓤 𝓛. stored.record_at.clauses 𝓛) _ (λ M. kept_stored.record_at.Met.met) (λ w κs a g h o p. plain w result) ∷
    of stored.put_remaining.signature (λ M 𝓤 𝓛. stored.put_remaining.clauses 𝓛) _ (λ M. kept_stored.put_remaining.Met.met) (λ w κs a g h o p. plain w buffer) ∷
    of stored.put_charge.signature (λ M 𝓤 𝓛. stored.put_charge.clauses 𝓛) _ (λ M. kept_stored.put_charge.Met.met) (λ w κs a g h o p. plain w buffer) ∷
    of stored.put_marks.signature (λ M 𝓤 𝓛. stored.put_marks.clauses 𝓛) _ (λ M. kept_stored.put_marks.Met.met) (λ w κs a g h o p. plain w buffer) ∷
    []

pub of_tables : List Promise
of_tables =
    of tables.semaphore_at.signature (λ M 𝓤 𝓛. tables.semaphore_at.clauses 𝓛) _ (λ M. kept_tables.semaphore_at.Met.met) (λ w κs a g h o p. plain w result) ∷
    of tables.flag_at.signature (λ M 𝓤 𝓛. tables.flag_at.clauses 𝓛) _ (λ M. kept_tables.flag_at.Met.met) (λ w κs a g h o p. plain w result) ∷
    of tables.queue_at.signature (λ M 𝓤 𝓛. tables.queue_at.clauses 𝓛) _ (λ M. kept_tables.queue_at.Met.met) (λ w κs a g h o p. plain w result) ∷
    []

pub of_checks : List Promise
of_checks =
    of checks.is_task.signature (λ M 𝓤 𝓛. checks.is_task.clauses 𝓛) _ (λ M. kept_checks.is_task.Met.met) (λ w κs a g h o p. plain w result) ∷
    of checks.is_priority.signature (λ M 𝓤 𝓛. checks.is_priority.clauses 𝓛) _ (λ M. kept_checks.is_priority.Met.met) (λ w κs a g h o p. plain w result) ∷
    of checks.is_semaphore.signature (λ M 𝓤 𝓛. checks.is_semaphore.clauses 𝓛) _ (λ M. kept_checks.is_semaphore.Met.met) (λ w κs a g h o p. plain w result) ∷
    of checks.is_maximum.signature (λ M 𝓤 𝓛. checks.is_maximum.clauses 𝓛) _ (λ M. kept_checks.is_maximum.Met.met) (λ w κs a g h o p. plain w result) ∷
    of checks.is_timeout.signature (λ M 𝓤 𝓛. checks.is_timeout.clauses 𝓛) _ (λ M. kept_checks.is_timeout.Met.met) (λ w κs a g h o p. plain w result) ∷
    of checks.is_slice.signature (λ M 𝓤 𝓛. checks.is_slice.clauses 𝓛) _ (λ M. kept_checks.is_slice.Met.met) (λ w κs a g h o p. plain w result) ∷
    of checks.is_flag.signature (λ M 𝓤 𝓛. checks.is_flag.clauses 𝓛) _ (λ M. kept_checks.is_flag.Met.met) (λ w κs a g h o p. plain w result) ∷
    of checks.is_queue.signature (λ M 𝓤 𝓛. checks.is_queue.clauses 𝓛) _ (λ M. kept_checks.is_queue.Met.met) (λ w κs a g h o p. plain w result) ∷
    of checks.is_attributes.signature (λ M 𝓤 𝓛. checks.is_attributes.clauses 𝓛) _ (λ M. kept_checks.is_attributes.Met.met) (λ w κs a g h o p. plain w result) ∷
    of checks.checked.signature (λ M 𝓤 𝓛. checks.checked.clauses 𝓛) _ (λ M. kept_checks.checked.Met.met) (λ w κs a g h o p. plain w result) ∷
    of checks.does.signature (λ M 𝓤 𝓛. checks.does.clauses 𝓛) _ (λ M. kept_checks.does.Met.met) (λ w κs a g h o p. plain w result) ∷
    of checks.gives.signature (λ M 𝓤 𝓛. checks.gives.clauses 𝓛) _ (λ M. kept_checks.gives.Met.met) (λ w κs a g h o p. plain w result) ∷
    of checks.moves.signature (λ M 𝓤 𝓛. checks.moves.clauses 𝓛) _ (λ M. kept_checks.moves.Met.met) (λ w κs a g h o p. plain w result) ∷
    of checks.counts.signature (λ M 𝓤 𝓛. checks.counts.clauses 𝓛) _ (λ M. kept_checks.counts.Met.met) (λ w κs a g h o p. plain w result) ∷
    of checks.flags.signature (λ M 𝓤 𝓛. checks.flags.clauses 𝓛) _ (λ M. kept_checks.flags.Met.met) (λ w κs a g h o p. plain w result) ∷
    of checks.pending.signature (λ M 𝓤 𝓛. checks.pending.clauses 𝓛) _ (λ M. kept_checks.pending.Met.met) (λ w κs a g h o p. plain w result) ∷
    []

pub of_plans_task : List Promise
of_plans_task =
    of plans_task.life.create.signature (λ M 𝓤 𝓛. plans_task.life.create.clauses 𝓛) _ (λ M. kept_plans_task.life.create.Met.met) (λ w κs a g h o p. twofold w decided) ∷
    of plans_task.life.delete.signature (λ M 𝓤 𝓛. plans_task.life.delete.clauses 𝓛) _ (λ M. kept_plans_task.life.delete.Met.met) (λ w κs a g h o p. twofold w decided) ∷
    of plans_task.life.activate.signature (λ M 𝓤 𝓛. plans_task.life.activate.clauses 𝓛) _ (λ M. kept_plans_task.life.activate.Met.met) (λ w κs a g h o p. twofold w decided) ∷
    of plans_task.life.exit.signature (λ M 𝓤 𝓛. plans_task.life.exit.clauses 𝓛) _ (λ M. kept_plans_task.life.exit.Met.met) (λ w κs a g h o p. twofold w decided) ∷
    of plans_task.life.terminate.signature (λ M 𝓤 𝓛. plans_task.life.terminate.clauses 𝓛) _ (λ M. kept_plans_task.life.terminate.Met.met) (λ w κs a g h o p. twofold w decided) ∷
    of plans_task.ready.ready_ticks.signature (λ M 𝓤 𝓛. plans_task.ready.ready_ticks.clauses 𝓛) _ (λ M. kept_plans_task.ready.ready_ticks.Met.met) (λ w κs a g h o p. twofold w decided) ∷
    of plans_task.turns.change_priority.signature (λ M 𝓤 𝓛. plans_task.turns.change_priority.clauses 𝓛) _ (λ M. kept_plans_task.turns.change_priority.Met.met) (λ w κs a g h o p. twofold w decided) ∷
    of plans_task.turns.tslice_ticks.signature (λ M 𝓤 𝓛. plans_task.turns.tslice_ticks.clauses 𝓛) _ (λ M. kept_plans_task.turns.tslice_ticks.Met.met) (λ w κs a g h o p. twofold w decided) ∷
    of plans_task.turns.tick.signature (λ M 𝓤 𝓛. plans_task.turns.tick.clauses 𝓛) _ (λ M. kept_plans_task.turns.tick.Met.met) (λ w κs a g h o p. twofold w decided) ∷
    of plans_task.waits.suspend.signature (λ M 𝓤 𝓛. plans_task.waits.suspend.clauses 𝓛) _ (λ M. kept_plans_task.waits.suspend.Met.met) (λ w κs a g h o p. twofold w decided) ∷
    of plans_task.waits.resume.signature (λ M 𝓤 𝓛. plans_task.waits.resume.clauses 𝓛) _ (λ M. kept_plans_task.waits.resume.Met.met) (λ w κs a g h o p. twofold w decided) ∷
    of plans_task.waits.sleep.signature (λ M 𝓤 𝓛. plans_task.waits.sleep.clauses 𝓛) _ (λ M. kept_plans_task.waits.sleep.Met.met) (λ w κs a g h o p. twofold w decided) ∷
    of plans_task.waits.wakeup.signature (λ M 𝓤 𝓛. plans_task.waits.wakeup.clauses 𝓛) _ (λ M. kept_plans_task.waits.wakeup.Met.met) (λ w κs a g h o p. twofold w decided) ∷
    of plans_task.waits.release_wait.signature (λ M 𝓤 𝓛. plans_task.waits.release_wait.clauses 𝓛) _ (λ M. kept_plans_task.waits.release_wait.Met.met) (λ w κs a g h o p. twofold w decided) ∷
    []

pub of_plans_semaphore : List Promise
of_plans_semaphore =
    of plans_semaphore.sem_create.signature (λ M 𝓤 𝓛. plans_semaphore.sem_create.clauses 𝓛) _ (λ M. kept_plans_semaphore.sem_create.Met.met) (λ w κs a g h o p. twofold w decided) ∷
    of plans_semaphore.sem_delete.signature (λ M 𝓤 𝓛. plans_semaphore.sem_delete.clauses 𝓛) _ (λ M. kept_plans_semaphore.sem_delete.Met.met) (λ w κs a g h o p. twofold w decided) ∷
    of plans_semaphore.signal.signature (λ M 𝓤 𝓛. plans_semaphore.signal.clauses 𝓛) _ (λ M. kept_plans_semaphore.signal.Met.met) (λ w κs a g h o p. twofold w decided) ∷
    of plans_semaphore.acquire.signature (λ M 𝓤 𝓛. plans_semaphore.acquire.clauses 𝓛) _ (λ M. kept_plans_semaphore.acquire.Met.met) (λ w κs a g h o p. twofold w decided) ∷
    of plans_semaphore.polling.signature (λ M 𝓤 𝓛. plans_semaphore.polling.clauses 𝓛) _ (λ M. kept_plans_semaphore.polling.Met.met) (λ w κs a g h o p. twofold w decided) ∷
    []

pub of_plans_flag : List Promise
of_plans_flag =
    of plans_flag.flag_subject.signature (λ M 𝓤 𝓛. plans_flag.flag_subject.clauses 𝓛) _ (λ M. kept_plans_flag.flag_subject.Met.met) (λ w κs a g h o p. plain w result) ∷
    of plans_flag.flag_plan.signature (λ M 𝓤 𝓛. plans_flag.flag_plan.clauses 𝓛) _ (λ M. kept_plans_flag.flag_plan.Met.met) (λ w κs a g h o p. twofold w decided) ∷
    []

pub of_plans_queue : List Promise
of_plans_queue = of plans_queue.queue_plan.signature (λ M 𝓤 𝓛. plans_queue.queue_plan.clauses 𝓛) _ (λ M. kept_plans_queue.queue_plan.Met.met) (λ w κs a g h o p. twofold w decided) ∷ []

pub of_plans : List Promise
of_plans =
    of plans.queue.queue_plan_in.signature (λ M 𝓤 𝓛. plans.queue.queue_plan_in.clauses 𝓛) _ (λ M. kept_plans.queue.queue_plan_in.Met.met) (λ w κs a g h o p. twofold w decided) ∷
    of plans.plan_in.signature (λ M 𝓤 𝓛. plans.plan_in.clauses 𝓛) _ (λ M. kept_plans.plan_in.Met.met) (λ w κs a g h o p. twofold w decided) ∷
    []

pub of_crossing : List Promise
of_crossing =
    of crossing.cross_all.signature (λ M 𝓤 𝓛. crossing.cross_all.clauses 𝓛) _ (λ M. kept_crossing.cross_all.Met.met) (λ w κs a g h o p. plain w result) ∷
    []

pub of_sound_parts : List Promise
of_sound_parts =
    of sound_parts.flag.flag_sound.signature (λ M 𝓤 𝓛. sound_parts.flag.flag_sound.clauses 𝓛) _ (λ M. kept_sound_parts.flag.flag_sound.Met.met) (λ w κs a g h o p. plain w result) ∷
    of sound_parts.flag.is_unmet.signature (λ M 𝓤 𝓛. sound_parts.flag.is_unmet.clauses 𝓛) _ (λ M. kept_sound_parts.flag.is_unmet.Met.met) (λ w κs a g h o p. plain w result) ∷
    of sound_parts.queue.stock_sound.signature (λ M 𝓤 𝓛. sound_parts.queue.stock_sound.clauses 𝓛) _ (λ M. kept_sound_parts.queue.stock_sound.Met.met) (λ w κs a g h o p. plain w result) ∷
    of sound_parts.queue.is_queue_wait.signature (λ M 𝓤 𝓛. sound_parts.queue.is_queue_wait.clauses 𝓛) _ (λ M. kept_sound_parts.queue.is_queue_wait.Met.met) (λ w κs a g h o p. plain w result) ∷
    of sound_parts.queue.is_unserved.signature (λ M 𝓤 𝓛. sound_parts.queue.is_unserved.clauses 𝓛) _ (λ M. kept_sound_parts.queue.is_unserved.Met.met) (λ w κs a g h o p. plain w result) ∷
    of sound_parts.record.task_sound.signature (λ M 𝓤 𝓛. sound_parts.record.task_sound.clauses 𝓛) _ (λ M. kept_sound_parts.record.task_sound.Met.met) (λ w κs a g h o p. plain w result) ∷
    of sound_parts.record.charge_sound.signature (λ M 𝓤 𝓛. sound_parts.record.charge_sound.clauses 𝓛) _ (λ M. kept_sound_parts.record.charge_sound.Met.met) (λ w κs a g h o p. plain w result) ∷
    of sound_parts.record.count_sound.signature (λ M 𝓤 𝓛. sound_parts.record.count_sound.clauses 𝓛) _ (λ M. kept_sound_parts.record.count_sound.Met.met) (λ w κs a g h o p. plain w result) ∷
    of sound_parts.record.is_origin.signature (λ M 𝓤 𝓛. sound_parts.record.is_origin.clauses 𝓛) _ (λ M. kept_sound_parts.record.is_origin.Met.met) (λ w κs a g h o p. plain w result) ∷
    []

pub of_sound : List Promise
of_sound =
    of sound.sound_in.signature (λ M 𝓤 𝓛. sound.sound_in.clauses 𝓛) _ (λ M. kept_sound.sound_in.Met.met) (λ w κs a g h o p. plain w result) ∷
    of sound.is_sound.signature (λ M 𝓤 𝓛. sound.is_sound.clauses 𝓛) _ (λ M. kept_sound.is_sound.Met.met) (λ w κs a g h o p. plain w result) ∷
    []

pub of_effects : List Promise
of_effects =
    of effects.move_from.signature (λ M 𝓤 𝓛. effects.move_from.clauses 𝓛) _ (λ M. kept_effects.move_from.Met.met) (λ w κs a g h o p. plain w buffer) ∷
    of effects.move_task.signature (λ M 𝓤 𝓛. effects.move_task.clauses 𝓛) _ (λ M. kept_effects.move_task.Met.met) (λ w κs a g h o p. plain w buffer) ∷
    of effects.charge.signature (λ M 𝓤 𝓛. effects.charge.clauses 𝓛) _ (λ M. kept_effects.charge.Met.met) (λ w κs a g h o p. plain w buffer) ∷
    of effects.lapse.signature (λ M 𝓤 𝓛. effects.lapse.clauses 𝓛) _ (λ M. kept_effects.lapse.Met.met) (λ w κs a g h o p. plain w buffer) ∷
    of effects.tell_all.signature (λ M 𝓤 𝓛. effects.tell_all.clauses 𝓛) _ (λ M. kept_effects.tell_all.Met.met) (λ w κs a g h o p. plain w buffer) ∷
    []

pub of_carry : List Promise
of_carry =
    of carry.tick.signature (λ M 𝓤 𝓛. carry.tick.clauses 𝓛) _ (λ M. kept_carry.tick.Met.met) (λ w κs a g h o p. plain w buffer) ∷
    of carry.queue.carry_queue.signature (λ M 𝓤 𝓛. carry.queue.carry_queue.clauses 𝓛) _ (λ M. kept_carry.queue.carry_queue.Met.met) (λ w κs a g h o p. plain w buffer) ∷
    of carry.carry.signature (λ M 𝓤 𝓛. carry.carry.clauses 𝓛) _ (λ M. kept_carry.carry.Met.met) (λ w κs a g h o p. plain w buffer) ∷
    []

pub of_step : List Promise
of_step =
    of step.step_in.signature (λ M 𝓤 𝓛. step.step_in.clauses 𝓛) _ (λ M. kept_step.step_in.Met.met) (λ w κs a g h o p. plain w (answers (λ r. record { code = r.code; running = r.running; value = r.value }) (λ r. r.state) (answer_of o.0 o.1.0) (answer_of p.0 p.1.0))) ∷
    []

pub of_kernel : List Promise
of_kernel =
    of kernel.fresh.signature (λ M 𝓤 𝓛. kernel.fresh.clauses 𝓛) _ (λ M. kept_kernel.fresh.Met.met) (λ w κs a g h o p. plain w result) ∷
    of kernel.running.signature (λ M 𝓤 𝓛. kernel.running.clauses 𝓛) _ (λ M. kept_kernel.running.Met.met) (λ w κs a g h o p. plain w result) ∷
    of kernel.call.signature (λ M 𝓤 𝓛. kernel.call.clauses 𝓛) _ (λ M. kept_kernel.call.Met.met) (λ w κs a g h o p. plain w result) ∷
    []
