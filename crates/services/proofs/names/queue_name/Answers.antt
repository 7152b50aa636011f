-- `services::names::queue_name` meets its contract: in each arm the key leaves one row of the table to look at, or two that begin alike, in the last none.
-- It rests on the laws of the table's keys, which antt computes.
use Rattle.model.specs.Services.{queues}
use Rattle.services.specs.Names.{label, labelled}
use Rattle.services.proofs.Keys.{keyed, at_queue, no_queue_lem, it_first, it_second}
use Rattle.services.proofs.names.queue_name.Goals as goal

pub returns-in-213 : goal.returns-in-213
unfolding keyed queues label labelled
returns-in-213 c = at_queue c.args.s.now c.key.ensures c.in-213.is c.labelled.ensures

pub returns-in-201 : goal.returns-in-201
unfolding keyed queues label labelled
returns-in-201 c = at_queue c.args.s.now c.key.ensures c.in-201.is c.labelled-in-201.ensures

pub returns-in-220 : goal.returns-in-220
unfolding keyed queues label labelled
returns-in-220 c = at_queue c.args.s.now c.key.ensures c.in-220.is c.labelled-in-220.ensures

pub returns-in-219 : goal.returns-in-219
unfolding keyed queues label labelled
returns-in-219 c = at_queue c.args.s.now c.key.ensures c.in-219.is c.labelled-in-219.ensures

pub returns-in_default : goal.returns-in_default
returns-in_default c = no_queue_lem c.args.s.now _ c.key.ensures c.in_default.in_default-own.rest

pub returns-in-None : goal.returns-in-None
unfolding keyed queues label labelled
returns-in-None c = at_queue c.args.s.now c.key.ensures c.in-216.is (it_second c.args.s.now _ 36 _ c.labelled-in-216.ensures c.in-None.is c.labelled-in-None.ensures)

pub returns-in_default-labelled : goal.returns-in_default-labelled
unfolding keyed queues label
returns-in_default-labelled c = at_queue c.args.s.now c.key.ensures c.in-216.is (it_first c.args.s.now _ 36 _ c.labelled-in-216.ensures c.in_default-labelled.not-None)

pub returns-in-None-labelled : goal.returns-in-None-labelled
unfolding keyed queues label labelled
returns-in-None-labelled c = at_queue c.args.s.now c.key.ensures c.in-215.is (it_second c.args.s.now _ 39 _ c.labelled-in-215.ensures c.in-None-labelled.is c.labelled-in-None-labelled.ensures)

pub returns-in_default-labelled-2 : goal.returns-in_default-labelled-2
unfolding keyed queues label
returns-in_default-labelled-2 c = at_queue c.args.s.now c.key.ensures c.in-215.is (it_first c.args.s.now _ 39 _ c.labelled-in-215.ensures c.in_default-labelled-2.not-None)
