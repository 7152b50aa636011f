-- `services::names::read_name` meets its contract: in each arm the key leaves one family of the table to look at, in the last none.
-- It rests on the laws of the table's keys, which antt computes.
use Rattle.model.proofs.Words.{table}
use Rattle.services.specs.Names.{label, labelled, name_in}
use Rattle.services.proofs.Keys.{keyed, at_family, no_family}
use Rattle.services.proofs.names.read_name.Goals as goal

pub returns-in-97 : goal.returns-in-97
unfolding keyed name_in table label
returns-in-97 c = at_family c.args.s.now c.byte_at.ensures c.in-97.is c.task_name.ensures

pub returns-in-121 : goal.returns-in-121
unfolding keyed name_in table label labelled
returns-in-121 c = at_family c.args.s.now c.byte_at.ensures c.in-121.is c.labelled.ensures

pub returns-in-105 : goal.returns-in-105
unfolding keyed name_in table label labelled
returns-in-105 c = at_family c.args.s.now c.byte_at.ensures c.in-105.is c.labelled-in-105.ensures

pub returns-in-101 : goal.returns-in-101
unfolding keyed name_in table label
returns-in-101 c = at_family c.args.s.now c.byte_at.ensures c.in-101.is c.semaphore_name.ensures

pub returns-in-118 : goal.returns-in-118
unfolding keyed name_in table label
returns-in-118 c = at_family c.args.s.now c.byte_at.ensures c.in-118.is c.flag_name.ensures

pub returns-in-117 : goal.returns-in-117
unfolding keyed name_in table label
returns-in-117 c = at_family c.args.s.now c.byte_at.ensures c.in-117.is c.queue_name.ensures

pub returns-in_default : goal.returns-in_default
returns-in_default c = no_family c.args.s.now _ c.byte_at.ensures c.in_default.in_default-own.rest
