-- `services::names::semaphore_name` meets its contract: in each arm the key leaves one row of the table to look at, in the last none.
-- It rests on the laws of the table's keys, which antt computes.
use Rattle.model.specs.Services.{semaphores}
use Rattle.services.specs.Names.{label, labelled}
use Rattle.services.proofs.Keys.{keyed, at_semaphore, no_semaphore}
use Rattle.services.proofs.names.semaphore_name.Goals as goal

pub returns-in-114 : goal.returns-in-114
unfolding keyed semaphores label labelled
returns-in-114 c = at_semaphore c.args.s.now c.byte_at.ensures c.in-114.is c.labelled.ensures

pub returns-in-101 : goal.returns-in-101
unfolding keyed semaphores label labelled
returns-in-101 c = at_semaphore c.args.s.now c.byte_at.ensures c.in-101.is c.labelled-in-101.ensures

pub returns-in-105 : goal.returns-in-105
unfolding keyed semaphores label labelled
returns-in-105 c = at_semaphore c.args.s.now c.byte_at.ensures c.in-105.is c.labelled-in-105.ensures

pub returns-in-115 : goal.returns-in-115
unfolding keyed semaphores label labelled
returns-in-115 c = at_semaphore c.args.s.now c.byte_at.ensures c.in-115.is c.labelled-in-115.ensures

pub returns-in-99 : goal.returns-in-99
unfolding keyed semaphores label labelled
returns-in-99 c = at_semaphore c.args.s.now c.byte_at.ensures c.in-99.is c.labelled-in-99.ensures

pub returns-in-111 : goal.returns-in-111
unfolding keyed semaphores label labelled
returns-in-111 c = at_semaphore c.args.s.now c.byte_at.ensures c.in-111.is c.labelled-in-111.ensures

pub returns-in-112 : goal.returns-in-112
unfolding keyed semaphores label labelled
returns-in-112 c = at_semaphore c.args.s.now c.byte_at.ensures c.in-112.is c.labelled-in-112.ensures

pub returns-in_default : goal.returns-in_default
returns-in_default c = no_semaphore c.args.s.now _ c.byte_at.ensures c.in_default.in_default-own.rest
