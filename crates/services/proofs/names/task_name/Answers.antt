-- `services::names::task_name` meets its contract: in each arm the key leaves one row of the table to look at, in the last none.
-- It rests on the laws of the table's keys, which antt computes.
use Rattle.model.specs.Services.{tasks}
use Rattle.services.specs.Names.{label, labelled}
use Rattle.services.proofs.Keys.{keyed, at_task, no_task_lem}
use Rattle.services.proofs.names.task_name.Goals as goal

pub returns-in-196 : goal.returns-in-196
unfolding keyed tasks label labelled
returns-in-196 c = at_task c.args.s.now c.key.ensures c.in-196.is c.labelled.ensures

pub returns-in-201 : goal.returns-in-201
unfolding keyed tasks label labelled
returns-in-201 c = at_task c.args.s.now c.key.ensures c.in-201.is c.labelled-in-201.ensures

pub returns-in-202 : goal.returns-in-202
unfolding keyed tasks label labelled
returns-in-202 c = at_task c.args.s.now c.key.ensures c.in-202.is c.labelled-in-202.ensures

pub returns-in-221 : goal.returns-in-221
unfolding keyed tasks label labelled
returns-in-221 c = at_task c.args.s.now c.key.ensures c.in-221.is c.labelled-in-221.ensures

pub returns-in-217 : goal.returns-in-217
unfolding keyed tasks label labelled
returns-in-217 c = at_task c.args.s.now c.key.ensures c.in-217.is c.labelled-in-217.ensures

pub returns-in-225 : goal.returns-in-225
unfolding keyed tasks label labelled
returns-in-225 c = at_task c.args.s.now c.key.ensures c.in-225.is c.labelled-in-225.ensures

pub returns-in-227 : goal.returns-in-227
unfolding keyed tasks label labelled
returns-in-227 c = at_task c.args.s.now c.key.ensures c.in-227.is c.labelled-in-227.ensures

pub returns-in-231 : goal.returns-in-231
unfolding keyed tasks label labelled
returns-in-231 c = at_task c.args.s.now c.key.ensures c.in-231.is c.labelled-in-231.ensures

pub returns-in-216 : goal.returns-in-216
unfolding keyed tasks label labelled
returns-in-216 c = at_task c.args.s.now c.key.ensures c.in-216.is c.labelled-in-216.ensures

pub returns-in-220 : goal.returns-in-220
unfolding keyed tasks label labelled
returns-in-220 c = at_task c.args.s.now c.key.ensures c.in-220.is c.labelled-in-220.ensures

pub returns-in-212 : goal.returns-in-212
unfolding keyed tasks label labelled
returns-in-212 c = at_task c.args.s.now c.key.ensures c.in-212.is c.labelled-in-212.ensures

pub returns-in-215 : goal.returns-in-215
unfolding keyed tasks label labelled
returns-in-215 c = at_task c.args.s.now c.key.ensures c.in-215.is c.labelled-in-215.ensures

pub returns-in-213 : goal.returns-in-213
unfolding keyed tasks label labelled
returns-in-213 c = at_task c.args.s.now c.key.ensures c.in-213.is c.labelled-in-213.ensures

pub returns-in-209 : goal.returns-in-209
unfolding keyed tasks label labelled
returns-in-209 c = at_task c.args.s.now c.key.ensures c.in-209.is c.labelled-in-209.ensures

pub returns-in_default : goal.returns-in_default
returns-in_default c = no_task_lem c.args.s.now _ c.key.ensures c.in_default.in_default-own.rest
