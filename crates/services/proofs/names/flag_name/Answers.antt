-- `services::names::flag_name` meets its contract: in each arm the key leaves one row of the table to look at, or the two waits, in the last none.
-- It rests on the laws of the table's keys, which antt computes.
use Rattle.model.specs.Services.{flags}
use Rattle.services.specs.Names.{label, labelled}
use Rattle.services.proofs.Keys.{keyed, at_flag, no_flag, it_first, it_second}
use Rattle.services.proofs.names.flag_name.Goals as goal

pub returns-in-211 : goal.returns-in-211
unfolding keyed flags label labelled
returns-in-211 c = at_flag c.args.s.now c.key.ensures c.in-211.is c.labelled.ensures

pub returns-in-202 : goal.returns-in-202
unfolding keyed flags label labelled
returns-in-202 c = at_flag c.args.s.now c.key.ensures c.in-202.is c.labelled-in-202.ensures

pub returns-in-145 : goal.returns-in-145
unfolding keyed flags label labelled
returns-in-145 c = at_flag c.args.s.now c.key.ensures c.in-145.is c.labelled-in-145.ensures

pub returns-in-231 : goal.returns-in-231
unfolding keyed flags label labelled
returns-in-231 c = at_flag c.args.s.now c.key.ensures c.in-231.is c.labelled-in-231.ensures

pub returns-in-205 : goal.returns-in-205
unfolding keyed flags label labelled
returns-in-205 c = at_flag c.args.s.now c.key.ensures c.in-205.is c.labelled-in-205.ensures

pub returns-in-200 : goal.returns-in-200
unfolding keyed flags label labelled
returns-in-200 c = at_flag c.args.s.now c.key.ensures c.in-200.is c.labelled-in-200.ensures

pub returns-in-224 : goal.returns-in-224
unfolding keyed flags label labelled
returns-in-224 c = at_flag c.args.s.now c.key.ensures c.in-224.is c.labelled-in-224.ensures

pub returns-in_default : goal.returns-in_default
returns-in_default c = no_flag c.args.s.now _ c.key.ensures c.in_default.in_default-own.rest

pub returns-in-None : goal.returns-in-None
unfolding keyed flags label labelled
returns-in-None c = at_flag c.args.s.now c.key.ensures c.in-213.is (it_second c.args.s.now _ 30 _ c.labelled-in-213.ensures c.in-None.is c.labelled-in-None.ensures)

pub returns-in_default-labelled : goal.returns-in_default-labelled
unfolding keyed flags label
returns-in_default-labelled c = at_flag c.args.s.now c.key.ensures c.in-213.is (it_first c.args.s.now _ 30 _ c.labelled-in-213.ensures c.in_default-labelled.not-None)
