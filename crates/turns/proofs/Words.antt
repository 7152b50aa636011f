-- The words in which runs of calls are written: a call with the context that it comes from, and a tick.
-- What the runs compute through is `opened` of model/proofs/Words.
use Rattle.model.specs.declared.Context.{Context}
use Rattle.model.specs.declared.Context.TheVariants as from
use Rattle.model.specs.declared.Call.{Call}
use Rattle.model.specs.declared.Call.TheVariants.{TickIntProcessing}

abbrev pub by_task : Call → Context × Call
by_task a = (from.T, a)

abbrev pub by_interrupt : Call → Context × Call
by_interrupt a = (from.I, a)

abbrev pub a_tick : Context × Call
a_tick = by_interrupt TickIntProcessing
