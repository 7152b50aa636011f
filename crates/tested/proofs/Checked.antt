-- The checked call is the step in every sound state. Rests on Same.
use Rattle.model.specs.Call.{call}
use Rattle.tested.specs.Statements.{CallIsStep}
use Rattle.tested.proofs.Same.{sound_exactly}

pub call_is_step : CallIsStep
unfolding call
call_is_step s c a k = rw ((sound_exactly s).1 k)
