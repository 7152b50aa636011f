-- A step's answer, put together from what it returned and the state that it was lent.
use Rattle.model.specs.declared.State.{State}
use Rattle.model.specs.declared.Answer.{Answer}
use Rattle.step.specs.declared.Stepped.{Stepped}

abbrev pub answer_of : Stepped → State → Answer
answer_of r s = record { code = r.code; running = r.running; value = r.value; state = s }
