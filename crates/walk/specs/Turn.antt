-- What playing one line gives: its answer and where the next line begins, or that it can't be read; and the state after it.
-- It rests on the lines of lines and the step of model.
use Rattle.std.specs.Prelude.{ℕ, ◌+◌, Option, Some, None}
use Rattle.model.specs.declared.State.{State}
use Rattle.model.specs.declared.Answer.{Answer}
use Rattle.lines.specs.declared.line.Line.{Line}
use Rattle.step.specs.declared.Stepped.{Stepped}
use Rattle.model.specs.Call.{step_from}
use Rattle.walk.specs.declared.Turn.{Turn}

pub record Turned : Type 0 where
  pub turn : Option Turn
  pub state : State

abbrev pub turn_in : Option Turn → State → Turned
turn_in t s = record { turn = t; state = s }

-- what a step returns, without the state
abbrev pub stepped_of : Answer → Stepped
stepped_of r = record { code = r.code; running = r.running; value = r.value }

-- a line that begins at `at`, where `run` runs
unfoldable pub turn_of : ℕ → ℕ → State → Option Line → Turned
turn_of run at s (Some x) = let r = step_from run s x.context x.call in record { turn = Some (record { answer = stepped_of r; next = at + x.next }); state = r.state }
turn_of run at s None = record { turn = None; state = s }
