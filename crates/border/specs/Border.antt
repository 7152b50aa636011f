-- The border to other languages: what plain numbers for context and service name, and the answer in plain numbers.
-- A number that names nothing is WRONG_PARAM of a sound state; a number that the service does not take is not looked at.
use Rattle.std.specs.Prelude.{cond, ℕ, eqb, Option, Some, None}
use Rattle.model.specs.declared.State.{State}
use Rattle.model.specs.declared.Answer.{Answer}
use Rattle.model.specs.declared.Context.{Context}
use Rattle.model.specs.declared.Context.TheVariants.{T, I}
use Rattle.model.specs.declared.Call.{Call}
use Rattle.model.specs.declared.Code.TheVariants.{WrongParam, Unsound}
use Rattle.model.specs.Code.{number}
use Rattle.model.specs.State.{running}
use Rattle.model.specs.Test.{is_sound}
use Rattle.model.specs.Call as Calls
use Rattle.services.specs.Calls.{asked}
use Rattle.border.specs.declared.Reply.{Reply}

unfoldable pub context_of : ℕ → Option Context
context_of n = cond (eqb n 0) (Some T) (cond (eqb n 1) (Some I) None)

-- neither context nor service may be unknown; UNSOUND comes first, as everywhere
unfoldable pub unknown : State → Answer
unknown s = cond (is_sound s) (record { code = WrongParam; running = running s; value = 0; state = s }) (record { code = Unsound; running = 0; value = 0; state = s })

unfoldable pub answered : State → Option Context → Option Call → Answer
answered s None q = unknown s
answered s (Some c) None = unknown s
answered s (Some c) (Some a) = Calls.call s c a

-- in the paper's numbers
abbrev pub reply_of : Answer → Reply
reply_of r = record { code = number r.code; running = r.running; value = r.value; state = r.state }

unfoldable pub reply : State → ℕ → ℕ → ℕ → ℕ → ℕ → ℕ → Reply
reply s context service a b c d = reply_of (answered s (context_of context) (asked service a b c d))
