-- What stands for numbers that name nothing is refused as they are, so one call answers any numbers.
-- It rests on the definitions of model alone.
use mathlib.Core.Path.{◌≡◌, refl, ap, ◌∙◌}
use Prim.Native.Nat.{ℕ}
use Rattle.std.specs.Prelude.{Option, Some, None, unwrap_or}
use Rattle.std.specs.Option.{option_zip}
use Rattle.model.specs.declared.State.{State}
use Rattle.model.specs.declared.Answer.{Answer}
use Rattle.model.specs.declared.Context.{Context}
use Rattle.model.specs.declared.Context.TheVariants.{T}
use Rattle.model.specs.declared.Call.{Call}
use Rattle.model.specs.declared.Call.TheVariants.{TaskDelete}
use Rattle.model.specs.Plan.{within}
use Rattle.model.specs.Service.{delete}
use Rattle.model.specs.Effect.{carried}
use Rattle.model.specs.Call.{plan, planned, step, call}
use Rattle.services.specs.Calls.{asked}
use Rattle.border.specs.Border.{context_of, unknown, answered, reply_of, reply}

stands : (s : State) (c : Context) → call s c (TaskDelete 0) ≡ unknown s
unfolding call step planned plan delete within carried unknown
stands s c = refl

-- what is called: the two that are named, or what stands for them
abbrev standing : Option Context → Option Call → Context × Call
standing f q = unwrap_or (option_zip f q) (T, TaskDelete 0)

all_stand : (s : State) (f : Option Context) (q : Option Call) → call s (standing f q).0 (standing f q).1 ≡ answered s f q
unfolding answered
all_stand s None q = stands s T
all_stand s (Some c) None = stands s T
all_stand s (Some c) (Some a) = refl

pub replies : (s : State) (context service a b c d : ℕ) (f : Option Context) (q : Option Call) (z : Option (Context × Call)) (x : Context × Call) (r : Answer)
    → f ≡ context_of context → q ≡ asked service a b c d → z ≡ option_zip f q → x ≡ unwrap_or z (T, TaskDelete 0) → r ≡ call s x.0 x.1 → reply_of r ≡ reply s context service a b c d
unfolding reply
replies s context service a b c d f q z x r e h g i j =
    let y : call s x.0 x.1 ≡ answered s f q = rw (i, g) (all_stand s f q) in
    let k : r ≡ answered s (context_of context) (asked service a b c d) = rw (← e, ← h) (j ∙ y) in
    ap reply_of k
