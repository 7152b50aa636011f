-- What the checks that every call has in common come to, in the order of model's `checked`; and how a decision, a plan or the code of a refusal, says a plan.
-- It rests on the declared types and on model's plans and codes alone.
use Rattle.std.specs.Prelude.{◌≡◌, Bool, true, false, cond, Result, Ok, Err}
use Rattle.model.specs.declared.Code.{Code}
use Rattle.model.specs.declared.Code.TheVariants.{WContext, WrongParam, NoExs}
use Rattle.model.specs.declared.Plan.{Plan}
use Rattle.model.specs.Code.{is_refusal}
use Rattle.model.specs.Plan.{refused}

unfoldable pub gate : Bool → Bool → Bool → Result (Unit {0}) Code
gate right there mine = cond right (cond there (cond mine (Ok tt) (Err WContext)) (Err NoExs)) (Err WrongParam)

-- the plan that a decision comes to: a refusal is one that changes nothing
abbrev pub plan_of : Result Plan Code → Plan
plan_of (Ok p) = p
plan_of (Err c) = refused c

-- a plan that is accepted has a code that does not refuse, and a refusal has one that does; a clause, and no invariant of Plan: the definitions' own
-- refusals are plans
abbrev pub IsDecision : Result Plan Code → Type 0
IsDecision (Ok p) = is_refusal p.code ≡ false
IsDecision (Err c) = is_refusal c ≡ true
