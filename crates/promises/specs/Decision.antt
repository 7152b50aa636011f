-- What the two clauses of a decision (checks: Gate) give: one equation of its result.
-- Laws in proofs/ shows it, and the rows of the plans go by it.
use Rattle.std.specs.Prelude.{cond, ◌≡◌, Result, Ok, Err}
use Rattle.model.specs.declared.Code.{Code}
use Rattle.model.specs.declared.Plan.{Plan}
use Rattle.model.specs.Code.{is_refusal}
use Rattle.checks.specs.Gate.{plan_of, IsDecision}

-- the result that comes to this plan: its code, if that refuses, and else the plan
abbrev pub decision_of : Plan → Result Plan Code
decision_of d = cond (is_refusal d.code) (Err d.code) (Ok d)

abbrev pub OneEquation : Type 0
OneEquation = (r : Result Plan Code) (d : Plan) → plan_of r ≡ d → IsDecision r → r ≡ decision_of d
