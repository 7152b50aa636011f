-- `runner::run_list` meets its contract: the number of what became of the file.
use mathlib.Core.Path.{ap, sym, ◌∙◌, subst}
use native.Mathlib.Omega.{arith}
use Prim.Native.Nat.{◌<◌, ◌^◌}
use lib.ListN.{length}
use Rattle.runner.specs.Outcome.{signed_of, Small}
use Rattle.runner.proofs.Signed.{back}
use Rattle.runner.proofs.Signed.{small as small-ran}
use Rattle.runner.proofs.run_list.Goals as goal
use Rattle.runner.proofs.run_list.Goals.{After-run-r}

small : (c : After-run-r) → Small c.run-r.result
small c =
    let h : length c.args.answer.now < 2 ^ 63 = omega (arith, c.well_formed) in
    subst Small (sym c.run-r.ensures.0) (small-ran c.args.file.now (length c.args.answer.now) h)

pub number-requires : goal.number-requires
number-requires c = small (goal.at.number-requires c).After-run-r

pub returns : goal.returns
returns c =
    let r = (goal.at.returns c).After-run-r in (back c.number.result r.run-r.result (small r) c.number.ensures ∙ ap signed_of r.run-r.ensures.0, r.run-r.ensures.1)
