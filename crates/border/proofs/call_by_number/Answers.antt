-- `border::call_by_number` meets its contract: one call answers any numbers.
use Rattle.border.proofs.Standing as law
use mir.Facts.{to_z-of_z}
use mir.Syntax.{w32}
use borrow.Author.Rules.{sfits_of}
use Rattle.border.proofs.call_by_number.Goals as goal

pub returns : goal.returns
returns c =
    rw (to_z-of_z {w = w32} (sfits_of {w = w32} c.code_number.type_inv), c.code_number.ensures, c.from.ensures)
    (law.replies _ _ _ _ _ _ _ _ _ _ _ _ c.context_of.ensures c.call_of.ensures c.zip-asked.ensures c.unwrap_or-context.ensures c.call-r.ensures)
