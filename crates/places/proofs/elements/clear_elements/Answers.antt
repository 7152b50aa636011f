-- `places::elements::clear_elements` meets its contract: its places are emptied, and past the queues there are none.
-- Rests on Runs.
use native.Mathlib.Omega.{arith}
use borrow.Author.Rules.{rules}
use Rattle.model.specs.DataQueue.{no_elements}
use Rattle.places.proofs.Runs as law
use Rattle.places.proofs.elements.clear_elements.Goals as goal

pub returns-then-q-gt-LAST : goal.returns-then-q-gt-LAST
returns-then-q-gt-LAST c = let a = c.args in law.none a.elements.now a.q no_elements (search rules) c.if-q-gt-LAST.true

pub returns : goal.returns
returns c = let a = c.args in law.emptied a.elements.now a.q _ _ (search rules) c.if-q-gt-LAST.false (omega arith) (c.fill.ensures.after (λ y e. e))
