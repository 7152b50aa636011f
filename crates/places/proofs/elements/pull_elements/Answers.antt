-- `places::elements::pull_elements` meets its contract: its places move up, and past the queues there are none.
-- Rests on Runs.
use mathlib.Core.List.{List}
use Prim.Native.Nat.{ℕ}
use native.Mathlib.Omega.{arith}
use borrow.Author.Rules.{rules}
use Rattle.model.specs.DataQueue.{places_of, pulled}
use Rattle.places.proofs.Runs as law
use Rattle.places.proofs.elements.pull_elements.Goals as goal

pub returns-then-q-gt-LAST : goal.returns-then-q-gt-LAST
returns-then-q-gt-LAST c = let a = c.args in law.none a.elements.now a.q (pulled (places_of a.elements.now a.q)) (search rules) c.if-q-gt-LAST.true

pub returns : goal.returns
returns c = let a = c.args in law.changed a.elements.now a.q (λ (l : List ℕ). pulled l) (λ (l : List ℕ). law.length-pulled l) _ _ (search rules) c.if-q-gt-LAST.false (omega arith) c.pull.ensures
