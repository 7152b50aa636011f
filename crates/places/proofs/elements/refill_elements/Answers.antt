-- `places::elements::refill_elements` meets its contract: its places move up, one of them changes, and past the queues there are none.
-- Rests on Runs.
use mathlib.Core.Path.{◌∙◌}
use mathlib.Core.List.{List}
use Prim.Native.Nat.{ℕ}
use native.Mathlib.Omega.{arith}
use borrow.Author.Rules.{rules}
use Rattle.model.specs.DataQueue.{places_of, put, pulled}
use Rattle.places.proofs.Runs as law
use Rattle.places.proofs.elements.refill_elements.Goals as goal

pub returns-then-q-gt-LAST : goal.returns-then-q-gt-LAST
returns-then-q-gt-LAST c = let a = c.args in law.none a.elements.now a.q (put (pulled (places_of a.elements.now a.q)) a.i a.v) (search rules) c.if-q-gt-LAST.true

pub returns : goal.returns
returns c = let a = c.args in law.changed a.elements.now a.q (λ (l : List ℕ). put (pulled l) a.i a.v) (λ (l : List ℕ). law.length-put (pulled l) a.i a.v ∙ law.length-pulled l) _ _ (search rules) c.if-q-gt-LAST.false (omega arith) c.refill.ensures
