-- `places::elements::put_element` meets its contract: one of its places changes, and past the queues there are none.
-- Rests on Runs.
use mathlib.Core.List.{List}
use Prim.Native.Nat.{ℕ}
use native.Mathlib.Omega.{arith}
use borrow.Author.Rules.{rules}
use Rattle.model.specs.DataQueue.{places_of, put}
use Rattle.places.proofs.Runs as law
use Rattle.places.proofs.elements.put_element.Goals as goal

pub returns-then-q-gt-LAST : goal.returns-then-q-gt-LAST
returns-then-q-gt-LAST c = let a = c.args in law.none a.elements.now a.q (put (places_of a.elements.now a.q) a.i a.v) (search rules) c.if-q-gt-LAST.true

pub returns : goal.returns
unfolding put
returns c = let a = c.args in law.changed a.elements.now a.q (λ (l : List ℕ). put l a.i a.v) (λ (l : List ℕ). law.length-put l a.i a.v) _ _ (search rules) c.if-q-gt-LAST.false (omega arith) c.put.ensures
