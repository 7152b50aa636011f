-- `places::elements::element_at` meets its contract: past the queues, past a queue's places, and within them.
-- Rests on Runs.
use mathlib.Core.Path.{◌∙◌}
use borrow.Author.Rules.{rules}
use Rattle.places.proofs.Runs as law
use Rattle.places.proofs.elements.element_at.Goals as goal

pub returns-then-q-gt-LAST : goal.returns-then-q-gt-LAST
returns-then-q-gt-LAST c = let a = c.args in law.no_place a.elements.now a.q a.i (search rules) c.if-q-gt-LAST.true

pub returns-then-i-ge-PLACES : goal.returns-then-i-ge-PLACES
returns-then-i-ge-PLACES c = let a = c.args in law.place_past a.elements.now a.q a.i c.if-i-ge-PLACES.true

pub returns : goal.returns
returns c = let a = c.args in c.read.ensures ∙ law.place_at a.elements.now a.q a.i c.if-i-ge-PLACES.false
