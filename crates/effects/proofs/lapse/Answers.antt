-- `effects::lapse` meets its contract: nothing changes where no timeout falls, all fall where none ends, and else each turn leaves the rest to lapse.
use mathlib.Core.Path.{refl, sym, ◌∙◌}
use native.Mathlib.Omega.{arith}
use borrow.Author.Tests.{not-true}
use Rattle.effects.proofs.Moving as moving
use Rattle.effects.proofs.Falling as law
use Rattle.effects.proofs.lapse.Goals as goal

pub returns-then-all_stay : goal.returns-then-all_stay
returns-then-all_stay c = law.none_falls 24 1 _ (sym c.all_stay.ensures ∙ c.if-all_stay.true)

pub returns-then-not-is_due : goal.returns-then-not-is_due
returns-then-not-is_due c = rw c.fall.ensures (law.all_fall 24 1 _ (sym c.is_due.ensures ∙ not-true _ c.if-not-is_due.true-raw))

pub loop-t-preserved-then-n-ne1 : goal.loop-t-preserved-then-n-ne1
loop-t-preserved-then-n-ne1 c = let l = c.loop-t in law.falls l.s l.t _ (omega arith) l.invariant _ refl _ _ c.if-n-ne1.true c.fallen.ensures c.put_remaining.ensures

pub loop-t-preserved : goal.loop-t-preserved
loop-t-preserved c = let l = c.loop-t in law.ends l.s l.t _ (omega arith) l.invariant _ c.record_at-k.ensures _ _ _ (rw c.record_at-k.ensures c.if-n-ne1.false) c.ran_out.ensures c.ended-x.ensures c.move_from.ensures

pub returns : goal.returns
returns c = moving.lapse_end c.loop-t.t _ _ (omega (arith, c.loop-t-test)) c.loop-t.invariant
