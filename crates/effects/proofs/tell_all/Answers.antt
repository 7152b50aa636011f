-- `effects::tell_all` meets its contract: each turn leaves the rest to tell.
use mathlib.Core.Path.{◌≡◌, refl}
use native.Mathlib.Omega.{arith}
use borrow.Author.Rules.{rules}
use lib.ListN.{length}
use Rattle.effects.proofs.Moving as moving
use Rattle.effects.proofs.tell_all.Goals as goal

pub returns-then-t-eq0 : goal.returns-then-t-eq0
returns-then-t-eq0 c =
    let m : length c.args.q ≡ 24 = search rules in
    moving.over _ c.args.q c.loop-t.t-index _ _ (omega (arith, c.loop-t-test.true)) c.loop-t.invariant c.if-t-eq0.true

pub loop-t-preserved : goal.loop-t-preserved
loop-t-preserved c =
    let l = c.loop-t in
    let m : length c.args.q ≡ 24 = search rules in
    moving.next _ c.args.q l.t-index _ _ (omega (arith, c.loop-t-test.true)) l.invariant _ _ _ _ refl c.if-t-eq0.false c.record_at-k.ensures c.told-x.ensures c.move_from.ensures

pub returns : goal.returns
returns c =
    let m : length c.args.q ≡ 24 = search rules in
    moving.end _ c.args.q c.loop-t.t-index _ _ (omega (arith, c.loop-t-test.false)) c.loop-t.invariant
