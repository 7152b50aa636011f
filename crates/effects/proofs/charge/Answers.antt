-- `effects::charge` meets its contract: nobody runs, or who runs is charged, on each of its three ways.
use mathlib.Core.Path.{sym, ◌∙◌}
use native.Mathlib.Omega.{arith}
use Rattle.effects.proofs.Charging as law
use Rattle.effects.proofs.charge.Goals as goal

pub returns-then-run-eq0 : goal.returns-then-run-eq0
returns-then-run-eq0 c = law.idle c.args.s.now _ c.if-run-eq0.true

pub returns-then-slice-eq0 : goal.returns-then-slice-eq0
returns-then-slice-eq0 c = law.none c.args.s.now _ c.if-run-eq0.false _ c.record_at-k.ensures (sym c.read-slice.ensures ∙ c.if-slice-eq0.true)

pub returns-then-k-slice : goal.returns-then-k-slice
returns-then-k-slice c =
    law.more c.args.s.now _ c.if-run-eq0.false _ c.record_at-k.ensures _ c.read-slice.ensures c.if-slice-eq0.false _ (omega (arith, c.if-k-slice.true)) c.put_charge.ensures

pub returns : goal.returns
returns c =
    law.full c.args.s.now _ c.if-run-eq0.false _ c.record_at-k.ensures _ c.read-slice.ensures c.if-slice-eq0.false _ _ _
    (omega (arith, c.if-k-slice.false)) c.turned_at-entered.ensures c.put_marks.ensures c.turn_row.ensures
