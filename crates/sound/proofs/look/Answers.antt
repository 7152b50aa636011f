-- `sound::look` goes on from one record to the next. The invariant: what is seen of the records below t.
-- Rests on Tables.
use mathlib.Core.Path.{◌≡◌, ◌∙◌}
use native.Mathlib.Omega.{arith}
use lib.ListN.{length, length-set}
use Rattle.model.specs.Task.{level_of, row_of}
use Rattle.sound.proofs.Tables.{below_on, fill_on}
use Rattle.sound.proofs.look.Goals as goal

pub loop-t-preserved : goal.loop-t-preserved
loop-t-preserved c =
    let l = c.loop-t in
    let xs = c.args.s.now.tasks in
    let n : length xs ≡ 25 = omega arith in
    let f = c.level_of-level.ensures in (
      simp length-set l.invariant.0,
      simp length-set l.invariant.1,
      below_on _ l.t c.task_sound-sound_here.ensures l.invariant.2,
      below_on _ l.t (c.charge_sound-charge_here.ensures ∙ rw (c.first_of-first.ensures, c.read-slice.ensures, f)) l.invariant.3,
      below_on _ l.t (c.is_unmet-unmet_here.ensures ∙ rw c.read-bits.ensures) l.invariant.4,
      below_on _ l.t c.is_unserved_in-unserved_here.ensures l.invariant.5,
      rw f (fill_on level_of xs l.by_level l.t _ (omega arith) (omega arith) l.invariant.6),
      rw c.row_of.ensures (fill_on row_of xs l.by_row l.t _ (omega arith) (omega arith) l.invariant.7),
    )
