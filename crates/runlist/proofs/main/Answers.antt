-- `runlist::main` is safe: what the runner says it wrote lies within the buffer, and so does a refusal's number with its sign and line end.
-- Rests on Signed.
use lib.Seq.{length-take-le}
use Rattle.std.proofs.Common.{sym, arith}
use Rattle.text.proofs.Stores.{after_near}
use Rattle.runlist.proofs.Signed.{opposite_fits, opposite_casts, opposite_few, bytes_fit}
use Rattle.runlist.proofs.main.Goals as goal

pub overflow_sub-r : goal.overflow_sub-r
overflow_sub-r c = opposite_fits _ _ (omega (arith, c.run_list-r.auto.answer)) _ c.run_list-r.ensures.0 c.if-r-lt0.true

pub overflow_cast-r : goal.overflow_cast-r
overflow_cast-r c = opposite_casts _ _ (omega (arith, c.run_list-r.auto.answer)) _ c.run_list-r.ensures.0 c.if-r-lt0.true

pub slice_bounds-answer-end : goal.slice_bounds-answer-end
slice_bounds-answer-end c =
    omega (arith, after_near _ _ _ _ c.put_byte-end.ensures.0, after_near _ _ _ _ c.put_byte-c.ensures.0, after_near _ _ _ _ c.put_decimal-b.ensures.0, after_near _ _ _ _ c.put_byte-a.ensures.0, opposite_few _ _ (omega (arith, c.run_list-r.auto.answer)) _ c.run_list-r.ensures.0 c.if-r-lt0.true)

pub slice_bounds-write_all-end : goal.slice_bounds-write_all-end
slice_bounds-write_all-end c = sym (length-take-le _ _ (omega (arith, after_near _ _ _ _ c.put_byte-end.ensures.0, after_near _ _ _ _ c.put_byte-c.ensures.0, after_near _ _ _ _ c.put_decimal-b.ensures.0, after_near _ _ _ _ c.put_byte-a.ensures.0, opposite_few _ _ (omega (arith, c.run_list-r.auto.answer)) _ c.run_list-r.ensures.0 c.if-r-lt0.true)))

pub slice_bounds-answer-end-2 : goal.slice_bounds-answer-end-2
slice_bounds-answer-end-2 c = omega (arith, bytes_fit _ _ (omega arith) _ c.run_list-r.ensures.0 c.if-r-lt0.false)

pub slice_bounds-write_all-end-2 : goal.slice_bounds-write_all-end-2
slice_bounds-write_all-end-2 c = sym (length-take-le _ _ (omega (arith, bytes_fit _ _ (omega arith) _ c.run_list-r.ensures.0 c.if-r-lt0.false)))
