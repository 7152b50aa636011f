-- `runner::run` meets its contract: each of its answers is a law of Judging.
use mathlib.Core.Path.{◌≡◌, refl, sym, ap, ◌∙◌}
use Prim.Native.Nat.{ℕ}
use Rattle.std.specs.Prelude.{Result, Ok, Err}
use Rattle.std.specs.Result.{IsErr, IsErrAnd}
use Rattle.runner.specs.declared.Refusal.{Refusal}
use native.Mathlib.Omega.{arith}
use lib.ListN.{length}
use lib.Seq.{length-take-le}
use Rattle.lines.proofs.Within.{header_in}
use Rattle.lines.proofs.Ended.{header_ends}
use Rattle.runner.proofs.Judging as law
use Rattle.runner.proofs.run.Goals as goal

-- what `?` hands on
left_by : (r : Result ℕ Refusal) (f : Refusal) → IsErr r × IsErrAnd r (λ v. v ≡ f) → r ≡ Err f
left_by (Ok n) f h = absurd h.1
left_by (Err v) f h = ap Err h.1

pub returns-then-file-gt65536 : goal.returns-then-file-gt65536
returns-then-file-gt65536 c = let e = law.long c.args.file.now (length c.args.answer.now) c.if-file-gt65536.true in (e, rw (← e))

pub returns-in_default : goal.returns-in_default
returns-in_default c = let e = law.headless c.args.file.now (length c.args.answer.now) c.if-file-gt65536.false (sym c.read_header.ensures ∙ c.in_default.is) in (e, rw (← e))

pub play-requires : goal.play-requires
play-requires c = let e = sym c.read_header.ensures ∙ c.in-Some.is in
    (λ more. omega (arith, (rw e at (header_ends c.args.file.now)) more), rw e at (header_in c.args.file.now), c.if-file-gt65536.false, refl)

pub returns-in_err-count : goal.returns-in_err-count
returns-in_err-count c = let e = law.faulty c.args.file.now (length c.args.answer.now) c.if-file-gt65536.false _ (sym c.read_header.ensures ∙ c.in-Some.is) _ c.play.new.kept (rw c.in_err-count.was at c.play.ensures) in let g = left_by _ _ c.from_residual.ensures ∙ e in (g, rw (← e))

pub returns-then-answer-total : goal.returns-then-answer-total
returns-then-answer-total c = let e = law.short c.args.file.now (length c.args.answer.now) c.if-file-gt65536.false _ (sym c.read_header.ensures ∙ c.in-Some.is) _ _ (rw c.in_ok-count.was at c.play.ensures) c.if-answer-total.true in (e, rw (← e))

pub slice_bounds-kept-end : goal.slice_bounds-kept-end
slice_bounds-kept-end c = law.kept c.args.file.now (length c.args.answer.now) c.if-file-gt65536.false _ (sym c.read_header.ensures ∙ c.in-Some.is) _ _ (rw c.in_ok-count.was at c.play.ensures)

pub slice_bounds-write-end : goal.slice_bounds-write-end
slice_bounds-write-end c = sym (length-take-le _ _ (law.kept c.args.file.now (length c.args.answer.now) c.if-file-gt65536.false _ (sym c.read_header.ensures ∙ c.in-Some.is) _ _ (rw c.in_ok-count.was at c.play.ensures)))

pub write-requires : goal.write-requires
write-requires c = (law.few c.args.file.now (length c.args.answer.now) c.if-file-gt65536.false _ (sym c.read_header.ensures ∙ c.in-Some.is) _ _ (rw c.in_ok-count.was at c.play.ensures), law.room_for c.args.file.now (length c.args.answer.now) c.if-file-gt65536.false _ (sym c.read_header.ensures ∙ c.in-Some.is) _ _ (rw c.in_ok-count.was at c.play.ensures) c.if-answer-total.false)

pub returns : goal.returns
returns c = let e = law.wrote c.args.file.now (length c.args.answer.now) c.if-file-gt65536.false _ (sym c.read_header.ensures ∙ c.in-Some.is) _ _ (rw c.in_ok-count.was at c.play.ensures) c.if-answer-total.false in
    (e, rw (← e, law.text c.args.file.now (length c.args.answer.now) c.if-file-gt65536.false _ (sym c.read_header.ensures ∙ c.in-Some.is) _ _ (rw c.in_ok-count.was at c.play.ensures)) c.write.ensures)
