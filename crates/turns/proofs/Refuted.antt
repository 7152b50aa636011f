-- EveryResource is false of the two kernels of specs/Wrong: after the calls that take and release in every way, the accounts are not even.
-- Both runs are computed over the definitions of model, as the pages are.
use mathlib.Core.Path.{◌≡◌}
use Prim.Native.Nat.{ℕ}
use native.Mathlib.Omega.{arith}
use Rattle.model.proofs.Words.{opened}
use Rattle.turns.specs.Tally.{reached_by, waits_ended, tally}
use Rattle.turns.specs.Statements.{EveryResource}
use Rattle.turns.specs.Wrong.{raises_too, polls_for_nothing}
use Rattle.turns.proofs.Pages.{every_term}

-- 2 + 2 is not 2 + (1 + 1 + 1)
pub raising_too_is_refuted : EveryResource raises_too → ⊥
unfolding opened every_term reached_by tally waits_ended
raising_too_is_refuted claim = let e : ◌≡◌ {A = ℕ} 4 5 = claim every_term 1 tt in omega arith

-- 2 + 2 is not 2 + (2 + 1 + 0): the poll leaves its resource, so the second acquire takes one at once and nobody waits
pub polling_for_nothing_is_refuted : EveryResource polls_for_nothing → ⊥
unfolding opened every_term reached_by tally waits_ended
polling_for_nothing_is_refuted claim = let e : ◌≡◌ {A = ℕ} 4 5 = claim every_term 1 tt in omega arith
