-- InOrder is false of the two kernels of specs/Wrong: one gives the second element first, the other has an element twice.
-- Both runs are computed over the definitions of model, as the pages are.
use mathlib.Core.Path.{◌≡◌, ap}
use mathlib.Core.List.{List, [], ◌∷◌}
use Prim.Native.Nat.{ℕ}
use native.Mathlib.Omega.{arith}
use lib.ListN.{get_or, length}
use Rattle.model.specs.declared.Context.{Context}
use Rattle.model.specs.declared.Call.{Call}
use Rattle.model.specs.declared.Call.TheVariants.{TaskCreate, OnQueue}
use Rattle.model.specs.declared.QueueService.TheVariants.{Create, SendPolling, IsendPolling, Receive, ReceivePolling}
use Rattle.model.proofs.Words.{opened}
use Rattle.turns.specs.Tally.{reached_by}
use Rattle.turns.proofs.Words.{by_task, by_interrupt}
use Rattle.order.specs.Lists as Lists
use Rattle.order.specs.Ledger as Ledgers
use Rattle.order.specs.Statements.{InOrder}
use Rattle.order.specs.Wrong.{newest_first, stores_too}

-- two elements are stored, and one is received
abbrev two : List (Context × Call)
two = by_task (OnQueue 1 (Create 2)) ∷ by_task (OnQueue 1 (SendPolling 7)) ∷ by_task (OnQueue 1 (SendPolling 8)) ∷ by_task (OnQueue 1 ReceivePolling) ∷ []

-- a receiver waits, and an element is sent
abbrev handed : List (Context × Call)
handed = by_task (OnQueue 1 (Create 2)) ∷ by_task (TaskCreate 1 5 1) ∷ by_task (OnQueue 1 (Receive 9)) ∷ by_interrupt (OnQueue 1 (IsendPolling 7)) ∷ []

-- 7, 8 is not 8, 7
pub newest_first_is_refuted : InOrder newest_first → ⊥
unfolding opened reached_by Lists.has Lists.staying Lists.tasks Lists.elements Lists.paired Lists.keeping Ledgers.live Ledgers.withdrawn_by Ledgers.handed_to Ledgers.ledger
newest_first_is_refuted claim = let e : ◌≡◌ {A = ℕ} 7 8 = ap (λ (q : List ℕ). get_or q 0 0) (claim two 1 (omega arith)) in omega arith

-- 7 is not 7, 7
pub storing_too_is_refuted : InOrder stores_too → ⊥
unfolding opened reached_by Lists.has Lists.staying Lists.tasks Lists.elements Lists.paired Lists.keeping Ledgers.live Ledgers.withdrawn_by Ledgers.handed_to Ledgers.ledger
storing_too_is_refuted claim = let e : ◌≡◌ {A = ℕ} 1 2 = ap (λ (q : List ℕ). length q) (claim handed 1 (omega arith)) in omega arith
