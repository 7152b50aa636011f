-- Request P11, 'elements must come out in the order accepted, each once'. It is said of any kernel, and false of the two in Wrong.
-- Each once needs no sentence of its own: two lists are equal.
use Rattle.std.specs.Prelude.{◌≡◌, List, ◌++◌, ℕ, ◌≤◌, take}
use Rattle.model.specs.declared.State.{State}
use Rattle.model.specs.declared.Context.{Context}
use Rattle.model.specs.declared.Call.{Call}
use Rattle.model.specs.State.{fresh, capacity_of, taken_of, elements_of}
use Rattle.turns.specs.Tally.{Kernel, reached_by}
use Rattle.order.specs.Lists.{elements}
use Rattle.order.specs.Ledger.{senders, live, Ledger, no_ledger, ledger}

-- the elements accepted, in order, less those of senders whose wait ended without success
abbrev pub owed : Ledger → List ℕ
owed l = elements (live l.accepted)

-- the elements stored, oldest first
abbrev pub stored_in : State → ℕ → List ℕ
stored_in s q = take (taken_of s q) (elements_of s q)

-- the elements inside: stored, then those of the waiting senders, in queue order
abbrev pub inside : State → ℕ → List ℕ
inside s q = stored_in s q ++ elements (senders s q)

-- through any calls from the fresh state, of each data queue that then exists, since its latest creation: what was accepted, in order, less
-- what was withdrawn, is what was received, in order, followed by what is inside
abbrev pub InOrder : Kernel → Type 0
InOrder k = (calls : List (Context × Call)) (q : ℕ)
    → 1 ≤ capacity_of (reached_by k fresh calls) q
    → owed (ledger k q fresh calls no_ledger) ≡ (ledger k q fresh calls no_ledger).received ++ inside (reached_by k fresh calls) q

-- a data queue that does not exist has no ledger: deletion ends it
abbrev pub NoneWithout : Kernel → Type 0
NoneWithout k = (calls : List (Context × Call)) (q : ℕ)
    → 1 ≤ q → q ≤ 8
    → capacity_of (reached_by k fresh calls) q ≡ 0
    → ledger k q fresh calls no_ledger ≡ no_ledger
