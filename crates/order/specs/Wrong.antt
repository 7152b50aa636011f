-- Two kernels that lose the order: each is `step` of model, wrong in the one way that its name says.
-- proofs/Refuted shows that InOrder is false of both.
use Rattle.std.specs.Prelude.{cond, ◌++◌, reverse, ℕ, ◌+◌, eqb, length, drop}
use Rattle.model.specs.declared.State.{State}
use Rattle.model.specs.State.{taken_of, elements_of, stocked}
use Rattle.model.specs.Effect.{stored}
use Rattle.model.specs.Call.{step}
use Rattle.ways.specs.Entry.{Entry, creation, deletion, release, acquisition, poll, opening, closing, receiving, sending, none, entry}
use Rattle.turns.specs.Tally.{Kernel}
use Rattle.turns.specs.Wrong.{with_state}
use Rattle.order.specs.Ledger.{receivers, handed_to}
use Rattle.order.specs.Statements.{stored_in}

-- the data queue that an entry receives from, and the one that it sends to with what; else 0
abbrev pub received_from : Entry → ℕ
received_from (creation m n) = 0
received_from (deletion m) = 0
received_from (release m) = 0
received_from (acquisition m) = 0
received_from (poll m) = 0
received_from (opening q) = 0
received_from (closing q) = 0
received_from (receiving q) = q
received_from (sending q e) = 0
received_from none = 0

abbrev pub sent_to : Entry → ℕ × ℕ
sent_to (creation m n) = (0, 0)
sent_to (deletion m) = (0, 0)
sent_to (release m) = (0, 0)
sent_to (acquisition m) = (0, 0)
sent_to (poll m) = (0, 0)
sent_to (opening q) = (0, 0)
sent_to (closing q) = (0, 0)
sent_to (receiving q) = (0, 0)
sent_to (sending q e) = (q, e)
sent_to none = (0, 0)

-- the elements of data queue q the other way round
abbrev pub reversed : ℕ → State → State
reversed q s = stocked q (taken_of s q) (reverse (stored_in s q) ++ drop (taken_of s q) (elements_of s q)) s

-- last in, first out: a receive takes the newest element
abbrev pub newest_first : Kernel
newest_first s c a =
    let q = received_from (entry a) in
    let r = step (reversed q s) c a in
    cond (eqb q 0) (step s c a) (with_state r (reversed q r.state))

-- an element that is handed to a waiting receiver is stored as well
abbrev pub stores_too : Kernel
stores_too s c a =
    let r = step s c a in
    let q = (sent_to (entry a)).0 in
    cond (eqb (length (handed_to q r.state (receivers s q))) 0) r (with_state r (stored q (taken_of r.state q + 1) (sent_to (entry a)).1 r.state))
