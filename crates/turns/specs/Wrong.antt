-- Two kernels that lose count of resources: each is `step` of model, wrong in the one way that its name says.
-- proofs/Refuted shows that EveryResource is false of both.
use Rattle.std.specs.Prelude.{Bool, true, false, cond, ◌+◌, eqb}
use Rattle.model.specs.declared.State.{State}
use Rattle.model.specs.declared.Answer.{Answer}
use Rattle.model.specs.State.{count, maximum, counted}
use Rattle.model.specs.Call.{step}
use Rattle.ways.specs.Entry.{Entry, creation, deletion, release, acquisition, poll, opening, closing, receiving, sending, none, entry}
use Rattle.turns.specs.Tally.{Kernel, released_by, waits_ended}

-- the answer, with another state
abbrev pub with_state : Answer → State → Answer
with_state r s = record { code = r.code; running = r.running; value = r.value; state = s }

abbrev pub is_poll : Entry → Bool
is_poll (creation m n) = false
is_poll (deletion m) = false
is_poll (release m) = false
is_poll (acquisition m) = false
is_poll (poll m) = true
is_poll (opening q) = false
is_poll (closing q) = false
is_poll (receiving q) = false
is_poll (sending q e) = false
is_poll none = false

-- a release raises the count as well as waking a waiter
abbrev pub raises_too : Kernel
raises_too s c a =
    let r = step s c a in
    let m = released_by (entry a) in
    cond (eqb m 0) r (with_state r (counted m (count r.state m + waits_ended s r.state m 24) (maximum r.state m) r.state))

-- a poll answers as it should and takes nothing
abbrev pub polls_for_nothing : Kernel
polls_for_nothing s c a = let r = step s c a in cond (is_poll (entry a)) (with_state r s) r
