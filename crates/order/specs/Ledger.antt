-- The ledger of one data queue since its latest creation: what was accepted, in order, and what was received, in order.
-- It is read off the calls, their answers and the waits that end, for any kernel; no state holds a part of it.
use Rattle.std.specs.Prelude.{Bool, true, false, cond, not, ◌&&◌, List, [], ◌∷◌, ◌++◌, ℕ, eqb}
use Rattle.model.specs.declared.State.{State}
use Rattle.model.specs.declared.Answer.{Answer}
use Rattle.model.specs.declared.Context.{Context}
use Rattle.model.specs.declared.Call.{Call}
use Rattle.model.specs.DataQueue.{queue_row}
use Rattle.model.specs.Task.{a_send, a_receive}
use Rattle.model.specs.State.{task, waiters, running}
use Rattle.model.specs.Code.{number, is_negative}
use Rattle.model.specs.Bench.{listing}
use Rattle.ways.specs.Entry.{Entry, creation, deletion, release, acquisition, poll, opening, closing, receiving, sending, none, entry}
use Rattle.turns.specs.Tally.{Kernel, is_zero}
use Rattle.order.specs.Lists.{has, staying, tasks, paired, keeping}

-- ---- who waits on data queue q, first to last
abbrev pub waits_for : State → ℕ → ℕ → Bool
waits_for s v t = eqb (task s t).wait.kind v

-- all of them, each with what its record has as pattern: of a sender, its element
abbrev pub pairs : State → ℕ → List (ℕ × ℕ)
pairs s q = paired (λ t. (task s t).wait.pattern) (listing (waiters s (queue_row q)))

-- those who wait to send, each with its element
abbrev pub senders : State → ℕ → List (ℕ × ℕ)
senders s q = keeping (waits_for s a_send) (pairs s q)

-- those who wait to receive
abbrev pub receivers : State → ℕ → List ℕ
receivers s q = staying (waits_for s a_receive) (listing (waiters s (queue_row q)))

-- ---- entries
-- an accepted element
pub record Sent : Type 0 where
  pub waiter : ℕ  -- the task that waits with it; 0 where its send is answered with 0
  pub element : ℕ
  pub withdrawn : Bool  -- that wait ended without success

pub record Ledger : Type 0 where
  pub accepted : List Sent  -- in the order accepted
  pub received : List ℕ  -- in the order received

abbrev pub no_ledger : Ledger
no_ledger = record { accepted = []; received = [] }

-- what was accepted less what was withdrawn: who waited with it, and the element
unfoldable pub live : List Sent → List (ℕ × ℕ)
live [] = []
live (x ∷ rest) = cond x.withdrawn (live rest) ((x.waiter, x.element) ∷ live rest)

-- an entry is withdrawn if its task gave up and it is that task's latest: a task waits for one thing at a time
abbrev pub is_withdrawn : (ℕ → Bool) → Sent → List (ℕ × ℕ) → Bool
is_withdrawn up x later = up x.waiter && not (has x.waiter (tasks later))

abbrev pub withdrawing : Sent → Bool → Sent
withdrawing x b = cond b (record { waiter = x.waiter; element = x.element; withdrawn = true }) x

unfoldable pub withdrawn_by : (ℕ → Bool) → List Sent → List Sent
withdrawn_by up [] = []
withdrawn_by up (x ∷ rest) = withdrawing x (is_withdrawn up x (live rest)) ∷ withdrawn_by up rest

-- ---- the waits that end, from the state before a call to the one after it
-- t waited to send before, and after does not
abbrev pub stops_sending : ℕ → State → State → ℕ → Bool
stops_sending q s s' t = has t (tasks (senders s q)) && not (has t (tasks (senders s' q)))

-- what those of a list of receivers who wait no more have in their records
unfoldable pub handed_to : ℕ → State → List ℕ → List ℕ
handed_to q s' [] = []
handed_to q s' (t ∷ rest) = cond (has t (receivers s' q)) (handed_to q s' rest) ((task s' t).handed ∷ handed_to q s' rest)

-- ---- what a call is to the ledger
-- a send of e that is answered with 0 or 1; where a receiver's wait ends with it, the element is handed over
abbrev pub with_sent : ℕ → ℕ → State → Answer → Ledger → Ledger
with_sent q e s r l = cond (is_negative (number r.code)) l (record {
  accepted = l.accepted ++ (record { waiter = cond (is_zero (number r.code)) 0 (running s); element = e; withdrawn = false } ∷ []);
  received = l.received ++ handed_to q r.state (receivers s q);
})

-- a receive that is answered with 0
abbrev pub with_received : Answer → Ledger → Ledger
with_received r l = cond (is_zero (number r.code)) (record { accepted = l.accepted; received = l.received ++ (r.value ∷ []) }) l

-- a creation begins it anew and a deletion ends it, if answered with 0
abbrev pub with_none : Answer → Ledger → Ledger
with_none r l = cond (is_zero (number r.code)) no_ledger l

-- any other call takes nothing from the queue: who stops sending then has given up. So has a sender that is terminated with an activation
-- counted, which is left like one served
abbrev pub with_given_up : ℕ → State → Answer → Ledger → Ledger
with_given_up q s r l = record { accepted = withdrawn_by (stops_sending q s r.state) l.accepted; received = l.received }

abbrev pub entered : ℕ → Entry → State → Answer → Ledger → Ledger
entered q (creation m n) s r l = with_given_up q s r l
entered q (deletion m) s r l = with_given_up q s r l
entered q (release m) s r l = with_given_up q s r l
entered q (acquisition m) s r l = with_given_up q s r l
entered q (poll m) s r l = with_given_up q s r l
entered q (opening n) s r l = cond (eqb n q) (with_none r l) (with_given_up q s r l)
entered q (closing n) s r l = cond (eqb n q) (with_none r l) (with_given_up q s r l)
entered q (receiving n) s r l = cond (eqb n q) (with_received r l) (with_given_up q s r l)
entered q (sending n e) s r l = cond (eqb n q) (with_sent q e s r l) (with_given_up q s r l)
entered q none s r l = with_given_up q s r l

-- through a list of calls, from a state and a ledger
unfoldable pub ledger : Kernel → ℕ → State → List (Context × Call) → Ledger → Ledger
ledger k q s [] l = l
ledger k q s (a ∷ rest) l = let r = k s a.0 a.1 in ledger k q r.state rest (entered q (entry a.1) s r l)
