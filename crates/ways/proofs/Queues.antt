-- The ways of the plans of the services on data queues.
-- It rests on the services of model/specs/Service; Objects has those on semaphores and flags.
use mathlib.Core.Path.{◌≡◌, refl}
use mathlib.Core.Bool.{Bool, true, false, cond}
use Prim.Native.Nat.{ℕ, ◌+◌, ◌≤◌, ◌<◌}
use native.Mathlib.Omega.{arith}
use lib.ListN.{get_or}
use Rattle.model.specs.declared.Effect.TheVariants.{Takes, Refills}
use Rattle.model.specs.declared.State.{State}
use Rattle.model.specs.declared.Plan.{Plan}
use Rattle.model.specs.Task.{endless, a_send, a_receive, to_send, to_receive}
use Rattle.model.specs.State.{task, capacity_of, taken_of, elements_of, data_queue, running}
use Rattle.model.specs.Plan.{gives}
use Rattle.model.specs.Service.{queue_create, queue_delete, is_side, sent, queue_send, queue_send_poll, received, queue_receive, queue_receive_poll}
use Rattle.laws.proofs.Says.{Says, says_and}
use Rattle.ways.specs.Kind.{other}
use Rattle.ways.specs.Entry.{opening, closing, receiving, sending}
use Rattle.ways.proofs.Tests.{yes, in_range, equals, at_most, below, some_of, none_of, positive}
use Rattle.ways.proofs.Done as Does
use Rattle.ways.proofs.Done.{QueueMade, first_at, Side, sends, receives, direct, oldest, refills, waits, opens, removes, hands, stores, gets, Way, done, pending, needs, picks, checks}

module _ (s : State) (mine : Bool) where
  exists : (q : ℕ) → (1 ≤ q) × (q ≤ 8) → 1 ≤ capacity_of s q → QueueMade s q
  exists q r made = record { low = r.0; top = r.1; made = made }

  says_side : (v q : ℕ) → Says (is_side v (data_queue s q)) (Side s v q)
  unfolding is_side
  says_side v q = says_and (some_of (first_at s q)) (equals (task s (first_at s q)).wait.kind v)

  pub way_queue_create : (q c : ℕ) → Way s other (opening q) (queue_create mine q c (data_queue s q))
  unfolding queue_create
  way_queue_create q c = checks (says_and (in_range 1 q 8) (says_and (at_most c 16) (none_of (capacity_of s q)))) yes mine _ (λ h _.
      done 0 (opens q c h.0.0 h.0.1 h.1.0 h.1.1))

  pub way_queue_delete : (q : ℕ) → Way s other (closing q) (queue_delete mine q (data_queue s q))
  unfolding queue_delete
  way_queue_delete q = checks (in_range 1 q 8) (some_of (capacity_of s q)) mine _ (λ h made. done 0 (removes q (exists q h made)))

  -- an element goes in, or the queue is full
  way_sent : (q e : ℕ) → QueueMade s q → (full : Plan) → ((Side s a_receive q → ⊥) → capacity_of s q ≤ taken_of s q + 1 → Way s other (sending q e) full)
      → Way s other (sending q e) (sent q e (data_queue s q) full)
  unfolding sent
  way_sent q e made full f = picks (says_side a_receive q) _ _
      (λ waits. done 0 (hands q e made waits))
      (λ none. picks (below (taken_of s q + 1) (capacity_of s q)) _ _
      (λ room. done 0 (stores q e made none room))
      (λ packed. f none (not_below packed)))
    where
      not_below : (taken_of s q + 1 < capacity_of s q → ⊥) → capacity_of s q ≤ taken_of s q + 1
      not_below packed = omega arith

  pub way_queue_send : (q e d : ℕ) → Way s other (sending q e) (queue_send mine q e d (running s) (task s (running s)) (data_queue s q))
  unfolding queue_send
  way_queue_send q e d = checks (says_and (in_range 1 q 8) (in_range 1 d endless)) (some_of (capacity_of s q)) mine _ (λ h made. needs (some_of (running s)) _ _ tt (λ runs.
      way_sent q e (exists q h.0 made) _ (λ none full. pending (waits (to_send q e d) runs (sends q e d (exists q h.0 made) h.1.0 none full)))))

  pub way_queue_send_poll : (q e : ℕ) → Way s other (sending q e) (queue_send_poll mine q e (data_queue s q))
  unfolding queue_send_poll
  way_queue_send_poll q e = checks (in_range 1 q 8) (some_of (capacity_of s q)) mine _ (λ h made. way_sent q e (exists q h made) _ (λ _ _. Does.Way.refuses _ tt tt))

  -- an element comes out, or the queue is empty
  way_received : (q : ℕ) → QueueMade s q → (empty : Plan) → ((Side s a_send q → ⊥) → taken_of s q ≡ 0 → Way s other (receiving q) empty)
      → Way s other (receiving q) (received q (data_queue s q) empty)
  unfolding received
  way_received q made empty f = picks (equals (taken_of s q) 0) _ _
      (λ e. picks (says_side a_send q) _ _ (λ waits. done _ (gets q made (direct waits e refl))) (λ none. f none e))
      (λ some. taking some)
    where
      taking : (taken_of s q ≡ 0 → ⊥) → Way s other (receiving q) (gives (get_or (elements_of s q) 0 0) (cond (is_side a_send (data_queue s q)) (Refills q) (Takes q)))
      taking some = go (is_side a_send (data_queue s q)) (says_side a_send q)
        where
          go : (b : Bool) → Says b (Side s a_send q) → Way s other (receiving q) (gives (get_or (elements_of s q) 0 0) (cond b (Refills q) (Takes q)))
          go true says = done _ (gets q made (refills (says.yields tt) (positive some) refl))
          go false says = done _ (gets q made (oldest says.tests (positive some) refl))

  pub way_queue_receive : (q d : ℕ) → Way s other (receiving q) (queue_receive mine q d (running s) (task s (running s)) (data_queue s q))
  unfolding queue_receive
  way_queue_receive q d = checks (says_and (in_range 1 q 8) (in_range 1 d endless)) (some_of (capacity_of s q)) mine _ (λ h made. needs (some_of (running s)) _ _ tt (λ runs.
      way_received q (exists q h.0 made) _ (λ none e. pending (waits (to_receive q d) runs (receives q d (exists q h.0 made) h.1.0 none e)))))

  pub way_queue_receive_poll : (q : ℕ) → Way s other (receiving q) (queue_receive_poll mine q (data_queue s q))
  unfolding queue_receive_poll
  way_queue_receive_poll q = checks (in_range 1 q 8) (some_of (capacity_of s q)) mine _ (λ h made. way_received q (exists q h made) _ (λ _ _. Does.Way.refuses _ tt tt))
