-- What every call makes of a data queue's ledger: what is kept of it (Kept) is kept through each way of a call (ways).
-- Others has the calls that are no entry of the queue, Own those that are; InOrder has the theorem.
use mathlib.Core.Path.{refl, ◌∙◌}
use Prim.Native.Nat.{ℕ, ◌+◌, ◌-◌, ◌≤◌}
use native.Mathlib.Omega.{arith}
use Rattle.model.specs.declared.Wait.{Wait}
use Rattle.model.specs.declared.State.{State}
use Rattle.model.specs.declared.Plan.{Plan}
use Rattle.model.specs.declared.Effect.{Effect}
use Rattle.model.specs.declared.Code.{Code}
use Rattle.model.specs.declared.Code.TheVariants.{NoErr, Pending}
use Rattle.model.specs.Row.{first_of}
use Rattle.model.specs.DataQueue.{put, pulled}
use Rattle.model.specs.Task.{served, released, row_of, ended, asleep, on_semaphore, on_flag, to_send, to_receive}
use Rattle.model.specs.State.{task, count, maximum, running, taken_of, elements_of, moved, sized}
use Rattle.model.specs.Effect.{stored, taken, refilled, removed, ticked, carried}
use Rattle.model.specs.Call.{answering}
use Rattle.model.specs.Sound.{Sound}
use Rattle.laws.proofs.Record.{flag_row_lem, queue_row_lem}
use Rattle.laws.proofs.Places.{length-put, length-pulled}
use Rattle.soundness.proofs.Told.{waiter_in, first_waits}
use Rattle.soundness.proofs.Running.{runner}
use Rattle.ways.specs.Kind.{Kind}
use Rattle.ways.specs.Entry.{Entry, receiving}
use Rattle.ways.proofs.Done.{at_once, by_poll, first_at, Begins, sleeps, queues, asks as asks_flag, sends, receives, QueueMade, Receives, direct, oldest, refills, Done, Way, refuses, accepts}
use Rattle.ways.proofs.Done.{Done as Ways}
use Rattle.order.specs.Ledger.{Ledger, entered}
use Rattle.order.proofs.Sides.{row_low, first_in_lem}
use Rattle.order.proofs.Stock.{size as places}
use Rattle.order.proofs.Others.{KeptIn, Held, answer, leaves_all, ending, stopping, ticking, slicing, counting, flagging, deleting, flag_telling, sizing_else, stocking_else, refilling_else, removing_else, changing, same_numbers}
use Rattle.order.proofs.Own.{by_queue_lem, refusing, handing, passing, storing, taking, refilling, waiting_else, waiting_sender, waiting_receiver, opening_own, closing_own, after}

module _ {q : ℕ} {s : State} {l : Ledger} (held : Held q s l) where
  beginning : {i : Entry} {w : Wait} (some : 1 ≤ running s) (t v : ℕ) → Begins s i w → KeptIn q (after held some w) (entered q i s (answer Pending t v (after held some w)) l)
  unfolding row_of
  beginning some t v (sleeps d long e) = waiting_else held some (asleep d) (λ y. omega (arith, y, row_low q held.low held.top)) Pending t v
  beginning some t v (queues m d made long e) = waiting_else held some (on_semaphore m d) (λ y. omega (arith, y, made.top, queue_row_lem q held.low held.top)) Pending t v
  beginning some t v (asks_flag f p m d made given mode long alone unmet) = waiting_else held some (on_flag f p m d) (λ y. omega (arith, y, made.top, made.low, flag_row_lem f made.low made.top, queue_row_lem q held.low held.top)) Pending t v
  beginning some t v (sends n e d made long nobody full) = by_queue_lem held n (after held some (to_send n e d)) _ _
      (λ y. rw y (waiting_sender held some (to_send q e d) e refl refl refl (rw y at made.made) (rw y at nobody) t v))
      (λ apart. waiting_else held some (to_send n e d) (λ y. apart (omega (arith, y, queue_row_lem n made.low made.top, queue_row_lem q held.low held.top))) Pending t v)
  beginning some t v (receives n d made long nobody e) = by_queue_lem held n (after held some (to_receive n d)) _ _
      (λ y. rw y (waiting_receiver held some (to_receive q d) refl refl (rw y at made.made) t v))
      (λ apart. waiting_else held some (to_receive n d) (λ y. apart (omega (arith, y, queue_row_lem n made.low made.top, queue_row_lem q held.low held.top))) Pending t v)

  getting : (n : ℕ) {x : Effect} (v t : ℕ) → QueueMade s n → Receives s n v x → KeptIn q (carried s x) (entered q (receiving n) s (answer NoErr t v (carried s x)) l)
  unfolding carried
  getting n v t made (direct side e y) = by_queue_lem held n (moved (first_at s n) (ended (task s (first_at s n)) served 0) s) _ _
      (λ z. rw z (passing held v t (rw z at made.made) (rw z at side) (rw z at e) (rw z at y)))
      (λ apart. let w = first_in_lem n made.low made.top s held.sound side.0 in ending held (first_at s n) served 0 w.0 w.1 NoErr t v)
  getting n v t made (oldest nobody some y) = by_queue_lem held n (taken n s) _ _
      (λ z. rw z (taking held v t (rw z at made.made) (rw z at some) (rw z at y)))
      (λ apart. unfold taken in stocking_else held n made.low made.top apart (taken_of s n - 1) (pulled (elements_of s n)) (length-pulled (elements_of s n) ∙ places s held.sound n made.top) NoErr t v)
  getting n v t made (refills side some y) = by_queue_lem held n (refilled n s) _ _
      (λ z. rw z (refilling held v t (rw z at made.made) (rw z at side) (rw z at some) (rw z at y)))
      (λ apart. refilling_else held n made.low made.top apart NoErr t v side.0)

  done : {v : ℕ} {j : Kind} {i : Entry} {c : Code} {x : Effect} (t : ℕ) → Done s v j i c x → Sound (carried s x) → KeptIn q (carried s x) (entered q i s (answer c t v (carried s x)) l)
  unfolding carried ticked
  done {v} t Ways.ticks k' = ticking held NoErr t v
  done {v} t (Ways.exits some) k' = stopping held (running s) some (runner s held.sound some).top NoErr t v
  done {v} t (Ways.terminates u some high made) k' = stopping held u some high NoErr t v
  done {v} t (Ways.forces u some high waits) k' = ending held u released 0 some high NoErr t v
  done {v} t (Ways.slices m n some high) k' = slicing held m n NoErr t v
  done {v} t (Ways.serves m made some) k' =
      let w = waiter_in s held.sound (first_of s.waits m) (omega (arith, made.low, first_waits s held.sound m (omega (arith, made.top)) some)) in
      ending held (first_of s.waits m) served 0 w.0 w.1 NoErr t v
  done {v} t (Ways.raises m made free less) k' = counting held m (count s m + 1) (maximum s m) NoErr t v
  done {v} t (Ways.deletes m made) k' = deleting held m made.top NoErr t v
  done {v} t Ways.keeps k' = leaves_all held s (same_numbers held s refl) refl (λ _. refl) NoErr t v
  done {v} t (Ways.moves u x n c) k' = changing held n c NoErr t v
  done {v} t (Ways.waits w some b) k' = beginning some t v b
  done {v} t (Ways.creates m n most some high fits few free made) k' = counting held m n most NoErr t v
  done {v} t (Ways.takes m made left at_once) k' = counting held m (count s m - 1) (maximum s m) NoErr t v
  done {v} t (Ways.takes m made left by_poll) k' = counting held m (count s m - 1) (maximum s m) NoErr t v
  done {v} t (Ways.flags f b c m) k' = flagging held f b c NoErr t v
  done {v} t (Ways.tells f w b c made m) k' = flag_telling held f w b c made.low made.top NoErr t v
  done {v} t (Ways.opens n c some high few free) k' = by_queue_lem held n (sized n (c + 1) s) _ _
      (λ e. rw e (opening_own held (c + 1) t v (rw e at free)))
      (λ apart. sizing_else held n some high apart (c + 1) NoErr t v)
  done {v} t (Ways.removes n made) k' = by_queue_lem held n (removed n s) _ _
      (λ e. rw e (closing_own held t v (rw e at k')))
      (λ apart. removing_else held n made.low made.top apart NoErr t v)
  done {v} t (Ways.hands n e made side) k' = by_queue_lem held n (moved (first_at s n) (ended (task s (first_at s n)) served e) s) _ _
      (λ y. rw y (handing held e t v (rw y at made.made) (rw y at side)))
      (λ apart. let w = first_in_lem n made.low made.top s held.sound side.0 in ending held (first_at s n) served e w.0 w.1 NoErr t v)
  done {v} t (Ways.stores n e made nobody room) k' = by_queue_lem held n (stored n (taken_of s n + 1) e s) _ _
      (λ y. rw y (storing held e t v (rw y at made.made) (rw y at nobody) (rw y at room)))
      (λ apart. unfold stored in stocking_else held n made.low made.top apart (taken_of s n + 1) (put (elements_of s n) (taken_of s n) e) (length-put (elements_of s n) (taken_of s n) e ∙ places s held.sound n made.top) NoErr t v)
  done {v} t (Ways.gets n made c) k' = getting n v t made c

  pub after_call : {j : Kind} {i : Entry} {p : Plan} → Way s j i p → Sound (carried s p.effect) → KeptIn q (carried s p.effect) (entered q i s (answering p (carried s p.effect)) l)
  unfolding carried
  after_call {i = i} (refuses c n d) k' = refusing held i c (running s) 0 n
  after_call (accepts c v x n d f) k' = done (running (carried s x)) f k'
