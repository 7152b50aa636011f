-- An accepted call leaves a sound state sound: one clause for each of the ways of ways.
-- It rests on the changes of Changes, the effects of Effects and what the tests have shown (Changed).
use mathlib.Core.Path.{◌≡◌}
use Prim.Native.Nat.{ℕ, ◌+◌, ◌-◌, ◌≤◌}
use native.Mathlib.Omega.{arith}
use Rattle.model.specs.declared.State.{State}
use Rattle.model.specs.declared.Effect.{Effect}
use Rattle.model.specs.declared.Code.{Code}
use Rattle.model.specs.Task.{released, row_of, waiting}
use Rattle.model.specs.State.{task, count, maximum, running, counted}
use Rattle.model.specs.Effect.{ticked, carried}
use Rattle.model.specs.Sound.{Sound}
use Rattle.ways.specs.Kind.{Kind}
use Rattle.ways.specs.Entry.{Entry}
use Rattle.ways.proofs.Done.{Made, QueueMade, Receives, direct, oldest, refills, Done}
use Rattle.ways.proofs.Done.{Done as Ways}
use Rattle.soundness.proofs.Changes.{sound_moved, sound_counted, sound_flagged}
use Rattle.soundness.proofs.Charging.{sound_sliced}
use Rattle.soundness.proofs.Records.{live_made, waiting_live}
use Rattle.soundness.proofs.Told.{no_waiter}
use Rattle.soundness.proofs.Effects.{sound_ends, sound_served, sound_stopped, sound_deleted, sound_told_flag, sound_ticked}
use Rattle.soundness.proofs.Running.{runner}
use Rattle.soundness.proofs.Queued.{sound_opened, sound_first, sound_stored, sound_taken, sound_refilled, sound_removed}
use Rattle.soundness.proofs.Changed.{named_in, change_sound, change_may, begins_sound, begins_may, reflag_fits, tell_fits}

module _ {s : State} (k : Sound s) where
  -- m gets another count, which is 0 if anyone waits
  counting : (m n : ℕ) → Made s m → n ≤ maximum s m → ((t : ℕ) → row_of (task s t) ≡ m → n ≡ 0) → Sound (counted m n (maximum s m) s)
  counting m n made most free = sound_counted s m n (maximum s m) k made.low most (k.semaphores.maxima m) (λ t e. (free t e, made.made))

  -- an element is received
  receives_sound : {q v : ℕ} {x : Effect} → QueueMade s q → Receives s q v x → Sound (carried s x)
  unfolding carried
  receives_sound made (direct side empty e) = sound_first k made.low made.top 0 side.0
  receives_sound made (oldest none some e) = sound_taken k made none some
  receives_sound made (refills side some e) = sound_refilled k made side.0 some

  pub sound_done : {v : ℕ} {j : Kind} {i : Entry} {c : Code} {x : Effect} → Done s v j i c x → Sound (carried s x)
  unfolding carried ticked
  sound_done Ways.ticks = sound_ticked s k
  sound_done (Ways.exits some) = let r = runner s k some in sound_stopped s k (running s) r.low r.top (live_made (task s (running s)) (k.tasks (running s)) r.live)
  sound_done (Ways.terminates u low top made) = sound_stopped s k u low top made
  sound_done (Ways.forces u low top waits) = sound_ends s k u released 0 (low, top) (waiting_live (task s u) (k.tasks u) (λ e. omega arith)) tt
  sound_done (Ways.slices l n low top) = sound_sliced s l n k low top
  sound_done (Ways.serves m made some) = sound_served s k m made.low (omega (arith, made.top)) some 0
  sound_done (Ways.raises m made free less) = counting m (count s m + 1) made (omega arith) (λ t e. absurd (no_waiter s k m made.low (omega (arith, made.top)) free t e))
  sound_done (Ways.deletes m made) = sound_deleted s k m made.low made.top
  sound_done Ways.keeps = k
  sound_done (Ways.moves t x n c) = let r = named_in k n in sound_moved s k t x r.0 r.1 (change_sound k c) (change_may k c)
  sound_done (Ways.waits w some b) = let r = runner s k some in sound_moved s k (running s) (waiting (task s (running s)) w) r.low r.top (begins_sound k some b) (begins_may k b)
  sound_done (Ways.creates m n v low top most some few none) = sound_counted s m n v k low most few (λ t e. absurd (omega (arith, (k.semaphores.waited m t low top e).1)))
  sound_done (Ways.takes m made left i) = counting m (count s m - 1) made (omega (arith, k.semaphores.counts m)) (λ t e. omega (arith, k.semaphores.waited m t made.low made.top e))
  sound_done (Ways.flags f a b r) = let z = reflag_fits k r in sound_flagged s f a b k z.0 z.1
  sound_done (Ways.tells f w a b made t) = sound_told_flag s k f w a b made.low made.top (tell_fits k made t)
  sound_done (Ways.opens q c low top most none) = sound_opened s k q c low top most none
  sound_done (Ways.removes q made) = sound_removed k made
  sound_done (Ways.hands q e made side) = sound_first k made.low made.top e side.0
  sound_done (Ways.stores q e made none room) = sound_stored k made e none room
  sound_done (Ways.gets q made r) = receives_sound made r
