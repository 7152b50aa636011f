-- A data queue in a sound state: all who wait on it are on one side, and what its services make of its numbers, elements and waiters leaves the state sound.
-- It rests on the changes of Changes, the ends of waits in Effects, the news of Told and the laws of places in laws.
use mathlib.Core.Path.{◌≡◌, refl, ◌∙◌}
use mathlib.Core.List.{List}
use mathlib.Core.Logic.{inl, inr}
use Prim.Native.Nat.{ℕ, ◌+◌, ◌-◌, ◌≤◌, ◌<◌}
use native.Mathlib.Omega.{arith}
use lib.Dec.{T as So}
use lib.ListN.{length, drop}
use lib.Seq.{get_or-set_same}
use Rattle.model.specs.declared.State.{State}
use Rattle.model.specs.declared.News.TheVariants.{Deleted}
use Rattle.model.specs.Row.{first_of}
use Rattle.model.specs.DataQueue.{no_elements, put, pulled}
use Rattle.model.specs.Task.{a_send, a_receive, served, row_of, ended}
use Rattle.model.specs.State.{task, capacity_of, taken_of, elements_of, waiters, moved, stocked, sized}
use Rattle.model.specs.Effect.{told_all, stored, taken, refilled, removed}
use Rattle.model.specs.Test.{zeros}
use Rattle.model.specs.Sound.{Sound}
use Rattle.laws.proofs.Places.{length-put, length-pulled, length_places, past_none, past_put, past_pulled, past_on}
use Rattle.laws.proofs.Record.{OnQueue, queue_row_lem, row_queue}
use Rattle.ways.proofs.Done.{QueueMade, first_at, Side}
use Rattle.soundness.proofs.Stocks.{Unserved, unserved}
use Rattle.soundness.proofs.Changes.{sound_stocked, sound_sized}
use Rattle.soundness.proofs.Told.{first_waits, no_waiter, deleted_row}
use Rattle.soundness.proofs.Effects.{sound_served}

-- a queue is created, where none was
pub sound_opened : (s : State) → Sound s → (q c : ℕ) → 1 ≤ q → q ≤ 8 → c ≤ 16 → capacity_of s q ≡ 0 → Sound (sized q (c + 1) s)
sound_opened s k q c low top most none = sound_sized s k q low top (c + 1) (record {
  capacity = omega arith;
  none = λ e. absurd (omega arith);
  within = λ _. omega (arith, k.queues.none q none);
  past = k.queues.past q top;
  waits = λ t e. absurd (omega (arith, k.queues.waited q t low top e));
})

-- the first who waits is served, and gets b
pub sound_first : {s : State} → Sound s → {q : ℕ} → 1 ≤ q → q ≤ 8 → (b : ℕ) → 1 ≤ first_at s q → Sound (moved (first_at s q) (ended (task s (first_at s q)) served b) s)
sound_first {s} k {q} low top b some =
    let e = queue_row_lem q low top in
    rw e (sound_served s k (q + 20) (omega arith) (omega arith) (rw e at some) b)

module _ {s : State} (k : Sound s) {q : ℕ} (made : QueueMade s q) where
  -- ---- who waits
  -- each is on the side of the first
  side : (t : ℕ) → row_of (task s t) ≡ q + 20 → OnQueue (task s t) × Side s (task s t).wait.kind q
  side t e =
      let some : first_of s.waits (q + 20) ≡ 0 → ⊥ = λ none. no_waiter s k (q + 20) (omega arith) (omega (arith, made.top)) none t e in
      let first = first_waits s k (q + 20) (omega (arith, made.top)) (omega arith) in (
        (row_queue (task s t) (k.tasks t) q made.low e).0,
        rw (queue_row_lem q made.low made.top) (omega arith, k.queues.alike q (first_of s.waits (q + 20)) t made.low made.top first e),
      )

  -- so where the first is not on one side, all are on the other
  pub senders : (Side s a_receive q → ⊥) → (t : ℕ) → row_of (task s t) ≡ q + 20 → (task s t).wait.kind ≡ a_send
  senders none t e = go (side t e).0
    where
      go : OnQueue (task s t) → (task s t).wait.kind ≡ a_send
      go (inl sends) = sends
      go (inr receives) = absurd (none (rw receives at (side t e).1))

  pub receivers : (Side s a_send q → ⊥) → (t : ℕ) → row_of (task s t) ≡ q + 20 → (task s t).wait.kind ≡ a_receive
  receivers none t e = go (side t e).0
    where
      go : OnQueue (task s t) → (task s t).wait.kind ≡ a_receive
      go (inl sends) = absurd (none (rw sends at (side t e).1))
      go (inr receives) = receives

  -- ---- what is stored
  -- n elements, in places of which those past the last hold 0
  restocks : (n : ℕ) (ps : List ℕ) → length ps ≡ 16 → n < capacity_of s q → So (zeros (drop n ps))
      → ((t : ℕ) → row_of (task s t) ≡ q + 20 → Unserved (capacity_of s q) n (task s t)) → Sound (stocked q n ps s)
  restocks n ps size less past waits = sound_stocked s k q made.low made.top n ps size
      (record { capacity = k.queues.capacities q; none = λ z. absurd (omega (arith, made.made)); within = λ _. less; past = past; waits = waits })

  past_now : So (zeros (drop (taken_of s q) (elements_of s q)))
  past_now = k.queues.past q made.top

  places# : length (elements_of s q) ≡ 16
  places# = length_places s.numbers.elements k.queues.elements# q made.top

  less_now : taken_of s q < capacity_of s q
  less_now = k.queues.within q made.made

  -- where there is room, nobody waits to send; beside an element, nobody waits to receive
  pub sound_stored : (e : ℕ) → (Side s a_receive q → ⊥) → taken_of s q + 1 < capacity_of s q → Sound (stored q (taken_of s q + 1) e s)
  unfolding stored
  sound_stored e none room = restocks (taken_of s q + 1) (put (elements_of s q) (taken_of s q) e) (length-put (elements_of s q) (taken_of s q) e ∙ places#) room
      (past_put (elements_of s q) (taken_of s q) e past_now)
      (λ t z. absurd (omega (arith, k.queues.sends q t made.low made.top z (senders none t z))))

  pub sound_taken : (Side s a_send q → ⊥) → 1 ≤ taken_of s q → Sound (taken q s)
  unfolding taken
  sound_taken none some = restocks (taken_of s q - 1) (pulled (elements_of s q)) (length-pulled (elements_of s q) ∙ places#) (omega (arith, less_now))
      (past_pulled (elements_of s q) (taken_of s q) some past_now)
      (λ t z. absurd (omega (arith, k.queues.receives q t made.low made.top z (receivers none t z))))

  -- an element goes and one comes: those behind the first wait as they did
  pub sound_refilled : 1 ≤ first_at s q → 1 ≤ taken_of s q → Sound (refilled q s)
  unfolding refilled stocked
  sound_refilled first some =
      let n = taken_of s q in
      let e = (task s (first_at s q)).wait.pattern in
      let ps = put (pulled (elements_of s q)) (n - 1) e in
      sound_first {s = stocked q n ps s}
      (restocks n ps (length-put (pulled (elements_of s q)) (n - 1) e ∙ length-pulled (elements_of s q) ∙ places#) less_now (past_on (elements_of s q) n e some past_now)
      (λ t. unserved k.queues q t made.low made.top))
      made.low made.top 0 first

  -- ---- the queue is deleted
  pub sound_removed : Sound (removed q s)
  unfolding removed stocked
  sound_removed = rw (queue_row_lem q made.low made.top) (sound_sized s₂ k₂ q made.low made.top 0 (record {
    capacity = omega arith;
    none = λ _. get_or-set_same s₁.numbers.taken q 0 0 (omega (arith, k₁.0.queues.taken#, made.top));
    within = λ some. absurd (omega arith);
    past = k₂.queues.past q made.top;
    waits = λ t e. absurd (k₁.1 t e);
  }))
    where
      s₁ : State
      s₁ = told_all Deleted (waiters s (q + 20)) s

      k₁ : Sound s₁ × ((t : ℕ) → row_of (task s₁ t) ≡ q + 20 → ⊥)
      k₁ = deleted_row s k (q + 20) (omega arith) (omega (arith, made.top))

      s₂ : State
      s₂ = stocked q 0 no_elements s₁

      k₂ : Sound s₂
      k₂ = sound_stocked s₁ k₁.0 q made.low made.top 0 no_elements refl
          (record { capacity = k₁.0.queues.capacities q; none = λ _. refl; within = λ some. some; past = past_none; waits = λ t e. absurd (k₁.1 t e) })
