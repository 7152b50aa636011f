-- What an entry of a data queue makes of its ledger: an element sent, received or handed over, a wait that begins, a creation, a deletion.
-- It rests on the two sides of the queue (Sides), on what it has stored (Stock) and on the laws of Kept.
use mathlib.Core.Path.{◌≡◌, refl, sym, ap, ◌∙◌}
use mathlib.Core.Bool.{true, false, cond}
use mathlib.Core.List.{List, [], ◌∷◌, ◌++◌, append-nil, append_assoc}
use mathlib.Core.Logic.{⊎_elim}
use Prim.Native.Nat.{ℕ, ◌+◌, ◌-◌, ◌≤◌, ◌<◌}
use native.Mathlib.Omega.{arith}
use lib.Dec.{T as So, eqb}
use lib.IntN.{ℤ, pos, negsuc}
use lib.ListN.{get_or, take}
use lib.Seq.{get_or-set_same}
use borrow.Author.Tests.{eq-eqb, ne_eqb}
use Rattle.model.specs.declared.Wait.{Wait}
use Rattle.model.specs.declared.Task.{Task}
use Rattle.model.specs.declared.State.{State}
use Rattle.model.specs.declared.News.TheVariants.{Deleted}
use Rattle.model.specs.declared.Code.{Code}
use Rattle.model.specs.declared.Code.TheVariants.{NoErr, Pending}
use Rattle.model.specs.DataQueue.{pulled, queue_row}
use Rattle.model.specs.Task.{a_send, a_receive, served, row_of, waiting, ended}
use Rattle.model.specs.State.{task, waiters, running, capacity_of, taken_of, elements_of, moved, stocked, sized}
use Rattle.model.specs.Code.{number, is_negative, is_refusal}
use Rattle.model.specs.Effect.{told_all, stored, taken, refilled, removed}
use Rattle.model.specs.Sound.{Sound}
use Rattle.laws.proofs.Number.{same?}
use Rattle.laws.proofs.Record.{row_free}
use Rattle.soundness.proofs.Moved.{task-moved}
use Rattle.soundness.proofs.Folds.{numbers_moved, numbers_told}
use Rattle.soundness.proofs.Running.{runner}
use Rattle.turns.specs.Tally.{is_zero}
use Rattle.ways.specs.Entry.{Entry, creation, deletion, release, acquisition, poll, opening, closing, receiving, sending, none}
use Rattle.ways.proofs.Done.{first_at, Side}
use Rattle.order.specs.Lists.{keeping}
use Rattle.order.specs.Ledger.{senders, receivers, Ledger, handed_to, with_sent, with_received, with_none, with_given_up, entered}
use Rattle.order.specs.Statements.{stored_in}
use Rattle.order.proofs.Lists.{keeping_nil}
use Rattle.order.proofs.Kept.{Kept, begins, joins, waits_on, passes}
use Rattle.order.proofs.Kept as Keeping
use Rattle.order.proofs.Moving.{sound_good, Shrinks, leaves_ended, shrinks_moved, after_moved}
use Rattle.order.proofs.Sides.{row_low, row_top, senders_kept, receiverless, sendless_beside, sendless_room, stockless, unmade_sides, first_in_lem, senders_served, receiver_served, sender_joined, receiver_joined}
use Rattle.order.proofs.Stock.{stored_joined, stored_first, stored_passed, stored_oldest}
use Rattle.order.proofs.Others.{KeptIn, Held, answer, gives_up, leaves_all, same_numbers}

-- a refusal is not answered with 0
refused_not : (z : ℤ) → So (is_negative z) → (is_zero z ≡ false) × (is_negative z ≡ true)
refused_not (pos n) h = absurd h
refused_not (negsuc n) h = (refl, refl)

module _ {q : ℕ} {s : State} {l : Ledger} (held : Held q s l) where
  -- ---- entries of q, and of another data queue n
  pub by_queue_lem : (n : ℕ) (s' : State) (m₁ m₂ : Ledger) → (n ≡ q → KeptIn q s' m₁) → ((n ≡ q → ⊥) → KeptIn q s' m₂) → KeptIn q s' (cond (eqb n q) m₁ m₂)
  by_queue_lem n s' m₁ m₂ own else = ⊎_elim (λ (e : n ≡ q). rw (eq-eqb n q e) (own e)) (λ (apart : n ≡ q → ⊥). rw (ne_eqb n q apart) (else apart)) (same? n q)

  -- a refused call is not entered
  pub refusing : (i : Entry) (c : Code) (t v : ℕ) → So (is_refusal c) → KeptIn q s (entered q i s (answer c t v s) l)
  refusing i c t v h = go i
    where
      no : (is_zero (number c) ≡ false) × (is_negative (number c) ≡ true)
      no = refused_not (number c) h

      else : KeptIn q s (with_given_up q s (answer c t v s) l)
      else = leaves_all held s (same_numbers held s refl) refl (λ _. refl) c t v

      go : (i : Entry) → KeptIn q s (entered q i s (answer c t v s) l)
      go (creation m n) = else
      go (deletion m) = else
      go (release m) = else
      go (acquisition m) = else
      go (poll m) = else
      go (opening n) = by_queue_lem n s _ _ (λ _. rw no.0 held.ledger) (λ _. else)
      go (closing n) = by_queue_lem n s _ _ (λ _. rw no.0 held.ledger) (λ _. else)
      go (receiving n) = by_queue_lem n s _ _ (λ _. rw no.0 held.ledger) (λ _. else)
      go (sending n e) = by_queue_lem n s _ _ (λ _. rw no.1 held.ledger) (λ _. else)
      go none = else

  -- of a queue that exists nothing more is kept
  existing : (s' : State) {m : Ledger} → s'.numbers.capacities ≡ s.numbers.capacities → 1 ≤ capacity_of s q → Kept (senders s' q) (stored_in s' q) m → KeptIn q s' m
  existing s' e made kept = record { kept = kept; none = λ z. absurd (omega (arith, ap (λ (cs : List ℕ). get_or cs q 0) e, made, z)) }

  -- ---- the first waiter is served
  abbrev first : ℕ
  first = first_at s q

  abbrev serving : ℕ → State
  serving e = moved first (ended (task s first) served e) s

  same_stored : (u : ℕ) (x : Task) → stored_in (moved u x s) q ≡ stored_in s q
  same_stored u x = rw (numbers_moved s u x)

  same_stock : (e : ℕ) → stored_in (serving e) q ≡ stored_in s q
  same_stock e = same_stored first (ended (task s first) served e)

  same_capacities : (u : ℕ) (x : Task) → (moved u x s).numbers.capacities ≡ s.numbers.capacities
  same_capacities u x = rw (numbers_moved s u x)

  off : (b : ℕ) → row_of (ended (task s first) served b) ≡ 0
  unfolding row_of
  off b = refl

  pub handing : (e t v : ℕ) → 1 ≤ capacity_of s q → Side s a_receive q → KeptIn q (serving e) (with_sent q e s (answer NoErr t v (serving e)) l)
  handing e t v made side = existing (serving e) (same_capacities first (ended (task s first) served e)) made
      (rw (gone, same_stock e) (joins (senders s q) (stored_in s q) l held.ledger.kept (sendless_beside q held.low held.top s held.sound side) e (l.received ++ handed_to q (serving e) (receivers s q)) (stored_in s q)
      (rw (given_over, stockless q held.low held.top s held.sound side, append-nil l.received, append-nil (l.received ++ (e ∷ []))))))
    where
      x : Task
      x = ended (task s first) served e

      h : Shrinks (queue_row q) s (serving e)
      h = (after_moved (queue_row q) (row_low q held.low held.top) (row_top q held.low held.top) s first x side.0 (first_in_lem q held.low held.top s held.sound side.0).1 (leaves_ended (task s first) served e) (sound_good held.sound)).0

      gone : senders (serving e) q ≡ []
      gone = senders_kept q held.low held.top s (serving e) h ∙ ap (keeping h.p) (sendless_beside q held.low held.top s held.sound side) ∙ keeping_nil h.p

      given_over : handed_to q (serving e) (receivers s q) ≡ e ∷ []
      given_over = receiver_served q held.low held.top s held.sound x side.0 (off e) side ∙ ap (λ (y : Task). y.handed ∷ []) (task-moved s first x (omega (arith, held.sound.tasks#, (first_in_lem q held.low held.top s held.sound side.0).1)))

  pub passing : (v t : ℕ) → 1 ≤ capacity_of s q → Side s a_send q → taken_of s q ≡ 0 → (task s first).wait.pattern ≡ v → KeptIn q (serving 0) (with_received (answer NoErr t v (serving 0)) l)
  passing v t made side e y = existing (serving 0) (same_capacities first (ended (task s first) served 0)) made
      (passes (senders s q) (stored_in s q) l held.ledger.kept (first, (task s first).wait.pattern) (senders (serving 0) q) (l.received ++ (v ∷ [])) (stored_in (serving 0) q)
      (senders_served q held.low held.top s held.sound (ended (task s first) served 0) side.0 (off 0) side)
      (rw (same_stock 0, empty, y, append-nil l.received, append-nil (l.received ++ (v ∷ [])))))
    where
      empty : stored_in s q ≡ []
      empty = rw e

  -- ---- an element is stored, taken, or both
  pub storing : (e t v : ℕ) → 1 ≤ capacity_of s q → (Side s a_receive q → ⊥) → taken_of s q + 1 < capacity_of s q
      → KeptIn q (stored q (taken_of s q + 1) e s) (with_sent q e s (answer NoErr t v (stored q (taken_of s q + 1) e s)) l)
  unfolding stored stocked handed_to
  storing e t v made nobody room = existing s' refl made
      (rw (sendless_room q held.low held.top s held.sound room, stored_joined s held.sound q held.top e room)
      (joins (senders s q) (stored_in s q) l held.ledger.kept (sendless_room q held.low held.top s held.sound room) e (l.received ++ handed_to q s' (receivers s q)) (stored_in s q ++ (e ∷ []))
      (rw (receiverless q held.low held.top s held.sound nobody, append-nil l.received) (append_assoc l.received (stored_in s q) (e ∷ [])))))
    where
      s' : State
      s' = stored q (taken_of s q + 1) e s

  pub taking : (v t : ℕ) → 1 ≤ capacity_of s q → 1 ≤ taken_of s q → get_or (elements_of s q) 0 0 ≡ v → KeptIn q (taken q s) (with_received (answer NoErr t v (taken q s)) l)
  unfolding taken stocked
  taking v t made some y = existing (taken q s) refl made
      (Keeping.taken (senders s q) (stored_in s q) l held.ledger.kept v (stored_in (taken q s) q) (stored_first s held.sound q held.top some ∙ rw y))

  pub refilling : (v t : ℕ) → 1 ≤ capacity_of s q → Side s a_send q → 1 ≤ taken_of s q → get_or (elements_of s q) 0 0 ≡ v → KeptIn q (refilled q s) (with_received (answer NoErr t v (refilled q s)) l)
  unfolding refilled moved stocked
  refilling v t made side some y = existing (refilled q s) refl made
      (passes (senders s q) (stored_in s q) l held.ledger.kept (first, pattern) (senders (serving 0) q) (l.received ++ (v ∷ [])) (stored_in (refilled q s) q)
      (senders_served q held.low held.top s held.sound (ended (task s first) served 0) side.0 (off 0) side)
      (rw (stored_oldest s held.sound q held.top some, y, stored_passed s held.sound q held.top some pattern) (over l.received v rest pattern)))
    where
      pattern : ℕ
      pattern = (task s first).wait.pattern

      rest : List ℕ
      rest = take (taken_of s q - 1) (pulled (elements_of s q))

      over : (b : List ℕ) (e : ℕ) (c : List ℕ) (f : ℕ) → (b ++ (e ∷ c)) ++ (f ∷ []) ≡ (b ++ (e ∷ [])) ++ (c ++ (f ∷ []))
      over b e c f = append_assoc b (e ∷ c) (f ∷ []) ∙ sym (append_assoc b (e ∷ []) (c ++ (f ∷ [])))

  -- ---- who runs begins to wait
  module _ (some : 1 ≤ running s) (w : Wait) where
    abbrev begun : Task
    begun = waiting (task s (running s)) w

    abbrev pub after : State
    after = moved (running s) begun s

    high : running s ≤ 24
    high = (runner s held.sound some).top

    free : row_of (task s (running s)) ≡ 0
    free = row_free (task s (running s)) (omega (arith, (runner s held.sound some).idle))

    -- elsewhere
    pub waiting_else : (row_of begun ≡ (queue_row q) → ⊥) → (c : Code) (t v : ℕ) → KeptIn q after (with_given_up q s (answer c t v after) l)
    waiting_else apart = gives_up held after (same_numbers held after (numbers_moved s (running s) begun)) (shrinks_moved (queue_row q) (row_low q held.low held.top) (row_top q held.low held.top) s (sound_good held.sound) (running s) begun some high (λ e. absurd (apart e)))

    -- on q, to send
    pub waiting_sender : (e : ℕ) → row_of begun ≡ (queue_row q) → w.kind ≡ a_send → w.pattern ≡ e → 1 ≤ capacity_of s q → (Side s a_receive q → ⊥) → (t v : ℕ) → KeptIn q after (with_sent q e s (answer Pending t v after) l)
    unfolding handed_to
    waiting_sender e on kind y made nobody t v = existing after (same_capacities (running s) begun) made
        (rw (joined, same_stored (running s) begun, nothing) (waits_on (senders s q) (stored_in s q) l held.ledger.kept (running s) e))
      where
        joined : senders after q ≡ senders s q ++ ((running s, e) ∷ [])
        joined = sender_joined q held.low held.top s (sound_good held.sound) (running s) begun some high free on kind ∙ rw y

        nothing : handed_to q after (receivers s q) ≡ []
        nothing = ap (handed_to q after) (receiverless q held.low held.top s held.sound nobody)

    -- or to receive, which is no entry yet
    pub waiting_receiver : row_of begun ≡ (queue_row q) → w.kind ≡ a_receive → 1 ≤ capacity_of s q → (t v : ℕ) → KeptIn q after (with_received (answer Pending t v after) l)
    waiting_receiver on kind made t v = existing after (same_capacities (running s) begun) made
        (rw (receiver_joined q held.low held.top s (sound_good held.sound) (running s) begun some high free on (λ e. omega (arith, e, kind)), append-nil (senders s q), same_stored (running s) begun) held.ledger.kept)

  -- ---- any accepted call, after which the state is sound
  pub opening_own : (c t v : ℕ) → capacity_of s q ≡ 0 → KeptIn q (sized q c s) (with_none (answer NoErr t v (sized q c s)) l)
  unfolding sized
  opening_own c t v e = let z = unmade_sides q held.low held.top s held.sound e in record { kept = rw (z.0, z.1) begins; none = λ _. refl }

  pub closing_own : (t v : ℕ) → Sound (removed q s) → KeptIn q (removed q s) (with_none (answer NoErr t v (removed q s)) l)
  unfolding removed sized stocked
  closing_own t v k' = let z = unmade_sides q held.low held.top (removed q s) k' gone in record { kept = rw (z.0, z.1) begins; none = λ _. refl }
    where
      e : (told_all Deleted (waiters s (queue_row q)) s).numbers ≡ s.numbers
      e = numbers_told Deleted (waiters s (queue_row q)) s

      gone : capacity_of (removed q s) q ≡ 0
      gone = rw e (get_or-set_same s.numbers.capacities q 0 0 (omega (arith, held.sound.queues.capacities#)))
