-- The two sides of a data queue, who waits to send and who to receive: what is left of them by a call that lets nobody enter, by one more who waits and by one
-- who is served; and in a sound state one of the two is empty. It rests on the row of Moving.
use mathlib.Core.Path.{◌≡◌, refl, sym, ap, ◌∙◌}
use mathlib.Core.Bool.{Bool, true, false, cond, ◌&&◌, false≢true}
use mathlib.Core.List.{List, [], ◌∷◌, ◌++◌}
use mathlib.Core.Logic.{⊎_elim}
use Prim.Native.Nat.{ℕ, ◌+◌, ◌≤◌, ◌<◌}
use native.Mathlib.Omega.{arith}
use lib.Dec.{eqb}
use lib.ListN.{drop}
use borrow.Author.Tests.{eq-eqb, ne_eqb}
use Rattle.model.specs.declared.Task.{Task}
use Rattle.model.specs.declared.State.{State}
use Rattle.model.specs.Row.{row}
use Rattle.model.specs.DataQueue.{queue_row}
use Rattle.model.specs.Task.{a_send, a_receive, row_of}
use Rattle.model.specs.State.{task, capacity_of, taken_of, moved}
use Rattle.model.specs.Sound.{Sound}
use Rattle.model.specs.Bench.{listing}
use Rattle.laws.proofs.Number.{same?}
use Rattle.laws.proofs.Record.{queue_row_lem}
use Rattle.soundness.proofs.Moved.{task-moved, task_kept}
use Rattle.soundness.proofs.Told.{waiter_in, first_waits, no_waiter}
use Rattle.ways.proofs.Done.{first_at, Side}
use Rattle.order.specs.Lists.{has, once, staying, tasks, paired, keeping}
use Rattle.order.specs.Ledger.{waits_for, pairs, senders, receivers, handed_to}
use Rattle.order.specs.Statements.{stored_in}
use Rattle.order.proofs.Lists.{or-true, and_none, tasks-keeping, once_rest, once-staying, has-staying, keeping_same, keeping_append}
use Rattle.order.proofs.Entries.{handed_none}
use Rattle.order.proofs.Listing.{tasks-paired, paired_same, keeping-paired, staying_all, others, listing_some, listing_tasks}
use Rattle.order.proofs.Moving.{queue, asks, Good, sound_good, Shrinks, once-queue, absent, queue_left, pairs_joined}

-- ---- parts of parts
keeping_twice : (p q : ℕ → Bool) (l : List (ℕ × ℕ)) → keeping q (keeping p l) ≡ keeping (λ t. p t && q t) l
unfolding keeping
keeping_twice p q [] = refl
keeping_twice p q (x ∷ l) = go (p x.0) (keeping_twice p q l)
  where
    go : (b : Bool) → keeping q (keeping p l) ≡ keeping (λ t. p t && q t) l
        → keeping q (cond b (x ∷ keeping p l) (keeping p l)) ≡ cond (b && q x.0) (x ∷ keeping (λ t. p t && q t) l) (keeping (λ t. p t && q t) l)
    go true e = rw e
    go false e = e

and_turned : (a b : Bool) → a && b ≡ b && a
and_turned true true = refl
and_turned true false = refl
and_turned false true = refl
and_turned false false = refl

keeping_none : (p : ℕ → Bool) (l : List (ℕ × ℕ)) → ((t : ℕ) → has t (tasks l) ≡ true → p t ≡ false) → keeping p l ≡ []
unfolding has tasks keeping
keeping_none p [] h = refl
keeping_none p (x ∷ l) h = rw (h x.0 (rw (eq-eqb x.0 x.0 refl))) (keeping_none p l (λ u y. h u (rw (y, or-true (eqb x.0 u)))))

staying_none : (p : ℕ → Bool) (l : List ℕ) → ((t : ℕ) → has t l ≡ true → p t ≡ false) → staying p l ≡ []
unfolding has staying
staying_none p [] h = refl
staying_none p (t ∷ l) h = rw (h t (rw (eq-eqb t t refl))) (staying_none p l (λ u y. h u (rw (y, or-true (eqb t u)))))

keeping_all : (p : ℕ → Bool) (l : List (ℕ × ℕ)) → ((t : ℕ) → has t (tasks l) ≡ true → p t ≡ true) → keeping p l ≡ l
unfolding has tasks keeping
keeping_all p [] h = refl
keeping_all p (x ∷ l) h = rw (h x.0 (rw (eq-eqb x.0 x.0 refl)), keeping_all p l (λ u y. h u (rw (y, or-true (eqb x.0 u)))))

module _ (q : ℕ) (low : 1 ≤ q) (top : q ≤ 8) where
  pub row_low : 1 ≤ queue_row q
  row_low = omega (arith, queue_row_lem q low top)

  pub row_top : queue_row q < 29
  row_top = omega (arith, queue_row_lem q low top)

  -- ---- where nobody enters the row, some of those who wait to send stay, in order
  pub senders_kept : (s s' : State) (h : Shrinks (queue_row q) s s') → senders s' q ≡ keeping h.p (senders s q)
  senders_kept s s' h =
      keeping_same (waits_for s' a_send) (waits_for s a_send) (pairs s' q) (λ t y. ap (λ (z : ℕ × ℕ). eqb z.0 a_send) (h.asked t (rw (tasks-paired (λ u. (task s' u).wait.pattern) (queue s' (queue_row q))) at y)))
      ∙ ap (keeping (waits_for s a_send)) pairs_kept ∙ keeping_twice h.p (waits_for s a_send) (pairs s q)
      ∙ keeping_same (λ t. h.p t && waits_for s a_send t) (λ t. waits_for s a_send t && h.p t) (pairs s q) (λ t _. and_turned (h.p t) (waits_for s a_send t))
      ∙ sym (keeping_twice (waits_for s a_send) h.p (pairs s q))
    where
      pairs_kept : pairs s' q ≡ keeping h.p (pairs s q)
      pairs_kept =
          paired_same (λ t. (task s' t).wait.pattern) (λ t. (task s t).wait.pattern) (queue s' (queue_row q)) (λ t y. ap (λ (z : ℕ × ℕ). z.1) (h.asked t y))
          ∙ rw h.row (sym (keeping-paired h.p (λ t. (task s t).wait.pattern) (queue s (queue_row q))))

  pub once-senders : (s : State) → Good s → once (tasks (senders s q)) ≡ true
  once-senders s g = rw (tasks-keeping (waits_for s a_send) (pairs s q), tasks-paired (λ t. (task s t).wait.pattern) (queue s (queue_row q)))
      (once-staying (waits_for s a_send) (queue s (queue_row q)) (once-queue (queue_row q) row_low row_top s g))

  -- ---- who stands in the row waits there
  in_queue : (s : State) → Good s → (t : ℕ) → has t (queue s (queue_row q)) ≡ true → (1 ≤ t) × (row_of (task s t) ≡ queue_row q)
  in_queue s g t y = (
    some,
    ⊎_elim (λ (e : row_of (task s t) ≡ queue_row q). e)
        (λ (off : row_of (task s t) ≡ queue_row q → ⊥). absurd (false≢true (sym (absent (queue_row q) row_low row_top s g t some off) ∙ y))) (same? (row_of (task s t)) (queue_row q)),
  )
    where
      not_0 : t ≡ 0 → ⊥
      not_0 e = false≢true (sym (listing_tasks (row s.waits (queue_row q))) ∙ rw e at y)

      some : 1 ≤ t
      some = omega (arith, not_0)

  -- nobody waits to send
  pub no_senders : (s : State) → Good s → ((t : ℕ) → row_of (task s t) ≡ queue_row q → (task s t).wait.kind ≡ a_send → ⊥) → senders s q ≡ []
  no_senders s g none = keeping_none (waits_for s a_send) (pairs s q) (λ t y.
      ne_eqb (task s t).wait.kind a_send (none t (in_queue s g t (rw (tasks-paired (λ u. (task s u).wait.pattern) (queue s (queue_row q))) at y)).1))

  -- or all who wait do
  pub all_senders : (s : State) → Good s → ((t : ℕ) → row_of (task s t) ≡ queue_row q → (task s t).wait.kind ≡ a_send) → senders s q ≡ pairs s q
  all_senders s g all = keeping_all (waits_for s a_send) (pairs s q) (λ t y.
      eq-eqb (task s t).wait.kind a_send (all t (in_queue s g t (rw (tasks-paired (λ u. (task s u).wait.pattern) (queue s (queue_row q))) at y)).1))

  pub all_receivers : (s : State) → Good s → ((t : ℕ) → row_of (task s t) ≡ queue_row q → (task s t).wait.kind ≡ a_receive) → receivers s q ≡ queue s (queue_row q)
  all_receivers s g all = staying_all (waits_for s a_receive) (queue s (queue_row q)) (λ t y. eq-eqb (task s t).wait.kind a_receive (all t (in_queue s g t y).1))

  no_receivers : (s : State) → Good s → ((t : ℕ) → row_of (task s t) ≡ queue_row q → (task s t).wait.kind ≡ a_receive → ⊥) → receivers s q ≡ []
  no_receivers s g none = staying_none (waits_for s a_receive) (queue s (queue_row q)) (λ t y. ne_eqb (task s t).wait.kind a_receive (none t (in_queue s g t y).1))

  -- ---- one more waits
  module _ (s : State) (g : Good s) (t : ℕ) (x : Task) (some : 1 ≤ t) (high : t ≤ 24) (off : row_of (task s t) ≡ 0) (on : row_of x ≡ queue_row q) where
    outside : row_of (task s t) ≡ queue_row q → ⊥
    outside e = omega (arith, off, e, row_low)

    -- its kind is x's, and the others' stay
    kinds : (v u : ℕ) → has u (tasks (pairs s q)) ≡ true → waits_for (moved t x s) v u ≡ waits_for s v u
    kinds v u y = ap (λ (z : Task). eqb z.wait.kind v) (task_kept s t x u (λ e. false≢true
        (sym (absent (queue_row q) row_low row_top s g t some outside) ∙ rw (← e, tasks-paired (λ w. (task s w).wait.pattern) (queue s (queue_row q))) at y)))

    joined_as : (b : Bool) → eqb x.wait.kind a_send ≡ b → senders (moved t x s) q ≡ senders s q ++ cond b ((t, x.wait.pattern) ∷ []) []
    unfolding keeping
    joined_as b e =
        ap (keeping (waits_for (moved t x s) a_send)) (pairs_joined (queue_row q) row_low row_top s g t x some high outside on)
        ∙ keeping_append (waits_for (moved t x s) a_send) (pairs s q) ((t, x.wait.pattern) ∷ [])
        ∙ rw (keeping_same (waits_for (moved t x s) a_send) (waits_for s a_send) (pairs s q) (kinds a_send), ap (λ (z : Task). eqb z.wait.kind a_send) (task-moved s t x (omega (arith, g.tasks#, high))), e)

    -- to send: last, with its element
    pub sender_joined : x.wait.kind ≡ a_send → senders (moved t x s) q ≡ senders s q ++ ((t, x.wait.pattern) ∷ [])
    sender_joined e = joined_as true (eq-eqb x.wait.kind a_send e)

    -- or to receive
    pub receiver_joined : (x.wait.kind ≡ a_send → ⊥) → senders (moved t x s) q ≡ senders s q ++ []
    receiver_joined n = joined_as false (ne_eqb x.wait.kind a_send n)

  -- ---- in a sound state
  module _ (s : State) (k : Sound s) where
    abbrev waits_here : ℕ → Type 0
    waits_here t = row_of (task s t) ≡ queue_row q

    at_row : (t : ℕ) → waits_here t → row_of (task s t) ≡ q + 20
    at_row t e = e ∙ queue_row_lem q low top

    -- who stands first waits there, and the others for what it does
    pub first_here : 1 ≤ first_at s q → waits_here (first_at s q)
    first_here some = first_waits s k (queue_row q) (omega (arith, row_top)) some

    alike : (v : ℕ) → Side s v q → (t : ℕ) → waits_here t → (task s t).wait.kind ≡ v
    alike v side t e = k.queues.alike q t (first_at s q) low top (at_row t e) (at_row (first_at s q) (first_here side.0)) ∙ side.1

    -- where the first does not wait for v, nobody does
    none_for : (v : ℕ) → (Side s v q → ⊥) → (t : ℕ) → waits_here t → (task s t).wait.kind ≡ v → ⊥
    none_for v none t e y = ⊎_elim
        (λ (z : first_at s q ≡ 0). no_waiter s k (queue_row q) row_low (omega (arith, row_top)) z t e)
        (λ (some : first_at s q ≡ 0 → ⊥).
        let there : 1 ≤ first_at s q = omega (arith, some) in
        none (there, k.queues.alike q (first_at s q) t low top (at_row (first_at s q) (first_here there)) (at_row t e) ∙ y))
        (same? (first_at s q) 0)

    pub sendless : (Side s a_send q → ⊥) → senders s q ≡ []
    sendless none = no_senders s (sound_good k) (none_for a_send none)

    pub receiverless : (Side s a_receive q → ⊥) → receivers s q ≡ []
    receiverless none = no_receivers s (sound_good k) (none_for a_receive none)

    -- a receiver waits: beside no sender, and first in the row
    pub sendless_beside : Side s a_receive q → senders s q ≡ []
    sendless_beside side = no_senders s (sound_good k) (λ t e y. omega (arith, alike a_receive side t e, y))

    -- nobody waits to send beside free room
    pub sendless_room : taken_of s q + 1 < capacity_of s q → senders s q ≡ []
    sendless_room room = no_senders s (sound_good k) (λ t e y. omega (arith, k.queues.sends q t low top (at_row t e) y, room))

    -- nor to receive beside an element
    pub stockless : Side s a_receive q → stored_in s q ≡ []
    stockless side = rw (k.queues.receives q (first_at s q) low top (at_row (first_at s q) (first_here side.0)) side.1)

    -- a queue that does not exist has nobody waiting, and nothing stored
    pub unmade_sides : capacity_of s q ≡ 0 → (senders s q ≡ []) × (stored_in s q ≡ [])
    unmade_sides e = (no_senders s (sound_good k) (λ t w _. omega (arith, k.queues.waited q t low top (at_row t w), e)), rw (k.queues.none q e))

    rest : List ℕ
    rest = listing (drop 1 (row s.waits (queue_row q)))

    queue_first : 1 ≤ first_at s q → queue s (queue_row q) ≡ first_at s q ∷ rest
    unfolding rest
    queue_first some = listing_some (row s.waits (queue_row q)) some

    pub first_in_lem : 1 ≤ first_at s q → (1 ≤ first_at s q) × (first_at s q ≤ 24)
    first_in_lem some = waiter_in s k (first_at s q) (omega (arith, first_here some, row_low))

    -- the first leaves the row, and the rest stay
    module _ (x : Task) (some : 1 ≤ first_at s q) (off : row_of x ≡ 0) where
      abbrev s' : State
      s' = moved (first_at s q) x s

      alone : (has (first_at s q) rest ≡ false) × (once rest ≡ true)
      alone = once_rest (first_at s q) rest (rw (queue_first some) at (once-queue (queue_row q) row_low row_top s (sound_good k)))

      left_behind : queue s' (queue_row q) ≡ rest
      unfolding staying
      left_behind =
          queue_left (queue_row q) row_low row_top s (sound_good k) (first_at s q) x some (first_in_lem some).1 (first_here some) (λ e. omega (arith, off, e, row_low))
          ∙ rw (queue_first some, eq-eqb (first_at s q) (first_at s q) refl) (others (first_at s q) rest alone.0)

      -- the records of the rest are as they were
      same_asks : (u : ℕ) → has u rest ≡ true → asks (task s' u) ≡ asks (task s u)
      same_asks u y = ap asks (task_kept s (first_at s q) x u (λ e. false≢true (sym alone.0 ∙ rw (← e) at y)))

      behind : (t : ℕ) → has t rest ≡ true → has t (queue s (queue_row q)) ≡ true
      unfolding has
      behind t y = rw (queue_first some, y, or-true (eqb (first_at s q) t))

      -- and so are their kinds, which are the first's
      same_kind : (v : ℕ) → Side s v q → (u : ℕ) → has u rest ≡ true → waits_for s' v u ≡ true
      same_kind v side u y = eq-eqb (task s' u).wait.kind v (ap (λ (z : ℕ × ℕ). z.0) (same_asks u y) ∙ alike v side u (in_queue s (sound_good k) u (behind u y)).1)

      -- a served sender: its pair is gone, and the others' are there still
      pub senders_served : Side s a_send q → senders s q ≡ (first_at s q, (task s (first_at s q)).wait.pattern) ∷ senders s' q
      unfolding paired
      senders_served side = all_senders s (sound_good k) (alike a_send side) ∙ rw (queue_first some) (ap (λ (l : List (ℕ × ℕ)). (first_at s q, (task s (first_at s q)).wait.pattern) ∷ l)
          (sym (rw left_behind (keeping_all (waits_for s' a_send) (paired (λ t. (task s' t).wait.pattern) rest) (λ t y. same_kind a_send side t (rw (tasks-paired (λ u. (task s' u).wait.pattern) rest) at y))
          ∙ paired_same (λ t. (task s' t).wait.pattern) (λ t. (task s t).wait.pattern) rest (λ t y. ap (λ (z : ℕ × ℕ). z.1) (same_asks t y))))))

      -- a served receiver: what its record then has is handed over, and nothing else
      pub receiver_served : Side s a_receive q → handed_to q s' (receivers s q) ≡ (task s' (first_at s q)).handed ∷ []
      unfolding handed_to
      receiver_served side = rw (all_receivers s (sound_good k) (alike a_receive side), queue_first some, gone, handed_none q s' rest stay)
        where
          here : (u : ℕ) → has u (receivers s' q) ≡ waits_for s' a_receive u && has u rest
          here u = has-staying (waits_for s' a_receive) u (queue s' (queue_row q)) ∙ rw left_behind

          gone : has (first_at s q) (receivers s' q) ≡ false
          gone = here (first_at s q) ∙ rw alone.0 (and_none (waits_for s' a_receive (first_at s q)))

          stay : (u : ℕ) → has u rest ≡ true → has u (receivers s' q) ≡ true
          stay u y = here u ∙ rw (same_kind a_receive side u y) y
