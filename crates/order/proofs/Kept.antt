-- What is kept of a ledger from call to call: its live entries end with the waiting senders, and those before them were received or are stored.
-- Each law is what one kind of call makes of that; nothing but lists is asked, so no state is named here.
use mathlib.Core.Path.{◌≡◌, refl, sym, ◌∙◌}
use mathlib.Core.Bool.{Bool, true, false, not, ◌&&◌}
use mathlib.Core.List.{List, [], ◌∷◌, ◌++◌, append-nil, append_assoc}
use Prim.Native.Nat.{ℕ}
use Rattle.order.specs.Lists.{has, once, tasks, elements, keeping}
use Rattle.order.specs.Ledger.{Sent, Ledger, no_ledger, live, withdrawn_by}
use Rattle.order.specs.Statements.{owed}
use Rattle.order.proofs.Lists.{both, elements_append, tasks-keeping, has-staying, keeping_same}
use Rattle.order.proofs.Entries.{live_joined, live_withdrawn, leaving_behind, leaving-once}

-- of senders w that wait, each with its element, and elements b that are stored
pub record Kept (w : List (ℕ × ℕ)) (b : List ℕ) (l : Ledger) : Type 0 where
  -- the live entries before those of the waiting senders
  pub before : List (ℕ × ℕ)
  pub split : live l.accepted ≡ before ++ w
  pub even : elements before ≡ l.received ++ b

pub begins : Kept [] [] no_ledger
unfolding live elements
begins = record { before = []; split = refl; even = refl }

-- so what is owed was received, or is inside
pub ordered : (w : List (ℕ × ℕ)) (b : List ℕ) (l : Ledger) → Kept w b l → owed l ≡ l.received ++ (b ++ elements w)
ordered w b l a = rw (a.split, elements_append a.before w, a.even) (append_assoc l.received b (elements w))

-- an accepted element, with the task that waits with it
abbrev pub with_entry : Ledger → ℕ → ℕ → List Sent
with_entry l t e = l.accepted ++ (record { waiter = t; element = e; withdrawn = false } ∷ [])

twice : (b : Bool) → not (not (b && true)) ≡ b
twice true = refl
twice false = refl

module _ (w : List (ℕ × ℕ)) (b : List ℕ) (l : Ledger) (a : Kept w b l) where
  -- e is accepted while nobody waits to send: received or stored
  pub joins : w ≡ [] → (e : ℕ) (got b' : List ℕ) → (l.received ++ b) ++ (e ∷ []) ≡ got ++ b' → Kept [] b' (record { accepted = with_entry l 0 e; received = got })
  unfolding elements
  joins z e got b' y = record {
    before = a.before ++ ((0, e) ∷ []);
    split = live_joined l.accepted 0 e ∙ rw (a.split, z, append-nil a.before, append-nil (a.before ++ ((0, e) ∷ [])));
    even = elements_append a.before ((0, e) ∷ []) ∙ rw a.even y;
  }

  -- t waits with e
  pub waits_on : (t e : ℕ) → Kept (w ++ ((t, e) ∷ [])) b (record { accepted = with_entry l t e; received = l.received ++ [] })
  waits_on t e = record {
    before = a.before;
    split = live_joined l.accepted t e ∙ rw a.split (append_assoc a.before w ((t, e) ∷ []));
    even = rw (append-nil l.received) a.even;
  }

  -- the oldest is received
  pub taken : (e : ℕ) (b' : List ℕ) → b ≡ e ∷ b' → Kept w b' (record { accepted = l.accepted; received = l.received ++ (e ∷ []) })
  taken e b' y = record { before = a.before; split = a.split; even = a.even ∙ rw y (sym (append_assoc l.received (e ∷ []) b')) }

  -- the first sender's element is received, or stored behind what was
  pub passes : (x : ℕ × ℕ) (w' : List (ℕ × ℕ)) (got b' : List ℕ) → w ≡ x ∷ w' → (l.received ++ b) ++ (x.1 ∷ []) ≡ got ++ b' → Kept w' b' (record { accepted = l.accepted; received = got })
  unfolding elements
  passes x w' got b' z y = record {
    before = a.before ++ (x ∷ []);
    split = a.split ∙ rw z (sym (append_assoc a.before (x ∷ []) w'));
    even = elements_append a.before (x ∷ []) ∙ rw a.even y;
  }

  -- some of those who wait to send stay, in order; whoever does not has given up
  module _ (w' : List (ℕ × ℕ)) (p : ℕ → Bool) (stays : w' ≡ keeping p w) where
    abbrev up : ℕ → Bool
    up t = has t (tasks w) && not (has t (tasks w'))

    up_waits : (t : ℕ) → up t ≡ true → has t (tasks w) ≡ true
    up_waits t h = (both (has t (tasks w)) (not (has t (tasks w'))) h).0

    -- whether a sender stays is read off the two lists
    up_stays : (t : ℕ) → has t (tasks w) ≡ true → not (up t) ≡ p t
    up_stays t h = rw (h, stays, tasks-keeping p w, has-staying p t (tasks w), h) (twice (p t))

    pub shrinks : once (tasks w) ≡ true → Kept w' b (record { accepted = withdrawn_by (λ t. has t (tasks w) && not (has t (tasks w'))) l.accepted; received = l.received })
    unfolding withdrawn_by
    shrinks o = record {
      before = a.before;
      split =
          live_withdrawn up l.accepted ∙ rw a.split (leaving_behind up a.before w up_waits
          ∙ rw (leaving-once up w o, keeping_same (λ t. not (up t)) p w up_stays, stays));
      even = a.even;
    }
