-- What a call that is no entry of a data queue makes of its ledger: whoever stops sending with it has given up.
-- It rests on what moves, news, stops and ticks make of the queue's row (Moving) and on what is stored (Stock).
use mathlib.Core.Path.{◌≡◌, refl, sym, ◌∙◌}
use mathlib.Core.Bool.{Bool}
use mathlib.Core.List.{List}
use mathlib.Core.Logic.{⊎_elim}
use Prim.Native.Nat.{ℕ, ◌+◌, ◌-◌, ◌≤◌, ◌<◌, ◌%◌, ◌^◌}
use native.Mathlib.Omega.{arith}
use lib.ListN.{length}
use Rattle.model.specs.declared.Task.{Task}
use Rattle.model.specs.declared.State.{State}
use Rattle.model.specs.declared.News.{News}
use Rattle.model.specs.declared.News.TheVariants.{Deleted}
use Rattle.model.specs.declared.Code.{Code}
use Rattle.model.specs.declared.Answer.{Answer}
use Rattle.model.specs.Row.{first_of}
use Rattle.model.specs.Flag.{flag_row}
use Rattle.model.specs.DataQueue.{no_elements, put, pulled, queue_row}
use Rattle.model.specs.Task.{served, row_of, ended}
use Rattle.model.specs.State.{task, time, waiters, running, capacity_of, taken_of, elements_of, moved, counted, flagged, stocked, sized, sliced, marked, with_time}
use Rattle.model.specs.Effect.{stopped, told_all, deleted, told_flag, refilled, removed, charged, ticked, lapsed}
use Rattle.model.specs.Sound.{Sound}
use Rattle.laws.proofs.Record.{flag_row_lem, queue_row_lem, row_marks}
use Rattle.laws.proofs.Places.{length-put, length-pulled}
use Rattle.soundness.proofs.Listed.{lists_same}
use Rattle.soundness.proofs.Moved.{task-marked}
use Rattle.soundness.proofs.Folds.{numbers_moved, numbers_stopped, numbers_told, numbers_lapsed}
use Rattle.soundness.proofs.Records.{WaitsAs}
use Rattle.soundness.proofs.Changed.{named_in, change_waits}
use Rattle.turns.proofs.Still.{Charged, only_charged}
use Rattle.ways.proofs.Done.{Named, first_at, Change}
use Rattle.order.specs.Ledger.{senders, Ledger, no_ledger, stops_sending, withdrawn_by, with_given_up}
use Rattle.order.specs.Statements.{stored_in}
use Rattle.order.proofs.Kept.{Kept, shrinks}
use Rattle.order.proofs.Moving.{asks, Good, sound_good, Shrinks, shrinks_like, shrinks_twice, Leaves, leaves_ended, after_moved, after_lapsed, after_stopped, after_told, in_row}
use Rattle.order.proofs.Sides.{row_low, row_top, senders_kept, once-senders, first_in_lem}
use Rattle.order.proofs.Stock.{stored_else, capacity_else, size as places}

-- what the theorem keeps from call to call, of data queue q
pub record KeptIn (q : ℕ) (s : State) (l : Ledger) : Type 0 where
  pub kept : Kept (senders s q) (stored_in s q) l
  pub none : capacity_of s q ≡ 0 → l ≡ no_ledger

-- the ledger of data queue q in a sound state
pub record Held (q : ℕ) (s : State) (l : Ledger) : Type 0 where
  pub low : 1 ≤ q
  pub top : q ≤ 8
  pub sound : Sound s
  pub ledger : KeptIn q s l

-- an answer
abbrev pub answer : Code → ℕ → ℕ → State → Answer
answer c t v s' = record { code = c; running = t; value = v; state = s' }

-- nothing is withdrawn from a ledger that there is not
none_given : (up : ℕ → Bool) (l : Ledger) → l ≡ no_ledger → ◌≡◌ {A = Ledger} (record { accepted = withdrawn_by up l.accepted; received = l.received }) no_ledger
unfolding withdrawn_by
none_given up l e = rw e

module _ {q : ℕ} {s : State} {l : Ledger} (held : Held q s l) where
  -- ---- calls that are no entry of q: who stops sending has given up
  -- the numbers of q are as they were
  pub record Untouched (s' : State) : Type 0 where
    pub capacity : capacity_of s' q ≡ capacity_of s q
    pub stock : stored_in s' q ≡ stored_in s q

  pub same_numbers : (s' : State) → s'.numbers ≡ s.numbers → Untouched s'
  same_numbers s' e = record { capacity = rw e; stock = rw e }

  pub gives_up : (s' : State) → Untouched s' → Shrinks (queue_row q) s s' → (c : Code) (t v : ℕ) → KeptIn q s' (with_given_up q s (answer c t v s') l)
  gives_up s' same h c t v = record {
    kept = rw same.stock (shrinks (senders s q) (stored_in s q) l held.ledger.kept (senders s' q) h.p (senders_kept q held.low held.top s s' h) (once-senders q held.low held.top s (sound_good held.sound)));
    none = λ e. none_given (stops_sending q s s') l (held.ledger.none (sym same.capacity ∙ e));
  }

  -- nobody is touched
  pub leaves_all : (s' : State) → Untouched s' → s'.waits ≡ s.waits → ((t : ℕ) → asks (task s' t) ≡ asks (task s t)) → (c : Code) (t v : ℕ) → KeptIn q s' (with_given_up q s (answer c t v s') l)
  leaves_all s' same e f = gives_up s' same (shrinks_like (queue_row q) s s' e f)

  -- one task gets another record, and does not wait on q anew
  pub moving : (u : ℕ) (x : Task) → 1 ≤ u → u ≤ 24 → Leaves (task s u) x → (c : Code) (t v : ℕ) → KeptIn q (moved u x s) (with_given_up q s (answer c t v (moved u x s)) l)
  moving u x some high h = gives_up (moved u x s) (same_numbers (moved u x s) (numbers_moved s u x)) (after_moved (queue_row q) (row_low q held.low held.top) (row_top q held.low held.top) s u x some high h (sound_good held.sound)).0

  pub ending : (u v b : ℕ) → 1 ≤ u → u ≤ 24 → (c : Code) (t w : ℕ) → KeptIn q (moved u (ended (task s u) v b) s) (with_given_up q s (answer c t w (moved u (ended (task s u) v b) s)) l)
  ending u v b some high = moving u (ended (task s u) v b) some high (leaves_ended (task s u) v b)

  pub stopping : (u : ℕ) → 1 ≤ u → u ≤ 24 → (c : Code) (t v : ℕ) → KeptIn q (stopped u s) (with_given_up q s (answer c t v (stopped u s)) l)
  stopping u some high = gives_up (stopped u s) (same_numbers (stopped u s) (numbers_stopped s u)) (after_stopped (queue_row q) (row_low q held.low held.top) (row_top q held.low held.top) u s some high (sound_good held.sound)).0

  -- those in row m are told, and then some numbers change that are not q's
  pub telling : (w : News) (m : ℕ) → m < 29 → (s' : State) → Untouched s' → s'.tasks ≡ (told_all w (waiters s m) s).tasks → s'.waits ≡ (told_all w (waiters s m) s).waits
      → (c : Code) (t v : ℕ) → KeptIn q s' (with_given_up q s (answer c t v s') l)
  telling w m high s' same e f = gives_up s' same (shrinks_twice (queue_row q) s z s' (after_told (queue_row q) (row_low q held.low held.top) (row_top q held.low held.top) w (waiters s m) s (in_row s (sound_good held.sound) m high) (sound_good held.sound)).0 (shrinks_like (queue_row q) z s' f (λ t. rw e)))
    where
      z : State
      z = told_all w (waiters s m) s

  pub ticking : (c : Code) (t v : ℕ) → KeptIn q (ticked s) (with_given_up q s (answer c t v (ticked s)) l)
  unfolding ticked
  ticking = gives_up (lapsed 24 1 z) (record { capacity = rw (numbers_lapsed 24 1 z, e); stock = rw (numbers_lapsed 24 1 z, e) })
      (shrinks_twice (queue_row q) s z (lapsed 24 1 z) (shrinks_like (queue_row q) s z n.waits same) (after_lapsed (queue_row q) (row_low q held.low held.top) (row_top q held.low held.top) z good).0)
    where
      s₁ : State
      s₁ = with_time ((time s + 1) % 2 ^ 32) s

      z : State
      z = charged (running s) s₁

      n : Charged s₁ z
      n = only_charged s₁ (running s)

      e : z.numbers ≡ s₁.numbers
      e = n.numbers

      same : (t : ℕ) → asks (task z t) ≡ asks (task s t)
      same t = n.records (λ y. asks y ≡ asks (task s t)) t (λ _ _. refl)

      good : Good z
      good = record {
        tasks# = n.tasks# ∙ held.sound.tasks#;
        waits = rw n.waits (lists_same s.waits 29 (λ t. row_of (task s t)) (λ t. row_of (task z t)) (λ t. n.records (λ y. row_of y ≡ row_of (task s t)) t (λ b c. row_marks (task s t) b c)) held.sound.waits);
      }

  -- numbers that are not q's
  pub slicing : (m n : ℕ) (c : Code) (t v : ℕ) → KeptIn q (sliced m n s) (with_given_up q s (answer c t v (sliced m n s)) l)
  unfolding sliced marked
  slicing m n = leaves_all (sliced m n s) (record { capacity = refl; stock = refl }) refl (λ t. task-marked (λ y. asks y ≡ asks (task s t)) s (first_of s.levels m) 0 (task s (first_of s.levels m)).entered t (λ _ _. refl))

  pub counting : (m n high : ℕ) (c : Code) (t v : ℕ) → KeptIn q (counted m n high s) (with_given_up q s (answer c t v (counted m n high s)) l)
  unfolding counted
  counting m n high = leaves_all (counted m n high s) (record { capacity = refl; stock = refl }) refl (λ _. refl)

  pub flagging : (f b n : ℕ) (c : Code) (t v : ℕ) → KeptIn q (flagged f b n s) (with_given_up q s (answer c t v (flagged f b n s)) l)
  unfolding flagged
  flagging f b n = leaves_all (flagged f b n s) (record { capacity = refl; stock = refl }) refl (λ _. refl)

  pub deleting : (m : ℕ) → m ≤ 12 → (c : Code) (t v : ℕ) → KeptIn q (deleted m s) (with_given_up q s (answer c t v (deleted m s)) l)
  unfolding deleted counted
  deleting m high = let e = numbers_told Deleted (waiters s m) s in telling Deleted m (omega arith) (deleted m s) (record { capacity = rw e; stock = rw e }) refl refl

  pub flag_telling : (f : ℕ) (w : News) (b n : ℕ) → 1 ≤ f → f ≤ 8 → (c : Code) (t v : ℕ) → KeptIn q (told_flag f w b n s) (with_given_up q s (answer c t v (told_flag f w b n s)) l)
  unfolding told_flag flagged
  flag_telling f w b n some high = let e = numbers_told w (waiters s (flag_row f)) s in telling w (flag_row f) (omega (arith, flag_row_lem f some high)) (told_flag f w b n s) (record { capacity = rw e; stock = rw e }) refl refl

  -- another data queue's
  module _ (n : ℕ) (some : 1 ≤ n) (high : n ≤ 8) (apart : n ≡ q → ⊥) where
    pub sizing_else : (b : ℕ) (c : Code) (t v : ℕ) → KeptIn q (sized n b s) (with_given_up q s (answer c t v (sized n b s)) l)
    unfolding sized
    sizing_else b = leaves_all (sized n b s) (record { capacity = capacity_else s held.sound q held.top s refl n high apart b; stock = refl }) refl (λ _. refl)

    pub stocking_else : (m : ℕ) (ps : List ℕ) → length ps ≡ 16 → (c : Code) (t v : ℕ) → KeptIn q (stocked n m ps s) (with_given_up q s (answer c t v (stocked n m ps s)) l)
    unfolding stocked
    stocking_else m ps size = leaves_all (stocked n m ps s) (record { capacity = refl; stock = stored_else s held.sound q held.top s refl n high apart m ps size }) refl (λ _. refl)

    pub refilling_else : (c : Code) (t v : ℕ) → 1 ≤ first_at s n → KeptIn q (refilled n s) (with_given_up q s (answer c t v (refilled n s)) l)
    unfolding refilled moved stocked
    refilling_else c t v there = gives_up (refilled n s) (record { capacity = refl; stock = stored_else s held.sound q held.top s refl n high apart (taken_of s n) ps size })
        (shrinks_twice (queue_row q) s z (refilled n s) (after_moved (queue_row q) (row_low q held.low held.top) (row_top q held.low held.top) s u x w.0 w.1 (leaves_ended (task s u) served 0) (sound_good held.sound)).0 (shrinks_like (queue_row q) z (refilled n s) refl (λ _. refl))) c t v
      where
        u : ℕ
        u = first_at s n

        x : Task
        x = ended (task s u) served 0

        z : State
        z = moved u x s

        w : (1 ≤ u) × (u ≤ 24)
        w = first_in_lem n some high s held.sound there

        ps : List ℕ
        ps = put (pulled (elements_of s n)) (taken_of s n - 1) (task s u).wait.pattern

        size : length ps ≡ 16
        size = length-put (pulled (elements_of s n)) (taken_of s n - 1) (task s u).wait.pattern ∙ length-pulled (elements_of s n) ∙ places s held.sound n high

    pub removing_else : (c : Code) (t v : ℕ) → KeptIn q (removed n s) (with_given_up q s (answer c t v (removed n s)) l)
    unfolding removed sized stocked
    removing_else = telling Deleted (queue_row n) (omega (arith, queue_row_lem n some high)) (removed n s)
        (record { capacity = capacity_else s held.sound q held.top z e n high apart 0; stock = stored_else s held.sound q held.top z e n high apart 0 no_elements refl }) refl refl
      where
        z : State
        z = told_all Deleted (waiters s (queue_row n)) s

        e : z.numbers ≡ s.numbers
        e = numbers_told Deleted (waiters s (queue_row n)) s

  pub changing : {u : ℕ} {x : Task} → Named s u → Change s u x → (c : Code) (t v : ℕ) → KeptIn q (moved u x s) (with_given_up q s (answer c t v (moved u x s)) l)
  changing {u} {x} n d = moving u x named.0 named.1 (record {
    stays = λ h. ⊎_elim
        (λ (z : (row_of x ≡ 0) × (row_of (task s u) ≡ 0)). absurd (omega (arith, h, z.0)))
        (λ (z : WaitsAs x (task s u)). (z.0, pair z.1 z.2))
        (change_waits held.sound d);
  })
    where
      named : (1 ≤ u) × (u ≤ 24)
      named = named_in held.sound n

      pair : x.wait.kind ≡ (task s u).wait.kind → x.wait.pattern ≡ (task s u).wait.pattern → asks x ≡ asks (task s u)
      pair e f = rw (e, f)
