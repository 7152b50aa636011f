-- What a call's tests have shown of a record or of a flag, in a sound state: the record that a task gets is sound and may wait as it says,
-- and the numbers that a flag gets fit its waiters. It takes apart the ways of ways, and rests on Records, Told, Running and the laws of bits.
use mathlib.Core.Path.{◌≡◌, refl, sym, ap, ◌∙◌}
use mathlib.Core.Bool.{Bool, true, false, cond, not, ◌&&◌}
use mathlib.Core.Logic.{◌⊎◌, inl, inr, ⊎_elim}
use Prim.Native.Nat.{ℕ, ◌+◌, ◌≤◌}
use native.Mathlib.Omega.{arith}
use lib.Dec.{T as So, eqb}
use borrow.Author.Tests.{eqb-false}
use Rattle.model.specs.declared.Wait.{Wait}
use Rattle.model.specs.declared.Task.{Task}
use Rattle.model.specs.declared.State.{State}
use Rattle.model.specs.declared.News.{News}
use Rattle.model.specs.Row.{first_of}
use Rattle.model.specs.Flag.{is_attributes, is_flag_attributes, is_single, is_met, flag_row}
use Rattle.model.specs.Task.{served, row_of, asleep, on_flag, to_send, to_receive, dormant, activated, created, waiting}
use Rattle.model.specs.State.{task, attribute, bits_of, capacity_of, taken_of, flag, running}
use Rattle.model.specs.Service.{wanted, is_occupied}
use Rattle.model.specs.Sound.{SoundTask, Sound}
use Rattle.laws.proofs.Bits.{unmet_without, unmet_left}
use Rattle.laws.proofs.Says.{says_or}
use Rattle.laws.proofs.Record.{sound_none, row_none, flag_row_lem, row_flag, queue_row_lem}
use Rattle.ways.proofs.Tests.{equals, none_of}
use Rattle.ways.specs.Entry.{Entry}
use Rattle.ways.proofs.Done.{Named, given, runs, FlagMade, QueueMade, Change, Begins, sleeps, queues, asks, sends, receives, Reflag, Tell}
use Rattle.ways.proofs.Done.Change.{creates, deletes, activates, counts_activation, suspends, resumes, uses_wakeup, wakes, counts_wakeup, prioritises}
use Rattle.ways.proofs.Done.{Reflag as Reflags, Tell as Tells}
use Rattle.soundness.proofs.Stocks.{Unserved}
use Rattle.soundness.proofs.Changes.{MayWait, FlagFits}
use Rattle.soundness.proofs.Records.{WaitsAs, suspended_live, sound_created, sound_activated, sound_with_priority, sound_with_suspended, sound_with_wakeups, sound_with_activations, sound_ended, sound_asleep, sound_queued, sound_asking, sound_sending, sound_receiving}
use Rattle.soundness.proofs.Told.{may_none, may_same, no_waiter}
use Rattle.soundness.proofs.Running.{runner}
use Rattle.soundness.proofs.Effects.{Tellable}
use Rattle.soundness.proofs.Queued.{senders, receivers}

-- ---- numbers that a plan makes
created_row : (p o : ℕ) → row_of (created p o) ≡ 0
unfolding row_of
created_row p o = go (eqb o 0)
  where
    go : (b : Bool) → row_of (cond b (dormant p) (activated (dormant p))) ≡ 0
    go true = refl
    go false = refl

wanted_range : (p : ℕ) (x : Task) → 1 ≤ x.base → x.base ≤ 30 → p ≤ 30 → (1 ≤ wanted p x) × (wanted p x ≤ 30)
unfolding wanted
wanted_range p x low top h = go (eqb p 0) refl
  where
    go : (b : Bool) → eqb p 0 ≡ b → (1 ≤ cond b x.base p) × (cond b x.base p ≤ 30)
    go true e = (low, top)
    go false e = let some : p ≡ 0 → ⊥ = eqb-false p 0 e in (omega arith, h)

-- a flag has its attributes plus 1
flag_attributes : (a : ℕ) → So (is_attributes a) → So (is_flag_attributes (a + 1))
unfolding is_flag_attributes
flag_attributes a h = go ((says_or (equals a 0) (says_or (equals a 1) (equals a 3))).yields h)
  where
    go : (a ≡ 0) ⊎ ((a ≡ 1) ⊎ (a ≡ 3)) → So (is_flag_attributes (a + 1))
    go (inl e) = rw e tt
    go (inr (inl e)) = rw e tt
    go (inr (inr e)) = rw e tt

module _ {s : State} (k : Sound s) where
  -- ---- a task's record
  pub named_in : {t : ℕ} → Named s t → (1 ≤ t) × (t ≤ 24)
  named_in (given t low top) = (low, top)
  named_in (runs some) = (some, (runner s k some).top)

  pub change_sound : {t : ℕ} {x : Task} → Change s t x → SoundTask x
  change_sound {t} (creates p o low top e) = sound_created p o low top
  change_sound {t} (deletes e) = sound_none
  change_sound {t} (activates made) = sound_activated (task s t) (k.tasks t) made
  change_sound {t} (counts_activation live) = sound_with_activations (task s t) (k.tasks t) live 1 (omega arith)
  change_sound {t} (suspends live) = sound_with_suspended (task s t) (k.tasks t) live 1 (omega arith)
  change_sound {t} (resumes held) = sound_with_suspended (task s t) (k.tasks t) (suspended_live (task s t) (k.tasks t) held) 0 (omega arith)
  change_sound {t} (uses_wakeup some e) = sound_with_wakeups (task s t) (k.tasks t) (rw e (runner s k some).live) 0 (omega arith) (λ _. refl)
  change_sound {t} (wakes live e) = sound_ended (task s t) (k.tasks t) live served 0 tt
  change_sound {t} (counts_wakeup live awake) = sound_with_wakeups (task s t) (k.tasks t) live 1 (omega arith) (λ e. absurd (awake e))
  change_sound {t} (prioritises p top made live) =
      let r = wanted_range p (task s t) made (k.tasks t).base top in
      sound_with_priority (task s t) (k.tasks t) live (wanted p (task s t)) r.0 r.1

  -- it waits on nothing, and did not before, or as before
  pub change_waits : {t : ℕ} {x : Task} → Change s t x → ((row_of x ≡ 0) × (row_of (task s t) ≡ 0)) ⊎ WaitsAs x (task s t)
  unfolding row_of
  change_waits {t} (creates p o low top e) = inl (created_row p o, ap row_of ((k.tasks t).blank e) ∙ row_none)
  change_waits {t} (deletes e) = let z = ((k.tasks t).dormant e).0 in inl (refl, rw z)
  change_waits {t} (activates made) = inr (refl, refl, refl, refl)
  change_waits {t} (counts_activation live) = inr (refl, refl, refl, refl)
  change_waits {t} (suspends live) = inr (refl, refl, refl, refl)
  change_waits {t} (resumes held) = inr (refl, refl, refl, refl)
  change_waits {t} (uses_wakeup some e) = inr (refl, refl, refl, refl)
  change_waits {t} (wakes live e) = inl (refl, rw e)
  change_waits {t} (counts_wakeup live awake) = inr (refl, refl, refl, refl)
  change_waits {t} (prioritises p top made live) = inr (refl, refl, refl, refl)

  pub change_may : {t : ℕ} {x : Task} → Change s t x → MayWait s t x
  change_may {t} {x} c = ⊎_elim (λ (z : (row_of x ≡ 0) × (row_of (task s t) ≡ 0)). may_none s t x z.0) (may_same s k t x) (change_waits c)

  -- who is listed stays listed there
  pub change_row : {t : ℕ} {x : Task} → Change s t x → 1 ≤ row_of (task s t) → row_of x ≡ row_of (task s t)
  change_row {t} {x} c h = ⊎_elim (λ (z : (row_of x ≡ 0) × (row_of (task s t) ≡ 0)). absurd (omega arith)) (λ (z : WaitsAs x (task s t)). z.0) (change_waits c)

  -- ---- a wait begins
  pub begins_sound : {i : Entry} {w : Wait} → 1 ≤ running s → Begins s i w → SoundTask (waiting (task s (running s)) w)
  begins_sound some b = go b
    where
      x : Task
      x = task s (running s)

      y : SoundTask x
      y = k.tasks (running s)

      live : 1 ≤ x.active
      live = (runner s k some).live

      go : {i : Entry} {w : Wait} → Begins s i w → SoundTask (waiting x w)
      go (sleeps d low e) = sound_asleep x y live d low e
      go (queues m d made low e) = sound_queued x y live m d made.low made.top low
      go (asks f p m d made bits mode low free unmet) = sound_asking x y live f p m d made.low made.top low bits mode
      go (sends q e d made low none full) = sound_sending x y live q e d made.low made.top low
      go (receives q d made low none empty) = sound_receiving x y live q d made.low made.top low

  -- on a SINGLE flag that is not occupied nobody waits
  alone : (f : ℕ) → So (not (is_occupied (flag s f))) → So (is_single (attribute s f)) → first_of s.waits (flag_row f) ≡ 0
  unfolding is_occupied
  alone f = go (is_single (attribute s f))
    where
      go : (b : Bool) → So (not (b && not (eqb (first_of s.waits (flag_row f)) 0))) → So b → first_of s.waits (flag_row f) ≡ 0
      go true free one = (none_of (first_of s.waits (flag_row f))).yields free
      go false free one = absurd one

  -- on data queue q, where all who wait are on the side of x
  may_queue : {q t : ℕ} → QueueMade s q → (x : Task) → row_of x ≡ q + 20 → Unserved (capacity_of s q) (taken_of s q) x
      → ((u : ℕ) → row_of (task s u) ≡ q + 20 → (task s u).wait.kind ≡ x.wait.kind) → MayWait s t x
  may_queue {q} made x e fits alike = record {
    waited = λ m some top z. absurd (omega (arith, made.low));
    unmet = λ f some top z. absurd (omega (arith, made.low));
    single = λ f u some top one z. absurd (omega (arith, made.low));
    unserved = λ i some top z. let y : i ≡ q = omega arith in rw y fits;
    alike = λ i u some top z there. alike u (there ∙ sym z ∙ e);
  }

  pub begins_may : {i : Entry} {w : Wait} → Begins s i w → MayWait s (running s) (waiting (task s (running s)) w)
  unfolding row_of
  begins_may (sleeps d low e) = may_none s (running s) (waiting (task s (running s)) (asleep d)) refl
  begins_may (queues m d made low e) = record {
    waited = λ n some top f. rw (← f) (e, made.made);
    unmet = λ f some top z. absurd (omega (arith, made.top));
    single = λ f u some top one z. absurd (omega (arith, made.top));
    unserved = λ q some top z. absurd (omega (arith, made.top));
    alike = λ q u some top z. absurd (omega (arith, made.top));
  }
  begins_may (asks f p m d made bits mode low free unmet) = let z : row_of (waiting (task s (running s)) (on_flag f p m d)) ≡ f + 12 = flag_row_lem f made.low made.top in record {
    waited = λ n some most e. absurd (omega arith);
    unmet = λ n some most e. let y : n ≡ f = omega arith in rw y (made.made, unmet);
    single = λ n u some most one e there.
        let y : n ≡ f = omega arith in
        absurd (no_waiter s k (f + 12) (omega arith) (omega (arith, made.top)) (rw (flag_row_lem f made.low made.top) at (alone f free (rw y at one))) u (there ∙ sym e ∙ z));
    unserved = λ q some most e. absurd (omega (arith, made.top));
    alike = λ q u some most e. absurd (omega (arith, made.top));
  }
  begins_may (sends q e d made low none full) = may_queue made (waiting (task s (running s)) (to_send q e d)) (queue_row_lem q made.low made.top)
      (made.made, λ e. absurd (omega arith), λ _. omega (arith, k.queues.within q made.made)) (senders k made none)
  begins_may (receives q d made low none empty) = may_queue made (waiting (task s (running s)) (to_receive q d)) (queue_row_lem q made.low made.top)
      (made.made, λ _. empty, λ e. absurd (omega arith)) (receivers k made none)

  -- ---- a flag's numbers
  -- whoever waits on it asks for a bit
  asks_some : {f : ℕ} → FlagMade s f → (t : ℕ) → row_of (task s t) ≡ f + 12 → 1 ≤ (task s t).wait.pattern
  asks_some {f} made t e = ((k.tasks t).asks (row_flag (task s t) (k.tasks t) f made.low made.top e).0).0

  -- other bits, which meet none of those who wait
  rebits : (f b : ℕ) → FlagMade s f
      → ((t : ℕ) → row_of (task s t) ≡ f + 12 → is_met (task s t).wait.pattern (task s t).wait.mode (bits_of s f) ≡ false → is_met (task s t).wait.pattern (task s t).wait.mode b ≡ false)
      → FlagFits s f (attribute s f) b
  rebits f b made less = record {
    attributes = k.flags.attributes f;
    none = λ e. absurd (omega (arith, made.made));
    unmet = λ t e. let u = k.flags.unmet f t made.low made.top e in (u.0, less t e u.1);
    single = λ one t u. k.flags.single f t u made.low made.top one;
  }

  pub reflag_fits : {f a b : ℕ} → Reflag s f a b → (1 ≤ f) × FlagFits s f a b
  reflag_fits {f} (Reflags.creates a b low top h e) = (
    low,
    record {
      attributes = flag_attributes a h;
      none = λ e. absurd (omega arith);
      unmet = λ t z. absurd (omega (arith, (k.flags.unmet f t low top z).0));
      single = λ one t u z. absurd (omega (arith, (k.flags.unmet f t low top z).0));
    },
  )
  reflag_fits {f} (Reflags.clears p made) = (made.low, rebits f _ made (λ t e. unmet_without (task s t).wait.pattern (task s t).wait.mode (bits_of s f) p))
  reflag_fits {f} (Reflags.meets made) =
      (made.low, rebits f _ made (λ t e. unmet_left (task s t).wait.pattern (task s t).wait.mode (attribute s f) (bits_of s f) true (asks_some made t e)))

  pub tell_fits : {f : ℕ} {w : News} {a b : ℕ} → FlagMade s f → Tell s f w a b → Tellable s f w a b
  unfolding is_flag_attributes
  tell_fits made Tells.deletes = record { attributes = tt; none = λ e. refl; unmet = λ x sound e stays. absurd stays; single = λ one. absurd one }
  tell_fits {f} made (Tells.sets b met) = record {
    attributes = k.flags.attributes f;
    none = λ e. absurd (omega (arith, made.made));
    unmet = λ x sound e stays. (made.made, unmet_left x.wait.pattern x.wait.mode (attribute s f) b met (sound.asks (row_flag x sound f made.low made.top e).0).0 stays);
    single = λ one. one;
  }
