-- The test of soundness and the statement of soundness say the same of every state.
-- Rests on Parts for what the test says, and on Listed for the two tables of queues.
use mathlib.Core.Path.{◌≡◌, refl, sym, ap, ◌∙◌}
use mathlib.Core.Bool.{Bool, true, false}
use mathlib.Core.Logic.{inl, inr, ⊎_elim}
use Prim.Native.Nat.{ℕ, ◌+◌, ◌≤◌, ◌<◌}
use native.Mathlib.Omega.{arith}
use lib.Dec.{T as So}
use lib.ListN.{get_or-eq_default}
use Rattle.model.specs.declared.Task.{Task}
use Rattle.model.specs.declared.State.{State}
use Rattle.model.specs.Row.{first_of, second_of}
use Rattle.model.specs.Flag.{is_flag_attributes, is_single, is_met, flag_row}
use Rattle.model.specs.DataQueue.{queue_row}
use Rattle.model.specs.Task.{no_task, a_send, a_receive, level_of, row_of}
use Rattle.model.specs.State.{task, slice, count, maximum, attribute, bits_of, capacity_of, taken_of, elements_of}
use Rattle.model.specs.Test.{is_sound}
use Rattle.model.specs.Sound.{Lists, SoundTask, SoundCharge, SoundQueues, Sound}
use Rattle.laws.proofs.Number.{same?}
use Rattle.laws.proofs.Record.{OnQueue, sound_none, level_none, row_none, row_most, flag_row_lem, flag_none, row_flag, flag_waits, queue_row_lem, queue_none, row_queue, queue_waits}
use Rattle.laws.proofs.Says.{Says, says_as, everywhere}
use Rattle.tested.specs.Statements.{SoundExactly}
use Rattle.tested.proofs.Numbers.{Counted, Flagged, Unmet, Stocked, Unserved}
use Rattle.tested.proofs.Records.{level_most}
use Rattle.tested.proofs.Listed.{Listed, lists_of_test, test_of_lists, first_listed, listed_first, second_alone, alone_second}
use Rattle.tested.proofs.Parts.{Sized, Origin, UnservedIn, Parts, says_parts}

-- ---- the rows of 8 objects, after the first n
module _ (row_for : ℕ → ℕ) (n : ℕ) (most : n ≤ 20) (none : row_for 0 ≡ 0) (some : (i : ℕ) → 1 ≤ i → i ≤ 8 → row_for i ≡ i + n) (i : ℕ) (top : i < 9) where
  in_table : row_for i < 29
  in_table = ⊎_elim
      (λ (e : i ≡ 0). rw (e, none) (omega arith))
      (λ (low : i ≡ 0 → ⊥). omega (arith, some i (omega arith) (omega arith)))
      (same? i 0)

  row_of_lem : {v : ℕ} → Listed (row_for i) v → (1 ≤ i) × (v ≡ i + n)
  row_of_lem r = ⊎_elim
      (λ (e : i ≡ 0). absurd (r.0 (rw e none)))
      (λ (low : i ≡ 0 → ⊥). (omega arith, r.1 ∙ some i (omega arith) (omega arith)))
      (same? i 0)

-- n elements are within capacity c - 1, and where c is 0 there are none
abbrev Within : ℕ → ℕ → Type 0
Within c n = (c ≤ 17) × ((c ≡ 0 → n ≡ 0) × (1 ≤ c → n < c))

module _ (s : State) where
  -- ---- the statement from the parts
  module _ (p : Parts s) where
    no_task_lem : (t : ℕ) → 25 ≤ t → task s t ≡ no_task
    no_task_lem t h = get_or-eq_default s.tasks no_task (omega (arith, p.sized.tasks#))

    each_task : (t : ℕ) → SoundTask (task s t)
    each_task = everywhere (λ t. SoundTask (task s t)) 25 (λ t h. rw (no_task_lem t h) sound_none) p.tasks

    each_slice : (l : ℕ) → slice s l ≤ 1000
    each_slice = everywhere (λ l. slice s l ≤ 1000) 31 (λ l h. omega (arith, get_or-eq_default s.numbers.slices 0 {n = l} (omega (arith, p.sized.slices#)))) p.slices

    each_charge : (t : ℕ) → SoundCharge s.levels s.numbers.slices t (task s t)
    each_charge = everywhere (λ t. SoundCharge s.levels s.numbers.slices t (task s t)) 25 (λ t h. inl (ap (λ (x : Task). x.charge) (no_task_lem t h))) p.charges

    each_count : (m : ℕ) → (count s m ≤ maximum s m) × (maximum s m ≤ 65535)
    each_count = everywhere (λ m. (count s m ≤ maximum s m) × (maximum s m ≤ 65535)) 13 past (λ m h. ((p.counts m h).0, (p.counts m h).1.0))
      where
        past : (m : ℕ) → 13 ≤ m → (count s m ≤ maximum s m) × (maximum s m ≤ 65535)
        past m h =
            let e = get_or-eq_default s.numbers.counts 0 {n = m} (omega (arith, p.sized.counts#)) in
            let f = get_or-eq_default s.numbers.maxima 0 {n = m} (omega (arith, p.sized.maxima#)) in
            (omega arith, omega arith)

    sound_levels : Lists s.levels 31 (λ t. level_of (task s t))
    sound_levels = lists_of_test s.levels 31 (λ t. level_of (task s t)) p.sized.levels# (λ t h. ap level_of (no_task_lem t h) ∙ level_none) p.levels

    sound_waits : Lists s.waits 29 (λ t. row_of (task s t))
    sound_waits = lists_of_test s.waits 29 (λ t. row_of (task s t)) p.sized.waits# (λ t h. ap row_of (no_task_lem t h) ∙ row_none) p.waits

    each_flag : (f : ℕ) → So (is_flag_attributes (attribute s f)) × (attribute s f ≡ 0 → bits_of s f ≡ 0)
    unfolding is_flag_attributes
    each_flag = everywhere (λ f. So (is_flag_attributes (attribute s f)) × (attribute s f ≡ 0 → bits_of s f ≡ 0)) 9 past (λ f h. ((p.flags f h).0, λ e. ((p.flags f h).1.0 e).0))
      where
        past : (f : ℕ) → 9 ≤ f → So (is_flag_attributes (attribute s f)) × (attribute s f ≡ 0 → bits_of s f ≡ 0)
        past f h =
            let e = get_or-eq_default s.numbers.attributes 0 {n = f} (omega (arith, p.sized.attributes#)) in
            let g = get_or-eq_default s.numbers.bits 0 {n = f} (omega (arith, p.sized.bits#)) in
            (rw e tt, λ _. g)

    -- who is listed is a task
    listed_task : (t : ℕ) → 1 ≤ row_of (task s t) → (1 ≤ t) × (t < 25)
    listed_task t h =
        let low : t ≡ 0 → ⊥ = λ e. omega (arith, ap (λ u. row_of (task s u)) e, ap row_of p.origin.0, row_none) in
        let top : 25 ≤ t → ⊥ = λ out. omega (arith, ap row_of (no_task_lem t out), row_none) in
        (omega arith, omega arith)

    -- and somebody stands first in its row
    waits_first : (m t : ℕ) → 1 ≤ m → m ≤ 28 → row_of (task s t) ≡ m → first_of s.waits m ≡ 0 → ⊥
    waits_first m t h top e = listed_first s.waits 29 (λ t. row_of (task s t)) sound_waits m (omega arith) t (listed_task t (omega arith)).0 (λ k. omega arith, e)

    waited : (m t : ℕ) → 1 ≤ m → m ≤ 12 → row_of (task s t) ≡ m → (count s m ≡ 0) × (1 ≤ maximum s m)
    waited m t h top e =
        let c = (p.counts m (omega arith)).1.1 (waits_first m t h (omega arith) e) in
        (c.0, let n = c.1 in omega arith)

    unmet : (f t : ℕ) → 1 ≤ f → f ≤ 8 → row_of (task s t) ≡ f + 12 → (1 ≤ attribute s f) × (is_met (task s t).wait.pattern (task s t).wait.mode (bits_of s f) ≡ false)
    unmet f t low top e =
        let w = row_flag (task s t) (each_task t) f low top e in
        let made : attribute s f ≡ 0 → ⊥ = λ z. waits_first (f + 12) t (omega arith) (omega arith) e (rw (flag_row_lem f low top) at ((p.flags f (omega arith)).1.0 z).1) in
        (omega arith, rw w.1 at (p.unmet t (listed_task t (omega arith)).1 w.0))

    single : (f t u : ℕ) → 1 ≤ f → f ≤ 8 → So (is_single (attribute s f)) → row_of (task s t) ≡ f + 12 → row_of (task s u) ≡ f + 12 → t ≡ u
    single f t u low top one d e =
        second_alone s.waits 29 (λ t. row_of (task s t)) sound_waits (f + 12) (omega arith)
        (rw (flag_row_lem f low top) at ((p.flags f (omega arith)).1.1 one))
        t u (listed_task t (omega arith)).0 (listed_task u (omega arith)).0 (λ k. omega arith, d) (λ k. omega arith, e)

    -- ---- data queues
    each_queue : (q : ℕ) → Within (capacity_of s q) (taken_of s q)
    each_queue = everywhere (λ q. Within (capacity_of s q) (taken_of s q)) 9 past within
      where
        past : (q : ℕ) → 9 ≤ q → Within (capacity_of s q) (taken_of s q)
        past q h =
            let e = get_or-eq_default s.numbers.capacities 0 {n = q} (omega (arith, p.sized.capacities#)) in
            let g = get_or-eq_default s.numbers.taken 0 {n = q} (omega (arith, p.sized.taken#)) in
            (omega arith, (λ _. g, λ some. absurd (omega arith)))

        within : (q : ℕ) → q < 9 → Within (capacity_of s q) (taken_of s q)
        within q h =
            let c = (p.stocks q h).0 in (
              ⊎_elim (λ (z : capacity_of s q ≡ 0). omega arith) (λ (n : capacity_of s q ≡ 0 → ⊥). (c.1 n).0) (same? (capacity_of s q) 0),
              (λ z. (c.0 z).0, λ some. (c.1 (λ z. omega arith)).1),
            )

    -- who is listed by a data queue waits on it
    unserved : (q t : ℕ) → 1 ≤ q → row_of (task s t) ≡ q + 20
        → OnQueue (task s t) × Unserved (task s t).wait (capacity_of s q) (taken_of s q) (task s (first_of s.waits (queue_row q))).wait.kind
    unserved q t low e =
        let w = row_queue (task s t) (each_task t) q low e in
        (w.0, rw w.1 at (p.unserved t (listed_task t (omega arith)).1))

    sound_queues : SoundQueues s.tasks s.numbers.capacities s.numbers.taken s.numbers.elements
    sound_queues = record {
      capacities# = p.sized.capacities#;
      taken# = p.sized.taken#;
      elements# = p.sized.elements#;
      unused = p.origin.6;
      capacities = λ q. (each_queue q).0;
      none = λ q. (each_queue q).1.0;
      within = λ q. (each_queue q).1.1;
      past = λ q top. (p.stocks q (omega arith)).1;
      waited = λ q t low top e.
          let made : capacity_of s q ≡ 0 → ⊥ = λ z. waits_first (q + 20) t (omega arith) (omega arith) e (rw (queue_row_lem q low top) at ((p.stocks q (omega arith)).0.0 z).1) in
          omega arith;
      receives = λ q t low top e receives. let w = unserved q t low e in (w.1 w.0).1.1 (λ sends. omega arith);
      sends = λ q t low top e sends. let w = unserved q t low e in (w.1 w.0).1.0 sends;
      alike = λ q t u low top e f. let w = unserved q t low e in let v = unserved q u low f in (w.1 w.0).0 ∙ sym (v.1 v.0).0;
    }

    parts_sound : Sound s
    parts_sound = record {
      tasks# = z.tasks#;
      nobody = o.0;
      tasks = each_task;
      levels = sound_levels;
      waits = sound_waits;
      slices = record { slices# = z.slices#; unused = o.1; slices = each_slice };
      charges = each_charge;
      semaphores = record { counts# = z.counts#; maxima# = z.maxima#; unused = (o.2, o.3); counts = λ m. (each_count m).0; maxima = λ m. (each_count m).1; waited = waited };
      flags = record { attributes# = z.attributes#; bits# = z.bits#; unused = (o.4, o.5); attributes = λ f. (each_flag f).0; bits = λ f. (each_flag f).1; unmet = unmet; single = single };
      queues = sound_queues;
    }
      where
        z : Sized s
        z = p.sized

        o : Origin s
        o = p.origin

  -- ---- the parts from the statement
  module _ (h : Sound s) where
    counted : (m : ℕ) → m < 13 → Counted (count s m) (maximum s m) (first_of s.waits m)
    counted m k = (
      h.semaphores.counts m,
      (
        h.semaphores.maxima m,
        λ some.
            let r = first_listed s.waits 29 (λ t. row_of (task s t)) h.waits m (omega arith) some in
            let c = h.semaphores.waited m (first_of s.waits m) (let n = r.0 in omega arith) (omega arith) r.1 in
            (c.0, λ e. omega arith),
      ),
    )

    -- where nobody can wait, nobody stands first
    nobody : (l : ℕ) → l < 29 → ((t : ℕ) → Listed l (row_of (task s t)) → ⊥) → first_of s.waits l ≡ 0
    nobody l k never = ⊎_elim
        (λ (z : first_of s.waits l ≡ 0). z)
        (λ (some : first_of s.waits l ≡ 0 → ⊥). absurd (never (first_of s.waits l) (first_listed s.waits 29 (λ t. row_of (task s t)) h.waits l k some)))
        (same? (first_of s.waits l) 0)

    flagged : (f : ℕ) → f < 9 → Flagged (attribute s f) (bits_of s f) (first_of s.waits (flag_row f)) (second_of s.waits (flag_row f))
    flagged f k = (
      h.flags.attributes f,
      (
        λ e. (h.flags.bits f e, nobody (flag_row f) in_rows (λ t r. omega (arith, (h.flags.unmet f t (row_now r).0 (omega arith) (row_now r).1).0))),
        λ one. alone_second s.waits 29 (λ t. row_of (task s t)) h.waits (flag_row f) in_rows
            (λ t u a b. let r = row_now a in h.flags.single f t u r.0 (omega arith) one r.1 (row_now b).1),
      ),
    )
      where
        in_rows : flag_row f < 29
        in_rows = in_table flag_row 12 (omega arith) flag_none flag_row_lem f k

        row_now : {v : ℕ} → Listed (flag_row f) v → (1 ≤ f) × (v ≡ f + 12)
        row_now = row_of_lem flag_row 12 (omega arith) flag_none flag_row_lem f k

    stocked : (q : ℕ) → q < 9 → Stocked (capacity_of s q) (taken_of s q) (elements_of s q) (first_of s.waits (queue_row q))
    stocked q k = (
      (
        λ e. (
          h.queues.none q e,
          nobody (queue_row q) (in_table queue_row 20 (omega arith) queue_none queue_row_lem q k)
              (λ t r. let l = row_of_lem queue_row 20 (omega arith) queue_none queue_row_lem q k r in omega (arith, h.queues.waited q t l.0 (omega arith) l.1)),
        ),
        λ some. (h.queues.capacities q, h.queues.within q (omega arith)),
      ),
      h.queues.past q (omega arith),
    )

    -- whoever waits on a flag is listed by it
    unmet_now : (t : ℕ) → Unmet (task s t).wait (bits_of s (task s t).wait.object)
    unmet_now t e =
        let r = (h.tasks t).flag e in
        (h.flags.unmet (task s t).wait.object t r.0 r.1 (flag_waits (task s t) (h.tasks t) e)).1

    -- and whoever waits on a data queue, where the first waits for the same
    unserved_now : (t : ℕ) → UnservedIn s (task s t).wait
    unserved_now t o =
        let q = (task s t).wait.object in
        let r = (h.tasks t).queue o in
        let e = queue_waits (task s t) (h.tasks t) o in
        let row = queue_row_lem q r.0 r.1 in
        let low : t ≡ 0 → ⊥ = λ z. omega (arith, ap (λ u. row_of (task s u)) z, ap row_of h.nobody, row_none) in
        let first = first_listed s.waits 29 (λ t. row_of (task s t)) h.waits (q + 20) (omega arith)
        (listed_first s.waits 29 (λ t. row_of (task s t)) h.waits (q + 20) (omega arith) t (omega arith) (λ z. omega arith, e)) in (
          rw row (h.queues.alike q t (first_of s.waits (q + 20)) r.0 r.1 e first.1),
          (h.queues.sends q t r.0 r.1 e, λ n. h.queues.receives q t r.0 r.1 e (other n o)),
        )
      where
        other : ((task s t).wait.kind ≡ a_send → ⊥) → OnQueue (task s t) → (task s t).wait.kind ≡ a_receive
        other n (inl e) = absurd (n e)
        other n (inr e) = e

    sound_parts : Parts s
    sound_parts = record {
      sized = record {
        tasks# = h.tasks#;
        levels# = (h.levels.sized, h.levels.places);
        waits# = (h.waits.sized, h.waits.places);
        slices# = h.slices.slices#;
        counts# = h.semaphores.counts#;
        maxima# = h.semaphores.maxima#;
        attributes# = h.flags.attributes#;
        bits# = h.flags.bits#;
        capacities# = h.queues.capacities#;
        taken# = h.queues.taken#;
        elements# = h.queues.elements#;
      };
      origin = (h.nobody, h.slices.unused, h.semaphores.unused.0, h.semaphores.unused.1, h.flags.unused.0, h.flags.unused.1, h.queues.unused);
      tasks = λ t k. h.tasks t;
      slices = λ l k. h.slices.slices l;
      charges = λ t k. h.charges t;
      counts = counted;
      flags = flagged;
      unmet = λ t k. unmet_now t;
      stocks = stocked;
      unserved = λ t k. unserved_now t;
      levels = test_of_lists s.levels 31 (λ t. level_of (task s t)) (λ t. omega (arith, level_most (task s t) (h.tasks t))) (ap level_of h.nobody ∙ level_none) h.levels;
      waits = test_of_lists s.waits 29 (λ t. row_of (task s t)) (λ t. omega (arith, row_most (task s t) (h.tasks t))) (ap row_of h.nobody ∙ row_none) h.waits;
    }

  says_sound : Says (is_sound s) (Sound s)
  says_sound = says_as parts_sound sound_parts (says_parts s)

-- ---- the test and the statement
pub sound_of_test : (s : State) → So (is_sound s) → Sound s
sound_of_test s = (says_sound s).yields

pub test_of_sound : (s : State) → Sound s → So (is_sound s)
test_of_sound s = (says_sound s).tests

is_true : (b : Bool) → So b → b ≡ true
is_true true t = refl
is_true false t = absurd t

pub sound_exactly : SoundExactly
sound_exactly s = (λ e. sound_of_test s (rw e tt), λ h. is_true (is_sound s) (test_of_sound s h))
