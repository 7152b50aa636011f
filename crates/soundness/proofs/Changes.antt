-- Each change of model/specs/State keeps a sound state sound: a task moved, a semaphore counted, a flag set, a data queue stocked or sized, the time; Charging has the charges and slices.
-- It rests on the tables' laws in Listed, on Orderly for the levels and on Stocks for the data queues; what a change asks for is a condition on the numbers it stores.
use mathlib.Core.Path.{◌≡◌, refl, sym, ap, ◌∙◌}
use mathlib.Core.List.{List}
use mathlib.Core.Logic.{◌⊎◌, inl, inr}
use mathlib.Core.Bool.{false}
use Prim.Native.Nat.{ℕ, ◌+◌, ◌*◌, ◌≤◌, ◌<◌}
use native.Mathlib.Omega.{arith}
use lib.Dec.{T as So}
use lib.ListN.{length, get_or, set, length-set}
use lib.Seq.{get_or-set_same, get_or-set_other, set_out, sets, length-sets}
use Rattle.model.specs.declared.Task.{Task}
use Rattle.model.specs.declared.Numbers.{Numbers}
use Rattle.model.specs.declared.State.{State}
use Rattle.model.specs.Flag.{is_flag_attributes, is_single, is_met}
use Rattle.model.specs.Task.{no_task, level_of, row_of, settled}
use Rattle.model.specs.State.{task, time, count, maximum, attribute, bits_of, capacity_of, taken_of, elements_of, moved, counted, flagged, stocked, sized, with_time}
use Rattle.model.specs.Sound.{SoundTask, SoundSlices, SoundCharge, at, SoundSemaphores, SoundFlags, SoundQueues, Sound}
use Rattle.laws.proofs.Number.{same?, below?}
use Rattle.laws.proofs.Record.{level_none, level_settled, sound_settled}
use Rattle.laws.proofs.Places.{places_same, places_other}
use Rattle.soundness.proofs.Listed.{lists_relisted}
use Rattle.soundness.proofs.Charges.{charge_none}
use Rattle.soundness.proofs.Stocks.{Unserved, QueueFits, unserved, queues_of_lem, restocked}
use Rattle.soundness.proofs.Orderly.{Orderly, sound_orderly, no_task_lem, task_now, task_else, task_cases, orderly_moved}

-- ---- what is read after a store
-- what holds of the values stored in two tables of one length, and of the old ones, holds of what is read
stored_both : (P : ℕ → ℕ → Type 0) (xs ys : List ℕ) (i a b j : ℕ) → length xs ≡ length ys → (j ≡ i → P a b) → P (get_or xs j 0) (get_or ys j 0)
    → P (get_or (set xs i a) j 0) (get_or (set ys i b) j 0)
stored_both P xs ys i a b j long here else = go (same? j i) (below? i (length xs))
  where
    go : (j ≡ i) ⊎ (j ≡ i → ⊥) → (i < length xs) ⊎ (length xs ≤ i) → P (get_or (set xs i a) j 0) (get_or (set ys i b) j 0)
    go (inl e) (inl h) = rw (e, get_or-set_same xs i a 0 h, get_or-set_same ys i b 0 (omega arith)) (here e)
    go (inl e) (inr h) = rw (set_out xs i a h, set_out ys i b (omega arith)) else
    go (inr other) h = rw (get_or-set_other xs i j a 0 other, get_or-set_other ys i j b 0 other) else

pub stored : (P : ℕ → Type 0) (xs : List ℕ) (i a j : ℕ) → (j ≡ i → P a) → P (get_or xs j 0) → P (get_or (set xs i a) j 0)
stored P xs i a j here else = stored_both (λ x y. P x) xs xs i a a j refl here else

-- ---- a task moves
-- task t with record x may wait as that says: on a created semaphore with count 0; on a created flag whose bits do not meet x, on SINGLE alone;
-- on a created data queue that can't serve x, beside nobody on the other side
pub record MayWait (s : State) (t : ℕ) (x : Task) : Type 0 where
  pub waited : (m : ℕ) → 1 ≤ m → m ≤ 12 → row_of x ≡ m → (count s m ≡ 0) × (1 ≤ maximum s m)
  pub unmet : (f : ℕ) → 1 ≤ f → f ≤ 8 → row_of x ≡ f + 12 → (1 ≤ attribute s f) × (is_met x.wait.pattern x.wait.mode (bits_of s f) ≡ false)
  pub single : (f u : ℕ) → 1 ≤ f → f ≤ 8 → So (is_single (attribute s f)) → row_of x ≡ f + 12 → row_of (task s u) ≡ f + 12 → u ≡ t
  pub unserved : (q : ℕ) → 1 ≤ q → q ≤ 8 → row_of x ≡ q + 20 → Unserved (capacity_of s q) (taken_of s q) x
  pub alike : (q u : ℕ) → 1 ≤ q → q ≤ 8 → row_of x ≡ q + 20 → row_of (task s u) ≡ q + 20 → (task s u).wait.kind ≡ x.wait.kind

-- the same numbers beside other records, whose waits they fit
module _ {xs ys : List Task} where
  pub semaphores_of : {ns vs : List ℕ} → SoundSemaphores xs ns vs
      → ((m t : ℕ) → 1 ≤ m → m ≤ 12 → row_of (get_or ys t no_task) ≡ m → (at ns m ≡ 0) × (1 ≤ at vs m)) → SoundSemaphores ys ns vs
  semaphores_of a waited = record { counts# = a.counts#; maxima# = a.maxima#; unused = a.unused; counts = a.counts; maxima = a.maxima; waited = waited }

  pub flags_of : {es bs : List ℕ} → SoundFlags xs es bs
      → ((f t : ℕ) → 1 ≤ f → f ≤ 8 → row_of (get_or ys t no_task) ≡ f + 12 → (1 ≤ at es f) × (is_met (get_or ys t no_task).wait.pattern (get_or ys t no_task).wait.mode (at bs f) ≡ false))
      → ((f t u : ℕ) → 1 ≤ f → f ≤ 8 → So (is_single (at es f)) → row_of (get_or ys t no_task) ≡ f + 12 → row_of (get_or ys u no_task) ≡ f + 12 → t ≡ u) → SoundFlags ys es bs
  flags_of b unmet single = record { attributes# = b.attributes#; bits# = b.bits#; unused = b.unused; attributes = b.attributes; bits = b.bits; unmet = unmet; single = single }

module _ (s : State) (k : Sound s) (t : ℕ) (x : Task) (some : 1 ≤ t) (top : t ≤ 24) where
  order : Orderly s
  order = sound_orderly k

  after : Orderly (moved t x s)
  after = orderly_moved s order t x some top

  cases : (P : Task → Type 0) (u : ℕ) → (u ≡ t → P (settled (time s) (task s t) x)) → ((u ≡ t → ⊥) → P (task s u)) → P (task (moved t x s) u)
  cases = task_cases s order t x some top

  -- what holds of any two in a row holds still, if it holds of t beside itself and beside the others there, on either side
  pairs : (P : ℕ → Task → ℕ → Task → Type 0) (r : ℕ) → ((u v : ℕ) → row_of (task s u) ≡ r → row_of (task s v) ≡ r → P u (task s u) v (task s v))
      → P t (settled (time s) (task s t) x) t (settled (time s) (task s t) x)
      → ((u : ℕ) → row_of x ≡ r → row_of (task s u) ≡ r → P t (settled (time s) (task s t) x) u (task s u) × P u (task s u) t (settled (time s) (task s t) x))
      → (u v : ℕ) → row_of (task (moved t x s) u) ≡ r → row_of (task (moved t x s) v) ≡ r → P u (task (moved t x s) u) v (task (moved t x s) v)
  unfolding row_of
  pairs P r before itself beside u v = cases (λ y. row_of y ≡ r → row_of (task (moved t x s) v) ≡ r → P u y v (task (moved t x s) v)) u
      (λ e here. rw e (cases (λ z. row_of z ≡ r → P t (settled (time s) (task s t) x) v z) v (λ d _. rw d itself) (λ _ there. (beside v here there).0)))
      (λ _ there. cases (λ z. row_of z ≡ r → P u (task s u) v z) v (λ d here. rw d (beside u here there).1) (λ _ here. before u v there here))

  module _ (sound : SoundTask x) (may : MayWait s t x) where
    -- one not created has no level, and so no charge
    bare : x.base ≡ 0 → (settled (time s) (task s t) x).charge ≡ 0
    bare none =
        let z = task_now s order t x some top in
        rw z at (charge_none (moved t x s).levels (moved t x s).numbers.slices after.slices t (task (moved t x s) t) (after.charges t)
        (ap level_of z ∙ level_settled (time s) (task s t) x ∙ ap level_of (sound.blank none) ∙ level_none))

    pub sound_moved : Sound (moved t x s)
    unfolding moved row_of
    sound_moved = record {
      tasks# = after.tasks#;
      nobody = after.nobody;
      tasks = λ u. cases SoundTask u (λ e. sound_settled (time s) (task s t) x sound bare) (λ other. k.tasks u);
      levels = after.levels;
      waits = lists_relisted s.waits 29 (λ u. row_of (task s u)) k.waits t (row_of x) some top (λ u h. ap row_of (no_task_lem s order u h))
          (λ u. row_of (task (moved t x s) u)) (ap row_of (task_now s order t x some top)) (λ u other. ap row_of (task_else s order t x some top u other));
      slices = k.slices;
      charges = after.charges;
      semaphores = semaphores_of k.semaphores (λ m u low top. cases (λ y. row_of y ≡ m → (count s m ≡ 0) × (1 ≤ maximum s m)) u (λ e. may.waited m low top) (λ other. k.semaphores.waited m u low top));
      flags = flags_of k.flags
          (λ f u low top. cases (λ y. row_of y ≡ f + 12 → (1 ≤ attribute s f) × (is_met y.wait.pattern y.wait.mode (bits_of s f) ≡ false)) u (λ e. may.unmet f low top) (λ other. k.flags.unmet f u low top))
          (λ f u v low top one. pairs (λ i y j z. i ≡ j) (f + 12) (λ i j. k.flags.single f i j low top one) refl
          (λ i here there. let e = may.single f i low top one here there in (sym e, e)) u v);
      queues = queues_of_lem k.queues
          (λ q u low top. cases (λ y. row_of y ≡ q + 20 → Unserved (capacity_of s q) (taken_of s q) y) u (λ e. may.unserved q low top) (λ other. unserved k.queues q u low top))
          (λ q u v low top. pairs (λ i y j z. y.wait.kind ≡ z.wait.kind) (q + 20) (λ i j. k.queues.alike q i j low top) refl
          (λ i here there. let e = may.alike q i low top here there in (sym e, e)) u v);
    }

-- ---- other numbers, which are sound by themselves
pub renumbered : (s : State) (n : Numbers) → Sound s → SoundSlices n.slices → ((t : ℕ) → SoundCharge s.levels n.slices t (task s t)) → SoundSemaphores s.tasks n.counts n.maxima
    → SoundFlags s.tasks n.attributes n.bits → SoundQueues s.tasks n.capacities n.taken n.elements → Sound (record { tasks = s.tasks; levels = s.levels; waits = s.waits; numbers = n })
renumbered s n k slices charges semaphores flags queues = record {
  tasks# = k.tasks#;
  nobody = k.nobody;
  tasks = k.tasks;
  levels = k.levels;
  waits = k.waits;
  slices = slices;
  charges = charges;
  semaphores = semaphores;
  flags = flags;
  queues = queues;
}

-- ---- a semaphore's numbers
pub sound_counted : (s : State) (m n v : ℕ) → Sound s → 1 ≤ m → n ≤ v → v ≤ 65535 → ((t : ℕ) → row_of (task s t) ≡ m → (n ≡ 0) × (1 ≤ v)) → Sound (counted m n v s)
unfolding counted
sound_counted s m n v k some low top free = renumbered s (counted m n v s).numbers k k.slices k.charges (record {
  counts# = length-set ns m n ∙ a.counts#;
  maxima# = length-set vs m v ∙ a.maxima#;
  unused = (stored (λ b. b ≡ 0) ns m n 0 (λ e. absurd (omega arith)) a.unused.0, stored (λ b. b ≡ 0) vs m v 0 (λ e. absurd (omega arith)) a.unused.1);
  counts = λ i. stored_both (λ a b. a ≤ b) ns vs m n v i same (λ e. low) (a.counts i);
  maxima = λ i. stored (λ b. b ≤ 65535) vs m v i (λ e. top) (a.maxima i);
  waited = λ i t h most e. stored_both (λ a b. (a ≡ 0) × (1 ≤ b)) ns vs m n v i same (λ z. free t (e ∙ z)) (a.waited i t h most e);
}) k.flags k.queues
  where
    ns : List ℕ
    ns = s.numbers.counts

    vs : List ℕ
    vs = s.numbers.maxima

    a : SoundSemaphores s.tasks ns vs
    a = k.semaphores

    same : length ns ≡ length vs
    same = a.counts# ∙ sym a.maxima#

-- ---- a flag's numbers
-- attributes a and bits b fit those who wait on flag f
pub record FlagFits (s : State) (f a b : ℕ) : Type 0 where
  pub attributes : So (is_flag_attributes a)
  pub none : a ≡ 0 → b ≡ 0
  pub unmet : (t : ℕ) → row_of (task s t) ≡ f + 12 → (1 ≤ a) × (is_met (task s t).wait.pattern (task s t).wait.mode b ≡ false)
  pub single : So (is_single a) → (t u : ℕ) → row_of (task s t) ≡ f + 12 → row_of (task s u) ≡ f + 12 → t ≡ u

pub sound_flagged : (s : State) (f a b : ℕ) → Sound s → 1 ≤ f → FlagFits s f a b → Sound (flagged f a b s)
unfolding flagged
sound_flagged s f a b k some fits = renumbered s (flagged f a b s).numbers k k.slices k.charges k.semaphores (record {
  attributes# = length-set es f a ∙ g.attributes#;
  bits# = length-set bs f b ∙ g.bits#;
  unused = (stored (λ c. c ≡ 0) es f a 0 (λ e. absurd (omega arith)) g.unused.0, stored (λ c. c ≡ 0) bs f b 0 (λ e. absurd (omega arith)) g.unused.1);
  attributes = λ i. stored (λ c. So (is_flag_attributes c)) es f a i (λ e. fits.attributes) (g.attributes i);
  bits = λ i. stored_both (λ c d. c ≡ 0 → d ≡ 0) es bs f a b i same (λ e. fits.none) (g.bits i);
  unmet = λ i t low top e. stored_both (λ c d. (1 ≤ c) × (is_met (task s t).wait.pattern (task s t).wait.mode d ≡ false)) es bs f a b i same
      (λ z. fits.unmet t (e ∙ ap (λ n. n + 12) z)) (g.unmet i t low top e);
  single = λ i t u low top. stored (λ c. So (is_single c) → row_of (task s t) ≡ i + 12 → row_of (task s u) ≡ i + 12 → t ≡ u) es f a i
      (λ z one d e. fits.single one t u (d ∙ ap (λ n. n + 12) z) (e ∙ ap (λ n. n + 12) z)) (g.single i t u low top);
}) k.queues
  where
    es : List ℕ
    es = s.numbers.attributes

    bs : List ℕ
    bs = s.numbers.bits

    g : SoundFlags s.tasks es bs
    g = k.flags

    same : length es ≡ length bs
    same = g.attributes# ∙ sym g.bits#

-- ---- a data queue's numbers
module _ (s : State) (k : Sound s) (q : ℕ) (low : 1 ≤ q) (top : q ≤ 8) where
  g : SoundQueues s.tasks s.numbers.capacities s.numbers.taken s.numbers.elements
  g = k.queues

  pub sound_stocked : (n : ℕ) (ps : List ℕ) → length ps ≡ 16 → QueueFits s.tasks q (capacity_of s q) n ps → Sound (stocked q n ps s)
  unfolding stocked
  sound_stocked n ps size fits =
      let ns = s.numbers.taken in
      let es = s.numbers.elements in
      renumbered s (stocked q n ps s).numbers k k.slices k.charges k.semaphores k.flags
      (restocked g q low s.numbers.capacities (set ns q n) (sets es (q * 16) ps) (g.capacities#, length-set ns q n ∙ g.taken#, length-sets es (q * 16) ps ∙ g.elements#)
      (λ r other. (refl, get_or-set_other ns q r n 0 other))
      (λ r most other. places_other es g.elements# q ps top size r most other)
      (rw (get_or-set_same ns q n 0 (omega (arith, g.taken#)), places_same es g.elements# q ps top size) fits))

  pub sound_sized : (c : ℕ) → QueueFits s.tasks q c (taken_of s q) (elements_of s q) → Sound (sized q c s)
  unfolding sized
  sound_sized c fits =
      let cs = s.numbers.capacities in
      renumbered s (sized q c s).numbers k k.slices k.charges k.semaphores k.flags
      (restocked g q low (set cs q c) s.numbers.taken s.numbers.elements (length-set cs q c ∙ g.capacities#, g.taken#, g.elements#)
      (λ r other. (get_or-set_other cs q r c 0 other, refl))
      (λ r most other. refl)
      (rw (get_or-set_same cs q c 0 (omega (arith, g.capacities#))) fits))

-- ---- the time
pub sound_with_time : (s : State) (n : ℕ) → Sound s → Sound (with_time n s)
sound_with_time s n k = renumbered s (with_time n s).numbers k k.slices k.charges k.semaphores k.flags k.queues
