-- Part C of specs/Statements: every resource is accounted for, whatever is called, by `step` as by the checked `call`.
-- It goes by the ways of ways, the numbers that moves leave alone (Numbers) and who is served at a release (Handed).
use mathlib.Core.Path.{◌≡◌, refl, sym, ap}
use mathlib.Core.Bool.{false, cond}
use mathlib.Core.List.{List, [], ◌∷◌}
use mathlib.Core.Logic.{◌⊎◌, inl, inr}
use Prim.Native.Nat.{ℕ, ◌+◌, ◌-◌, ◌≤◌, ◌%◌, ◌^◌}
use native.Mathlib.Omega.{arith}
use lib.Dec.{T as So, eqb}
use lib.IntN.{ℤ, pos, negsuc}
use lib.ListN.{get_or, set}
use lib.Seq.{get_or-set_same, get_or-set_other}
use borrow.Author.Tests.{eq-eqb, ne_eqb}
use Rattle.model.specs.declared.Task.{Task}
use Rattle.model.specs.declared.State.{State}
use Rattle.model.specs.declared.Plan.{Plan}
use Rattle.model.specs.declared.Effect.{Effect}
use Rattle.model.specs.declared.Code.{Code}
use Rattle.model.specs.declared.News.TheVariants.{Deleted}
use Rattle.model.specs.declared.Context.{Context}
use Rattle.model.specs.declared.Call.{Call}
use Rattle.model.specs.Row.{first_of}
use Rattle.model.specs.Flag.{flag_row}
use Rattle.model.specs.DataQueue.{no_elements, queue_row}
use Rattle.model.specs.Task.{served, released, waiting, ended}
use Rattle.model.specs.State.{fresh, task, count, time, maximum, taken_of, waiters, running, moved, counted, flagged, stocked, sized, sliced, marked, with_time}
use Rattle.model.specs.Code.{number, is_negative}
use Rattle.model.specs.Effect.{stopped, told_all, deleted, told_flag, stored, taken, refilled, removed, charged, ticked, carried}
use Rattle.model.specs.Call.{step, call}
use Rattle.model.specs.Sound.{Sound}
use Rattle.laws.proofs.Number.{same?}
use Rattle.soundness.proofs.Fresh.{reads}
use Rattle.ways.proofs.Tests.{none_of}
use Rattle.soundness.proofs.Soundness.{fresh_is_sound, sound_stays_sound}
use Rattle.tested.proofs.Checked.{call_is_step}
use Rattle.ways.specs.Kind.{Kind}
use Rattle.ways.specs.Entry as Entries
use Rattle.ways.specs.Entry.{Entry}
use Rattle.turns.specs.Tally.{reached_by, is_zero, waits_ended, Tally, begun, no_tally, with_release, with_at_once, with_polled, entered, tallied, tally}
use Rattle.turns.specs.Statements.{Balanced, EveryResource, NoneWithout}
use Rattle.ways.proofs.Done.{Made, first_at, Takes, at_once, by_poll, Receives, direct, oldest, refills, Done, Way, refuses, accepts}
use Rattle.ways.proofs.Done.{Done as Ways}
use Rattle.ways.proofs.Ways.{way}
use Rattle.turns.proofs.Still.{Charged, only_charged}
use Rattle.turns.proofs.Same.{reached_same}
use Rattle.soundness.proofs.Folds.{numbers_moved, numbers_stopped, numbers_told, numbers_lapsed}
use Rattle.turns.proofs.Handed.{one_is_served, nobody_is_served}

-- what the theorem keeps from call to call, of a semaphore with count c and maximum v: its account is even, and none is kept of one
-- that does not exist
record Account (c v : ℕ) (t : Tally) : Type 0 where
  even : Balanced t c
  none : v ≡ 0 → t ≡ no_tally

abbrev AccountIn : State → ℕ → Tally → Type 0
AccountIn s m t = Account (count s m) (maximum s m) t

-- ---- what is entered
-- a refusal is not answered with 0
refused_not : (z : ℤ) → So (is_negative z) → is_zero z ≡ false
refused_not (pos n) h = absurd h
refused_not (negsuc n) h = refl

-- ---- one call
module _ (s : State) (k : Sound s) (m : ℕ) (t : Tally) (a : AccountIn s m t) where
  -- where the numbers stay, what is kept stays
  stays : (z : State) → z.numbers.counts ≡ s.numbers.counts → z.numbers.maxima ≡ s.numbers.maxima → {u : Tally} → AccountIn s m u → AccountIn z m u
  stays z c v b = rw (c, v) b

  numbers : (z : State) → z.numbers ≡ s.numbers → {u : Tally} → AccountIn s m u → AccountIn z m u
  numbers z e b = rw e b

  moving : (u : ℕ) (x : Task) → AccountIn (moved u x s) m t
  moving u x = numbers (moved u x s) (numbers_moved s u x) a

  -- semaphore n gets count c and maximum v, and if it is m, a tally that fits them
  counting : (z : State) → z.numbers.counts ≡ s.numbers.counts → z.numbers.maxima ≡ s.numbers.maxima → (n c v : ℕ) (u : Tally) → n ≤ 12 → (n ≡ m → Account c v u) → AccountIn (counted n c v z) m (cond (eqb n m) u t)
  unfolding counted
  counting z e f n c v u top fits = rw (e, f) (go (same? n m))
    where
      go : (n ≡ m) ⊎ (n ≡ m → ⊥) → Account (get_or (set s.numbers.counts n c) m 0) (get_or (set s.numbers.maxima n v) m 0) (cond (eqb n m) u t)
      go (inl y) = rw (eq-eqb n m y, ← y, get_or-set_same s.numbers.counts n c 0 (omega (arith, k.semaphores.counts#)), get_or-set_same s.numbers.maxima n v 0 (omega (arith, k.semaphores.maxima#))) (fits y)
      go (inr apart) = rw (ne_eqb n m apart, get_or-set_other s.numbers.counts n m c 0 (λ y. apart (sym y)), get_or-set_other s.numbers.maxima n m v 0 (λ y. apart (sym y))) a

  -- the account of m, which exists, is even with another count or tally
  evened : (n : ℕ) → Made s n → (c : ℕ) (u : Tally) → Balanced u c → Account c (maximum s n) u
  evened n made c u even = record { even = even; none = λ z. absurd (omega (arith, made.made)) }

  -- the first who waits on n is served
  abbrev hands_over : ℕ → State
  hands_over n = moved (first_of s.waits n) (ended (task s (first_of s.waits n)) served 0) s

  serving : (n : ℕ) → Made s n → 1 ≤ first_of s.waits n → AccountIn (hands_over n) m (entered m (Entries.release n) (waits_ended s (hands_over n) m 24) t)
  serving n made some = go (same? n m)
    where
      kept : (hands_over n).numbers ≡ s.numbers
      kept = numbers_moved s (first_of s.waits n) (ended (task s (first_of s.waits n)) served 0)

      u : Tally
      u = with_release t (waits_ended s (hands_over n) m 24)

      go : (n ≡ m) ⊎ (n ≡ m → ⊥) → AccountIn (hands_over n) m (cond (eqb n m) u t)
      go (inl y) =
          let h : waits_ended s (hands_over n) m 24 ≡ 1 = rw (← y) (one_is_served s k n made.low made.top some) in
          rw (eq-eqb n m y) (numbers (hands_over n) kept (rw (← ap (maximum s) y) (evened n made (count s m) u (omega (arith, a.even, h)))))
      go (inr apart) = rw (ne_eqb n m apart) (numbers (hands_over n) kept a)

  ticking : AccountIn (ticked s) m t
  unfolding ticked
  ticking = rw (numbers_lapsed 24 1 z) (let e = c.numbers in stays z (rw e) (rw e) a)
    where
      z : State
      z = charged (running s) (with_time ((time s + 1) % 2 ^ 32) s)

      c : Charged (with_time ((time s + 1) % 2 ^ 32) s) z
      c = only_charged (with_time ((time s + 1) % 2 ^ 32) s) (running s)

  deleting : (n : ℕ) → n ≤ 12 → AccountIn (deleted n s) m (cond (eqb n m) no_tally t)
  unfolding deleted
  deleting n top =
      let b = numbers_told Deleted (waiters s n) s in
      counting (told_all Deleted (waiters s n) s) (rw b) (rw b) n 0 0 no_tally top (λ _. record { even = refl; none = λ _. refl })

  -- n has a resource less, and u is t with one more taken
  took : (n : ℕ) → Made s n → 1 ≤ count s n → (u : Tally) → u.start + u.released ≡ t.start + t.released
      → u.at_once + u.polled + u.handed ≡ t.at_once + t.polled + t.handed + 1 → AccountIn (counted n (count s n - 1) (maximum s n) s) m (cond (eqb n m) u t)
  took n made left u same more = counting s refl refl n (count s n - 1) (maximum s n) u made.top (λ y. evened n made (count s n - 1) u (omega (arith, a.even, ap (count s) y)))

  taking : {i : Entry} (n : ℕ) → Made s n → 1 ≤ count s n → Takes n i → (h : ℕ) → AccountIn (counted n (count s n - 1) (maximum s n) s) m (entered m i h t)
  taking n made left at_once h = took n made left (with_at_once t) refl (omega arith)
  taking n made left by_poll h = took n made left (with_polled t) refl (omega arith)

  raising : (n : ℕ) → Made s n → first_of s.waits n ≡ 0 → AccountIn (counted n (count s n + 1) (maximum s n) s) m (entered m (Entries.release n) (waits_ended s (counted n (count s n + 1) (maximum s n) s) m 24) t)
  raising n made free = counting s refl refl n (count s n + 1) (maximum s n) (with_release t (waits_ended s z m 24)) made.top (λ y.
      let h : waits_ended s z m 24 ≡ 0 = rw (← y) (nobody_is_served s k n made.low made.top z free) in
      evened n made (count s n + 1) (with_release t (waits_ended s z m 24)) (omega (arith, a.even, ap (count s) y, h)))
    where
      z : State
      z = counted n (count s n + 1) (maximum s n) s

  -- an element is received
  receiving : {q v : ℕ} {x : Effect} → Receives s q v x → AccountIn (carried s x) m t
  unfolding carried taken refilled stocked moved
  receiving {q} (direct side empty e) = moving (first_at s q) (ended (task s (first_at s q)) served 0)
  receiving {q} (oldest none some e) = stays (taken q s) refl refl a
  receiving {q} (refills side some e) = stays (refilled q s) refl refl a

  after_done : {v : ℕ} {j : Kind} {i : Entry} {c : Code} {x : Effect} → Done s v j i c x → AccountIn (carried s x) m (cond (is_zero (number c)) (entered m i (waits_ended s (carried s x) m 24) t) t)
  unfolding carried ticked sliced flagged told_flag sized stocked stored removed
  after_done Ways.ticks = ticking
  after_done (Ways.exits runs) = numbers (stopped (running s) s) (numbers_stopped s (running s)) a
  after_done (Ways.terminates u low top made) = numbers (stopped u s) (numbers_stopped s u) a
  after_done (Ways.forces u low top waits) = moving u (ended (task s u) released 0)
  after_done (Ways.slices l v low top) = stays (sliced l v s) (unfold marked in refl) (unfold marked in refl) a
  after_done (Ways.serves n made first) = serving n made first
  after_done (Ways.raises n made free less) = raising n made free
  after_done (Ways.deletes n made) = deleting n made.top
  after_done Ways.keeps = a
  after_done (Ways.moves u x n c) = moving u x
  after_done (Ways.waits w runs b) = moving (running s) (waiting (task s (running s)) w)
  after_done (Ways.creates n v w low top fits some few free) = counting s refl refl n v w (begun v) top (λ _. record { even = omega arith; none = λ z. absurd (omega arith) })
  after_done (Ways.takes n made left i) = taking n made left i _
  after_done (Ways.flags f b c r) = stays (flagged f b c s) refl refl a
  after_done (Ways.tells f w b c made r) = let z = numbers_told w (waiters s (flag_row f)) s in stays (flagged f b c (told_all w (waiters s (flag_row f)) s)) (rw z) (rw z) a
  after_done (Ways.opens q c low top most free) = stays (sized q (c + 1) s) refl refl a
  after_done (Ways.removes q made) = let z = numbers_told Deleted (waiters s (queue_row q)) s in stays (sized q 0 (stocked q 0 no_elements (told_all Deleted (waiters s (queue_row q)) s))) (rw z) (rw z) a
  after_done (Ways.hands q e made side) = moving (first_at s q) (ended (task s (first_at s q)) served e)
  after_done (Ways.stores q e made none room) = stays (stored q (taken_of s q + 1) e s) refl refl a
  after_done (Ways.gets q made r) = receiving r

  after : {j : Kind} {i : Entry} {p : Plan} → Way s j i p → AccountIn (carried s p.effect) m (cond (is_zero (number p.code)) (entered m i (waits_ended s (carried s p.effect) m 24) t) t)
  unfolding carried
  after (refuses c n d) = rw (refused_not (number c) n) a
  after (accepts c v x n d done) = after_done done

-- ---- any calls
accounts : (m : ℕ) (calls : List (Context × Call)) (s : State) (t : Tally) → Sound s → AccountIn s m t → AccountIn (reached_by step s calls) m (tally step m s calls t)
unfolding step reached_by tally
accounts m [] s t k a = a
accounts m (c ∷ rest) s t k a =
    accounts m rest (step s c.0 c.1).state (tallied m s c.1 (step s c.0 c.1) t) (sound_stays_sound s c.0 c.1 k) (after s k m t a (way s c.0 c.1))

from_fresh : (m : ℕ) (calls : List (Context × Call)) → AccountIn (reached_by step fresh calls) m (tally step m fresh calls no_tally)
from_fresh m calls = accounts m calls fresh no_tally fresh_is_sound (record { even = omega (arith, reads {A = ℕ} 13 0 m); none = λ _. refl })

pub every_resource : EveryResource step
every_resource calls m made = (from_fresh m calls).even

pub none_without : NoneWithout step
none_without calls m free = (from_fresh m calls).none ((none_of (maximum (reached_by step fresh calls) m)).yields free)

-- ---- the checked call, which answers as `step` does as long as the state is sound
tally_called : (m : ℕ) (calls : List (Context × Call)) (s : State) (t : Tally) → Sound s → tally call m s calls t ≡ tally step m s calls t
unfolding tally
tally_called m [] s t k = refl
tally_called m (c ∷ rest) s t k =
    rw (call_is_step s c.0 c.1 k) (tally_called m rest (step s c.0 c.1).state (tallied m s c.1 (step s c.0 c.1) t) (sound_stays_sound s c.0 c.1 k))

pub every_resource_called : EveryResource call
every_resource_called calls m made =
    rw (reached_same call call_is_step calls fresh fresh_is_sound, tally_called m calls fresh no_tally fresh_is_sound) (from_fresh m calls).even

pub none_without_called : NoneWithout call
none_without_called calls m free =
    rw (tally_called m calls fresh no_tally fresh_is_sound) (none_without calls m (rw (reached_same call call_is_step calls fresh fresh_is_sound) at free))
