-- Demand 3, 'turns come round', over the transitions of demand 2: first for a semaphore's waiters, then for the runnable tasks of a level.
-- Then request P9, 'account for every resource'. Each is said of a kernel k, and proved of `step` and of the checked `call` (proofs/Served, Turns, Called, Accounted, Releases).
use Rattle.std.specs.Prelude.{◌≡◌, Bool, true, false, not, ◌&&◌, List, [], ◌∷◌, ℕ, suc, ◌+◌, ◌*◌, ◌-◌, ◌≤◌, T as So, eqb, ℤ}
use Rattle.model.specs.declared.State.{State}
use Rattle.model.specs.declared.Context.{Context}
use Rattle.model.specs.declared.Call.{Call}
use Rattle.model.specs.declared.Code.TheVariants.{NoErr, Timeout, Released, Dlt}
use Rattle.model.specs.Row.{place, first_of}
use Rattle.model.specs.Task.{nothing, is_runnable, level_of, row_of}
use Rattle.model.specs.State.{fresh, task, slice, count, level, waiters, semaphore, running}
use Rattle.model.specs.Code.{number, wait_number, is_refusal}
use Rattle.model.specs.Plan.{is_made}
use Rattle.model.specs.Call.{step}
use Rattle.model.specs.Test.{one}
use Rattle.model.specs.Sound.{Sound}
use Rattle.ways.specs.Kind.{Kind, tick, terminate, forced_release, set_slice, deletion, kind, is_tick, is_release_of}
use Rattle.ways.specs.Entry.{entry}
use Rattle.turns.specs.Tally.{Kernel, reached_by, released_by, is_zero, Tally, no_tally, tally}

-- ---- a call, with the context it comes from, to a kernel k
-- the state after it
abbrev pub next : Kernel → State → Context × Call → State
next k s a = (k s a.0 a.1).state

-- one from the wrong context, or otherwise refused, changes nothing and counts for nothing
abbrev pub is_accepted : Kernel → State → Context × Call → Bool
is_accepted k s a = not (is_refusal (k s a.0 a.1).code)

-- it is accepted, and of this kind
pub record Does (k : Kernel) (s : State) (a : Context × Call) (j : Kind) : Type 0 where
  pub accepted : So (is_accepted k s a)
  pub is : kind a.1 ≡ j

-- a place in a queue counts from 1
abbrev pub place_in : List ℕ → ℕ → ℕ
place_in q t = place q t + 1

-- ---- A: a task at place p of a semaphore's queue holds its resource no later than the p-th successful release,
-- unless its wait ended sooner by timeout, forced release, termination or the semaphore's deletion
abbrev pub is_release : Kernel → State → Context × Call → ℕ → Bool
is_release k s a m = is_accepted k s a && is_release_of m (kind a.1)

-- how many of the calls are successful releases of m
unfoldable pub releases : Kernel → State → List (Context × Call) → ℕ → ℕ
releases k s [] m = 0
releases k s (a ∷ rest) m = one (is_release k s a m) + releases k (next k s a) rest m

-- t waits on semaphore m, which is 1 to 12: the table's rows past these are the flags' and the data queues'
abbrev pub WaitsOn : State → ℕ → ℕ → Type 0
WaitsOn s m t = row_of (task s t) ≡ m

-- t waits for nothing, and its last wait ended with code v, in the paper's number
pub record Ended (s : State) (t : ℕ) (v : ℤ) : Type 0 where
  pub over : (task s t).wait.kind ≡ nothing
  pub code : wait_number (task s t).code ≡ v

-- the call ends t's wait on m by timeout, forced release, termination or the semaphore's deletion
pub data EndsSooner (k : Kernel) (s : State) (a : Context × Call) (m t : ℕ) : Type 0 where
  by_timeout : Does k s a tick → Ended (next k s a) t (number Timeout) → EndsSooner k s a m t
  by_forced_release : Does k s a (forced_release t) → Ended (next k s a) t (number Released) → EndsSooner k s a m t
  by_termination : Does k s a (terminate t) → (task (next k s a) t).wait.kind ≡ nothing → EndsSooner k s a m t
  by_deletion : Does k s a (deletion m) → Ended (next k s a) t (number Dlt) → EndsSooner k s a m t

-- Through these calls from s, t waits on m until its wait ends, no later than at the n-th successful release of m; if the calls are over
-- before that, it still waits. n is how many releases may yet come: it falls by 1 at each, and nothing is said of n = 0, so the n-th
-- release is the last that t can wait for. For example, 1 and 2 wait on semaphore 1, in that order, and the calls are a release, a tick
-- and a release. Of task 2 and n = 2 this is  passes (waits (holds)) :  the first release serves task 1, the tick nobody, the second
-- release task 2. Of n = 1 it is false: after the first release n would be 0 (proofs/Instances).
pub data HoldsBy (k : Kernel) (m t : ℕ) : ℕ → State → List (Context × Call) → Type 0 where
  -- a successful release ends it with 0: t holds its resource
  holds : {n : ℕ} {s : State} {a : Context × Call} {rest : List (Context × Call)}
      → So (is_release k s a m) → Ended (next k s a) t (number NoErr) → HoldsBy k m t (suc n) s (a ∷ rest)
  -- it ends sooner
  sooner : {n : ℕ} {s : State} {a : Context × Call} {rest : List (Context × Call)}
      → EndsSooner k s a m t → HoldsBy k m t (suc n) s (a ∷ rest)
  -- a successful release, after which t still waits, is one of the n
  passes : {n : ℕ} {s : State} {a : Context × Call} {rest : List (Context × Call)}
      → So (is_release k s a m) → WaitsOn (next k s a) m t → HoldsBy k m t n (next k s a) rest → HoldsBy k m t (suc n) s (a ∷ rest)
  -- any other call, after which t still waits, is not
  waits : {n : ℕ} {s : State} {a : Context × Call} {rest : List (Context × Call)}
      → So (not (is_release k s a m)) → WaitsOn (next k s a) m t → HoldsBy k m t (suc n) (next k s a) rest → HoldsBy k m t (suc n) s (a ∷ rest)
  -- the calls are over, and t still waits
  still : {n : ℕ} {s : State} → WaitsOn s m t → HoldsBy k m t (suc n) s []

abbrev pub WaitersAreServed : Kernel → Type 0
WaitersAreServed k = (s : State) (calls : List (Context × Call)) (m t p : ℕ)
    → Sound s
    → 1 ≤ m → m ≤ 12 → WaitsOn s m t → place_in (waiters s m) t ≡ p
    → HoldsBy k m t p s calls

-- and by the time there were p releases, it does not still wait
abbrev pub has_ended : {k : Kernel} {m t n : ℕ} {s : State} {calls : List (Context × Call)} → HoldsBy k m t n s calls → Bool
has_ended (holds r d) = true
has_ended (sooner d) = true
has_ended (passes r w d) = has_ended d
has_ended (waits r w d) = has_ended d
has_ended (still w) = false

abbrev pub ServedInTime : Kernel → Type 0
ServedInTime k = (s : State) (calls : List (Context × Call)) (m t p : ℕ) (h : HoldsBy k m t p s calls)
    → p ≤ releases k s calls m
    → So (has_ended h)

-- ---- B: a runnable task at place q of a level with slice v >= 1 has been first of its level by the time (q - 1) * v ticks were
-- charged there, provided it stays runnable, isn't terminated, keeps its priority and no accepted call sets that slice
-- a tick is charged to l: it is accepted, the task running as it came is of that level, and the slice is above 0
abbrev pub is_charged : Kernel → State → Context × Call → ℕ → Bool
is_charged k s a l = is_accepted k s a && (is_tick (kind a.1) && (eqb (level_of (task s (running s))) l && not (eqb (slice s l) 0)))

-- how many of the calls are ticks charged to l
unfoldable pub charges : Kernel → State → List (Context × Call) → ℕ → ℕ
charges k s [] l = 0
charges k s (a ∷ rest) l = one (is_charged k s a l) + charges k (next k s a) rest l

abbrev pub IsFirst : State → ℕ → ℕ → Type 0
IsFirst s l t = first_of s.levels l ≡ t

-- what is provided of a call that comes to s. A termination may restart the task at once, by its activation count;
-- an exit needs no proviso, as only the running task exits, and that is first of its level
abbrev pub StaysRunnable : Kernel → ℕ → State → Context × Call → Type 0
StaysRunnable k t s a = So (is_runnable (task (next k s a) t))

abbrev pub NotTerminated : Kernel → ℕ → State → Context × Call → Type 0
NotTerminated k t s a = Does k s a (terminate t) → ⊥

abbrev pub KeepsPriority : Kernel → ℕ → ℕ → State → Context × Call → Type 0
KeepsPriority k t l s a = (task (next k s a) t).priority ≡ l

abbrev pub SliceNotSet : Kernel → ℕ → State → Context × Call → Type 0
SliceNotSet k l s a = Does k s a (set_slice l) → ⊥

-- it holds of each call of a list, in the state that the call comes to
pub data Each (k : Kernel) (P : State → Context × Call → Type 0) : State → List (Context × Call) → Type 0 where
  none : {s : State} → Each k P s []
  each : {s : State} {a : Context × Call} {rest : List (Context × Call)} → P s a → Each k P (next k s a) rest → Each k P s (a ∷ rest)

-- Through these calls from s, t is first of level l, now or after a call, no later than at the n-th tick charged to l. n is how many
-- charged ticks may yet come; of n = 0 there is only `first`. For example, 1, 2 and 3 are the tasks of level 6, whose slice is 2, and the
-- calls are four ticks. Of task 3 and n = 4 this is  charged (charged (charged (charged first))) :  2 is first after two ticks, 3 after
-- four. Of n = 3 it is false (proofs/Instances).
pub data FirstBy (k : Kernel) (l t : ℕ) : ℕ → State → List (Context × Call) → Type 0 where
  first : {n : ℕ} {s : State} {calls : List (Context × Call)} → IsFirst s l t → FirstBy k l t n s calls
  -- a tick charged to l is one of the n
  charged : {n : ℕ} {s : State} {a : Context × Call} {rest : List (Context × Call)}
      → So (is_charged k s a l) → FirstBy k l t n (next k s a) rest → FirstBy k l t (suc n) s (a ∷ rest)
  -- any other call is not
  later : {n : ℕ} {s : State} {a : Context × Call} {rest : List (Context × Call)}
      → So (not (is_charged k s a l)) → FirstBy k l t (suc n) (next k s a) rest → FirstBy k l t (suc n) s (a ∷ rest)

abbrev pub TurnsComeRound : Kernel → Type 0
TurnsComeRound k = (s : State) (calls : List (Context × Call)) (l t q v : ℕ)
    → Sound s
    → So (is_runnable (task s t)) → (task s t).priority ≡ l → place_in (level s l) t ≡ q
    → slice s l ≡ v → 1 ≤ v
    → Each k (StaysRunnable k t) s calls
    → Each k (NotTerminated k t) s calls
    → Each k (KeepsPriority k t l) s calls
    → Each k (SliceNotSet k l) s calls
    → (q - 1) * v ≤ charges k s calls l
    → FirstBy k l t ((q - 1) * v) s calls

-- ---- C: through any calls from the fresh state, of each semaphore that then exists, since its latest creation: start value plus
-- successful releases equals present count plus resources taken, at once, by poll or handed to a waiter. It is
-- false of the two kernels in Wrong
abbrev pub exists : State → ℕ → Bool
exists s m = is_made (semaphore s m)

-- a tally and a present count
abbrev pub Balanced : Tally → ℕ → Type 0
Balanced t n = t.start + t.released ≡ n + (t.at_once + t.polled + t.handed)

abbrev pub EveryResource : Kernel → Type 0
EveryResource k = (calls : List (Context × Call)) (m : ℕ)
    → So (exists (reached_by k fresh calls) m)
    → Balanced (tally k m fresh calls no_tally) (count (reached_by k fresh calls) m)

-- a semaphore that does not exist has no tally: deletion ends it
abbrev pub NoneWithout : Kernel → Type 0
NoneWithout k = (calls : List (Context × Call)) (m : ℕ)
    → So (not (exists (reached_by k fresh calls) m))
    → tally k m fresh calls no_tally ≡ no_tally

-- what is a successful release in A, accepted, is one in C, answered with 0
abbrev pub SameReleases : Type 0
SameReleases = (s : State) (a : Context × Call) (m : ℕ)
    → 1 ≤ m
    → is_release step s a m ≡ is_zero (number (step s a.0 a.1).code) && eqb (released_by (entry a.1)) m
