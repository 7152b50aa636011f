-- The ways of a plan: it refuses with a negative code of one digit, or does one of the things listed here, each with what its tests have shown that a theorem asks for.
-- It speaks of the records of model/specs/Task and of what stands in a state, sound or not; Ways has the one pass over the services.
use mathlib.Core.Path.{◌≡◌}
use mathlib.Core.Bool.{Bool, true, false, cond, not, ◌&&◌}
use Prim.Native.Nat.{ℕ, ◌+◌, ◌-◌, ◌≤◌, ◌<◌}
use lib.Dec.{T as So, ltb}
use lib.IntN.{ℤ, pos, negsuc}
use Rattle.model.specs.declared.Wait.{Wait}
use Rattle.model.specs.declared.Task.{Task}
use Rattle.model.specs.declared.State.{State}
use Rattle.model.specs.declared.News.{News}
use Rattle.model.specs.declared.News.TheVariants.{Deleted, Bits}
use Rattle.model.specs.declared.Plan.{Plan}
use Rattle.model.specs.declared.Effect.{Effect}
use Rattle.model.specs.declared.Effect.TheVariants.{Nothing, Moves, Stops, Counts, Deletes, Slices, Ticks, Flags, Tells}
use Rattle.model.specs.declared.Effect.TheVariants.{Queues, Removes, Stores, Takes as TakesOldest, Refills}
use Rattle.model.specs.declared.Code.{Code}
use Rattle.model.specs.declared.Code.TheVariants.{NoErr, Pending, WContext, WrongParam, NoExs}
use lib.ListN.{get_or}
use Rattle.model.specs.Row.{first_of}
use Rattle.model.specs.Flag.{is_attributes, is_met, without_bits, bits_left}
use Rattle.model.specs.DataQueue.{queue_row}
use Rattle.model.specs.Task.{a_sleep, a_send, a_receive, served, released, asleep, on_semaphore, on_flag, to_send, to_receive}
use Rattle.model.specs.Task.{no_task, activated, created, with_priority, with_suspended, with_wakeups, with_activations, waiting, ended}
use Rattle.model.specs.State.{task, count, maximum, attribute, bits_of, flag, capacity_of, taken_of, elements_of, running}
use Rattle.model.specs.Code.{number, is_refusal}
use Rattle.model.specs.Plan.{answers, refused, need, checked}
use Rattle.model.specs.Service.{wanted, is_occupied}
use Rattle.laws.proofs.Padded.{both}
use Rattle.laws.proofs.Says.{Says, says_same}
use Rattle.ways.specs.Kind as Kinds
use Rattle.ways.specs.Kind.{Kind, other, forced_release, set_slice, release, deletion}
use Rattle.ways.specs.Entry as Entries
use Rattle.ways.specs.Entry.{Entry, creation, acquisition, poll, opening, closing, receiving, sending, none}

-- ---- what is named
-- task t is one of the 24, or the one that runs
pub data Named (s : State) : ℕ → Type 0 where
  given : (t : ℕ) → 1 ≤ t → t ≤ 24 → Named s t
  runs : 1 ≤ running s → Named s (running s)

-- semaphore m is one of the 12, and exists
pub record Made (s : State) (m : ℕ) : Type 0 where
  pub low : 1 ≤ m
  pub top : m ≤ 12
  pub made : 1 ≤ maximum s m

-- flag f is one of the 8, and exists
pub record FlagMade (s : State) (f : ℕ) : Type 0 where
  pub low : 1 ≤ f
  pub top : f ≤ 8
  pub made : 1 ≤ attribute s f

-- data queue q is one of the 8, and exists
pub record QueueMade (s : State) (q : ℕ) : Type 0 where
  pub low : 1 ≤ q
  pub top : q ≤ 8
  pub made : 1 ≤ capacity_of s q

-- the first who waits on data queue q
abbrev pub first_at : State → ℕ → ℕ
first_at s q = first_of s.waits (queue_row q)

-- somebody waits there, for this: to send or to receive
abbrev pub Side : State → ℕ → ℕ → Type 0
Side s v q = (1 ≤ first_at s q) × ((task s (first_at s q)).wait.kind ≡ v)

-- ---- what is done
-- the record that task t gets
pub data Change (s : State) (t : ℕ) : Task → Type 0 where
  creates : (p o : ℕ) → 1 ≤ p → p ≤ 30 → (task s t).base ≡ 0 → Change s t (created p o)
  deletes : (task s t).active ≡ 0 → Change s t no_task
  activates : 1 ≤ (task s t).base → Change s t (activated (task s t))
  counts_activation : 1 ≤ (task s t).active → Change s t (with_activations (task s t) 1)
  suspends : 1 ≤ (task s t).active → Change s t (with_suspended (task s t) 1)
  resumes : 1 ≤ (task s t).suspended → Change s t (with_suspended (task s t) 0)
  uses_wakeup : 1 ≤ running s → t ≡ running s → Change s t (with_wakeups (task s t) 0)
  wakes : 1 ≤ (task s t).active → (task s t).wait.kind ≡ a_sleep → Change s t (ended (task s t) served 0)
  counts_wakeup : 1 ≤ (task s t).active → ((task s t).wait.kind ≡ a_sleep → ⊥) → Change s t (with_wakeups (task s t) 1)
  prioritises : (p : ℕ) → p ≤ 30 → 1 ≤ (task s t).base → 1 ≤ (task s t).active → Change s t (with_priority (task s t) (wanted p (task s t)))

-- what the running task begins to wait for, and what that is to a ledger
pub data Begins (s : State) : Entry → Wait → Type 0 where
  sleeps : (d : ℕ) → 1 ≤ d → (task s (running s)).wakeups ≡ 0 → Begins s none (asleep d)
  queues : (m d : ℕ) → Made s m → 1 ≤ d → count s m ≡ 0 → Begins s (acquisition m) (on_semaphore m d)
  asks : (f p m d : ℕ) → FlagMade s f → 1 ≤ p → m ≤ 1 → 1 ≤ d → So (not (is_occupied (flag s f))) → is_met p m (bits_of s f) ≡ false → Begins s none (on_flag f p m d)
  sends : (q e d : ℕ) → QueueMade s q → 1 ≤ d → (Side s a_receive q → ⊥) → capacity_of s q ≤ taken_of s q + 1 → Begins s (sending q e) (to_send q e d)
  receives : (q d : ℕ) → QueueMade s q → 1 ≤ d → (Side s a_send q → ⊥) → taken_of s q ≡ 0 → Begins s (receiving q) (to_receive q d)

-- an entry that takes a resource of m
pub data Takes (m : ℕ) : Entry → Type 0 where
  at_once : Takes m (acquisition m)
  by_poll : Takes m (poll m)

-- the attributes and bits that flag f gets
pub data Reflag (s : State) (f : ℕ) : ℕ → ℕ → Type 0 where
  creates : (a b : ℕ) → 1 ≤ f → f ≤ 8 → So (is_attributes a) → attribute s f ≡ 0 → Reflag s f (a + 1) b
  clears : (p : ℕ) → FlagMade s f → Reflag s f (attribute s f) (without_bits (bits_of s f) p)
  meets : FlagMade s f → Reflag s f (attribute s f) (bits_left (attribute s f) true (bits_of s f))

-- what the waiters of flag f are told, and the attributes and bits that it then has
pub data Tell (s : State) (f : ℕ) : News → ℕ → ℕ → Type 0 where
  deletes : Tell s f Deleted 0 0
  sets : (b : ℕ) (met : Bool) → Tell s f (Bits b) (attribute s f) (bits_left (attribute s f) met b)

-- an element v that is received: the one that the first sender waits with, where none is stored; else the oldest, and the first sender's goes in last
pub data Receives (s : State) (q v : ℕ) : Effect → Type 0 where
  direct : Side s a_send q → taken_of s q ≡ 0 → (task s (first_at s q)).wait.pattern ≡ v → Receives s q v (Moves (first_at s q) (ended (task s (first_at s q)) served 0))
  oldest : (Side s a_send q → ⊥) → 1 ≤ taken_of s q → get_or (elements_of s q) 0 0 ≡ v → Receives s q v (TakesOldest q)
  refills : Side s a_send q → 1 ≤ taken_of s q → get_or (elements_of s q) 0 0 ≡ v → Receives s q v (Refills q)

-- ---- what an accepted call does, by the value that it gives, its kind, its entry in the tallies and ledgers, and its code
pub data Done (s : State) (v : ℕ) : Kind → Entry → Code → Effect → Type 0 where
  ticks : Done s v Kinds.tick none NoErr Ticks
  exits : 1 ≤ running s → Done s v Kinds.exit none NoErr (Stops (running s))
  terminates : (u : ℕ) → 1 ≤ u → u ≤ 24 → 1 ≤ (task s u).base → Done s v (Kinds.terminate u) none NoErr (Stops u)
  forces : (u : ℕ) → 1 ≤ u → u ≤ 24 → 1 ≤ (task s u).wait.kind → Done s v (forced_release u) none NoErr (Moves u (ended (task s u) released 0))
  slices : (l n : ℕ) → 1 ≤ l → n ≤ 1000 → Done s v (set_slice l) none NoErr (Slices l n)
  -- a release: the first waiter is served, or else the count goes up
  serves : (m : ℕ) → Made s m → 1 ≤ first_of s.waits m
      → Done s v (release m) (Entries.release m) NoErr (Moves (first_of s.waits m) (ended (task s (first_of s.waits m)) served 0))
  raises : (m : ℕ) → Made s m → first_of s.waits m ≡ 0 → count s m < maximum s m → Done s v (release m) (Entries.release m) NoErr (Counts m (count s m + 1) (maximum s m))
  deletes : (m : ℕ) → Made s m → Done s v (deletion m) (Entries.deletion m) NoErr (Deletes m)
  -- any other call lets those who wait on semaphores wait as they did
  keeps : Done s v other none NoErr Nothing
  moves : (t : ℕ) (x : Task) → Named s t → Change s t x → Done s v other none NoErr (Moves t x)
  waits : {i : Entry} (w : Wait) → 1 ≤ running s → Begins s i w → Done s v other i Pending (Moves (running s) (waiting (task s (running s)) w))
  creates : (m n top : ℕ) → 1 ≤ m → m ≤ 12 → n ≤ top → 1 ≤ top → top ≤ 65535 → maximum s m ≡ 0 → Done s v other (creation m n) NoErr (Counts m n top)
  takes : {i : Entry} (m : ℕ) → Made s m → 1 ≤ count s m → Takes m i → Done s v other i NoErr (Counts m (count s m - 1) (maximum s m))
  flags : (f a b : ℕ) → Reflag s f a b → Done s v other none NoErr (Flags f a b)
  tells : (f : ℕ) (w : News) (a b : ℕ) → FlagMade s f → Tell s f w a b → Done s v other none NoErr (Tells f w a b)
  -- data queues
  opens : (q c : ℕ) → 1 ≤ q → q ≤ 8 → c ≤ 16 → capacity_of s q ≡ 0 → Done s v other (opening q) NoErr (Queues q (c + 1))
  removes : (q : ℕ) → QueueMade s q → Done s v other (closing q) NoErr (Removes q)
  hands : (q e : ℕ) → QueueMade s q → Side s a_receive q → Done s v other (sending q e) NoErr (Moves (first_at s q) (ended (task s (first_at s q)) served e))
  stores : (q e : ℕ) → QueueMade s q → (Side s a_receive q → ⊥) → taken_of s q + 1 < capacity_of s q → Done s v other (sending q e) NoErr (Stores q (taken_of s q + 1) e)
  gets : {x : Effect} (q : ℕ) → QueueMade s q → Receives s q v x → Done s v other (receiving q) NoErr x

-- ---- a plan's ways
abbrev pub one_digit : ℤ → Bool
one_digit (pos n) = ltb n 10
one_digit (negsuc n) = ltb n 9

pub data Way (s : State) (k : Kind) (i : Entry) : Plan → Type 0 where
  refuses : (c : Code) → So (is_refusal c) → So (one_digit (number c)) → Way s k i (refused c)
  accepts : (c : Code) (v : ℕ) (x : Effect) → So (not (is_refusal c)) → So (one_digit (number c)) → Done s v k i c x → Way s k i (record { code = c; value = v; effect = x })

module _ {s : State} {k : Kind} {i : Entry} where
  pub digit : {p : Plan} → Way s k i p → So (one_digit (number p.code))
  digit (refuses c n d) = d
  digit (accepts c v x n d done) = d

  -- ---- the tests of a plan
  pub done : {x : Effect} (v : ℕ) → Done s v k i NoErr x → Way s k i (record { code = NoErr; value = v; effect = x })
  done {x} v d = accepts NoErr v x tt tt d

  pub pending : {x : Effect} → Done s 0 k i Pending x → Way s k i (answers Pending x)
  pending {x} d = accepts Pending 0 x tt tt d

  pub needs : {b : Bool} {A : Type 0} → Says b A → (c : Code) (p : Plan) → So (is_refusal c && one_digit (number c)) → (A → Way s k i p) → Way s k i (need b c p)
  needs {b = true} says c p n f = f (says.yields tt)
  needs {b = false} says c p n f = let r = both (is_refusal c) (one_digit (number c)) n in refuses c r.0 r.1

  pub picks : {b : Bool} {A : Type 0} → Says b A → (p q : Plan) → (A → Way s k i p) → ((A → ⊥) → Way s k i q) → Way s k i (cond b p q)
  picks {b = true} says p q f g = f (says.yields tt)
  picks {b = false} says p q f g = g says.tests

  pub checks : {right there : Bool} {A B : Type 0} → Says right A → Says there B → (mine : Bool) (p : Plan) → (A → B → Way s k i p) → Way s k i (checked right there mine p)
  checks {right} {there} a b mine p f =
      needs a WrongParam (need there NoExs (need mine WContext p)) tt (λ h.
      needs b NoExs (need mine WContext p) tt (λ g. needs (says_same mine) WContext p tt (λ _. f h g)))
