-- The tally of one semaphore: its start value and, since its latest creation, its releases and the resources taken from it.
-- It is read off the calls, their answers and the waits that end, for any kernel; no state holds a part of it.
use Rattle.std.specs.Prelude.{Bool, false, cond, not, ◌&&◌, List, [], ◌∷◌, ℕ, zero, suc, ◌+◌, eqb, ℤ, pos, negsuc}
use Rattle.model.specs.declared.State.{State}
use Rattle.model.specs.declared.Answer.{Answer}
use Rattle.model.specs.declared.Context.{Context}
use Rattle.model.specs.declared.Call.{Call}
use Rattle.model.specs.Task.{served, is_waiting, row_of}
use Rattle.model.specs.State.{task}
use Rattle.model.specs.Code.{number}
use Rattle.model.specs.Test.{one}
use Rattle.ways.specs.Entry.{Entry, creation, deletion, release, acquisition, poll, opening, closing, receiving, sending, none, entry}

-- a kernel answers each call that comes to a state
abbrev pub Kernel : Type 0
Kernel = State → Context → Call → Answer

-- the state that it reaches through a list of calls
unfoldable pub reached_by : Kernel → State → List (Context × Call) → State
reached_by k s [] = s
reached_by k s (a ∷ rest) = reached_by k (k s a.0 a.1).state rest

-- ---- entries; what a call is to a tally is said in Entry of ways
-- the semaphore that it releases, else 0
abbrev pub released_by : Entry → ℕ
released_by (creation m n) = 0
released_by (deletion m) = 0
released_by (release m) = m
released_by (acquisition m) = 0
released_by (poll m) = 0
released_by (opening q) = 0
released_by (closing q) = 0
released_by (receiving q) = 0
released_by (sending q e) = 0
released_by none = 0

-- it is answered with 0
abbrev pub is_zero : ℤ → Bool
is_zero (pos n) = eqb n 0
is_zero (negsuc n) = false

-- ---- the waits that end
-- t waited on semaphore m before the call, and after it waits for nothing, with code 0
abbrev pub ends_with0 : State → State → ℕ → ℕ → Bool
ends_with0 s s' m t = eqb (row_of (task s t)) m && (not (is_waiting (task s' t)) && eqb (task s' t).code served)

-- of how many of the tasks 1 to n that is so
unfoldable pub waits_ended : State → State → ℕ → ℕ → ℕ
waits_ended s s' m zero = 0
waits_ended s s' m (suc n) = one (ends_with0 s s' m (suc n)) + waits_ended s s' m n

-- ---- the tally
pub record Tally : Type 0 where
  pub start : ℕ  -- the start value
  pub released : ℕ  -- successful releases
  pub at_once : ℕ  -- resources taken at once
  pub polled : ℕ  -- taken by poll
  pub handed : ℕ  -- handed to a waiter

abbrev pub begun : ℕ → Tally
begun n = record { start = n; released = 0; at_once = 0; polled = 0; handed = 0 }

-- where there is no semaphore
abbrev pub no_tally : Tally
no_tally = begun 0

-- a release, which hands resources to h waiters
abbrev pub with_release : Tally → ℕ → Tally
with_release t h = record { start = t.start; released = t.released + 1; at_once = t.at_once; polled = t.polled; handed = t.handed + h }

-- a resource taken at once
abbrev pub with_at_once : Tally → Tally
with_at_once t = record { start = t.start; released = t.released; at_once = t.at_once + 1; polled = t.polled; handed = t.handed }

-- and one by poll
abbrev pub with_polled : Tally → Tally
with_polled t = record { start = t.start; released = t.released; at_once = t.at_once; polled = t.polled + 1; handed = t.handed }

-- what an entry makes of m's tally, if h waits on m end with 0 as it is made. A creation begins it anew and a deletion ends it.
-- Only a release hands over: a waiter terminated with an activation counted is left like one served, but that is no entry
abbrev pub entered : ℕ → Entry → ℕ → Tally → Tally
entered m (creation n v) h t = cond (eqb n m) (begun v) t
entered m (deletion n) h t = cond (eqb n m) no_tally t
entered m (release n) h t = cond (eqb n m) (with_release t h) t
entered m (acquisition n) h t = cond (eqb n m) (with_at_once t) t
entered m (poll n) h t = cond (eqb n m) (with_polled t) t
entered m (opening q) h t = t
entered m (closing q) h t = t
entered m (receiving q) h t = t
entered m (sending q e) h t = t
entered m none h t = t

-- a call answered with 0 is entered; one that is refused is not, nor an acquire that waits
abbrev pub tallied : ℕ → State → Call → Answer → Tally → Tally
tallied m s a r t = cond (is_zero (number r.code)) (entered m (entry a) (waits_ended s r.state m 24) t) t

-- through a list of calls, from a state and a tally
unfoldable pub tally : Kernel → ℕ → State → List (Context × Call) → Tally → Tally
tally k m s [] t = t
tally k m s (a ∷ rest) t = let r = k s a.0 a.1 in tally k m r.state rest (tallied m s a.1 r t)
