-- The form of a ledger: one semaphore's account, written after each of some calls. A page agrees if the tally says the same.
-- It rests on the tally of Tally; the pages themselves stand in proofs/Pages.
use Rattle.std.specs.Prelude.{Bool, true, ◌&&◌, List, [], ◌∷◌, ◌++◌, ℕ}
use Rattle.model.specs.declared.State.{State}
use Rattle.model.specs.declared.Context.{Context}
use Rattle.model.specs.declared.Call.{Call}
use Rattle.model.specs.State.{fresh, count}
use Rattle.model.specs.Call.{step}
use Rattle.model.specs.Bench.{same_list}
use Rattle.turns.specs.Tally.{Kernel, reached_by, Tally, no_tally, tally}

-- a call, and the account after it: start value, successful releases; present count, taken at once, taken by poll, handed to a waiter
pub record Line : Type 0 where
  pub call : Context × Call
  pub account : List ℕ

-- the account of one semaphore, and the calls that were made before its first line
pub record Page : Type 0 where
  pub semaphore : ℕ
  pub given : List (Context × Call)
  pub lines : List Line

-- ---- does a page agree?
-- the kernel that answers
abbrev pub kernel : Kernel
kernel = step

abbrev pub account_of : State → ℕ → Tally → List ℕ
account_of s m t = t.start ∷ t.released ∷ count s m ∷ t.at_once ∷ t.polled ∷ t.handed ∷ []

abbrev pub account_after : List (Context × Call) → ℕ → List ℕ
account_after calls m = account_of (reached_by kernel fresh calls) m (tally kernel m fresh calls no_tally)

unfoldable pub lines_agree : ℕ → List (Context × Call) → List Line → Bool
lines_agree m given [] = true
lines_agree m given (l ∷ rest) = let calls = given ++ (l.call ∷ []) in same_list (account_after calls m) l.account && lines_agree m calls rest

unfoldable pub all_agree : List Page → Bool
all_agree [] = true
all_agree (p ∷ rest) = lines_agree p.semaphore p.given p.lines && all_agree rest
