-- The form of a ledger's page: what is owed, received and inside of one data queue, written after each of some calls. A page agrees if the ledger says
-- the same, and what is owed is what was received and what is inside. It rests on Ledger; the pages themselves stand in proofs/Pages.
use Rattle.std.specs.Prelude.{Bool, true, ◌&&◌, List, [], ◌∷◌, ◌++◌, ℕ}
use Rattle.model.specs.declared.State.{State}
use Rattle.model.specs.declared.Context.{Context}
use Rattle.model.specs.declared.Call.{Call}
use Rattle.model.specs.State.{fresh}
use Rattle.model.specs.Call.{step}
use Rattle.model.specs.Bench.{same_list}
use Rattle.ways.specs.Entry.{entry}
use Rattle.turns.specs.Tally.{Kernel, reached_by}
use Rattle.order.specs.Ledger.{Ledger, no_ledger, entered, ledger}
use Rattle.order.specs.Statements.{owed, inside}

-- a call; and after it what was accepted less what was withdrawn, what was received, and what is inside
pub record Line : Type 0 where
  pub call : Context × Call
  pub owes : List ℕ
  pub gave : List ℕ
  pub holds : List ℕ

-- the ledger of one data queue, and the calls that were made before its first line
pub record Page : Type 0 where
  pub queue : ℕ
  pub given : List (Context × Call)
  pub lines : List Line

-- ---- does a page agree?
-- the kernel that answers
abbrev pub kernel : Kernel
kernel = step

abbrev pub agrees : ℕ → State → Ledger → Line → Bool
agrees q s l x = same_list (owed l) x.owes && (same_list l.received x.gave && (same_list (inside s q) x.holds && same_list (owed l) (l.received ++ inside s q)))

unfoldable pub lines_agree : ℕ → State → Ledger → List Line → Bool
lines_agree q s l [] = true
lines_agree q s l (x ∷ rest) =
    let r = kernel s x.call.0 x.call.1 in
    let m = entered q (entry x.call.1) s r l in
    agrees q r.state m x && lines_agree q r.state m rest

unfoldable pub all_agree : List Page → Bool
all_agree [] = true
all_agree (p ∷ rest) =
    lines_agree p.queue (reached_by kernel fresh p.given) (ledger kernel p.queue fresh p.given no_ledger) p.lines && all_agree rest
