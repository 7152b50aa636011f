-- What is an entry and what is none, at computed runs: each sentence of the statement is tried where it holds and where it must not.
-- So an entry that is said too narrowly or too widely, and a tick that counts although it was refused, are refused here by their numbers.
use mathlib.Core.Path.{◌≡◌, refl}
use mathlib.Core.List.{List, [], ◌∷◌}
use native.Mathlib.Omega.{arith}
use lib.Dec.{lit≤}
use Rattle.model.specs.declared.State.{State}
use Rattle.model.specs.declared.Context.{Context}
use Rattle.model.specs.declared.Call.{Call}
use Rattle.model.specs.declared.Call.TheVariants.{TaskCreate, TaskActivate, TaskExit, TaskSleep, TaskChangePriority, SysTsliceTicks, TickIntProcessing}
use Rattle.model.specs.State.{fresh}
use Rattle.model.specs.Call.{step}
use Rattle.model.proofs.Words.{opened}
use Rattle.turns.specs.Tally.{reached_by}
use Rattle.turns.proofs.Words.{by_task, a_tick}
use Rattle.since.specs.Statements.{arrives, restarts, rotates, Enters, NoEntry, ticks}

-- ---- the states
pub from : List (Context × Call) → State
from calls = reached_by step fresh calls

-- tasks 1 and 2 are at level 6, or task 1 alone, with slice 1
pub two : State
two = from (by_task (SysTsliceTicks 6 1) ∷ by_task (TaskCreate 1 6 1) ∷ by_task (TaskCreate 2 6 1) ∷ [])

pub alone : State
alone = from (by_task (SysTsliceTicks 6 1) ∷ by_task (TaskCreate 1 6 1) ∷ [])

-- ---- entries
-- the one that a rotation moves
pub rotated : Enters step 1 two a_tick
unfolding opened reached_by from two
rotated = rotates (lit≤ tt) refl refl (λ e. omega arith)

-- a wait that ends in a tick, and another priority
pub wakes : Enters step 1 (from (by_task (TaskCreate 1 5 1) ∷ by_task (TaskSleep 1) ∷ [])) a_tick
unfolding opened reached_by from
wakes = arrives (lit≤ tt) (λ e. omega arith)

pub moves : Enters step 1 alone (by_task (TaskChangePriority 1 7))
unfolding opened reached_by from alone
moves = arrives (lit≤ tt) (λ e. omega arith)

-- an exit with an activation counted, although the task stands alone and stays first
pub exits : Enters step 1 (from (by_task (TaskCreate 1 5 1) ∷ by_task (TaskActivate 1) ∷ [])) (by_task TaskExit)
unfolding opened reached_by from
exits = restarts tt refl (lit≤ tt)

-- ---- none
-- who comes first as another is moved
pub comes_forward : NoEntry step 2 two a_tick
unfolding opened reached_by from two
comes_forward (arrives some other) = other refl
comes_forward (restarts a e some) = omega arith
comes_forward (rotates some same first gone) = omega arith

-- a single task at its slice
pub stays_first : NoEntry step 1 alone a_tick
unfolding opened reached_by from alone
stays_first (arrives some other) = other refl
stays_first (restarts a e some) = omega arith
stays_first (rotates some same first gone) = gone refl

-- leaving a level, and a priority equal to the present one
pub leaves : NoEntry step 1 alone (by_task (TaskSleep 9))
unfolding opened reached_by from alone
leaves (arrives some other) = omega arith
leaves (restarts a e some) = omega arith
leaves (rotates some same first gone) = omega arith

pub stays_equal : NoEntry step 1 alone (by_task (TaskChangePriority 1 6))
unfolding opened reached_by from alone
stays_equal (arrives some other) = other refl
stays_equal (restarts a e some) = omega arith
stays_equal (rotates some same first gone) = gone refl

-- ---- ticks
-- one from a task is refused, and does not count
pub counts_accepted : ticks step fresh (by_task TickIntProcessing ∷ a_tick ∷ []) ≡ 1
unfolding opened ticks
counts_accepted = refl
