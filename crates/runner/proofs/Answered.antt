-- What a call of a list answers: a code of one digit, and a task's number or 0. So its rows can be kept in a number each.
-- It rests on the codes that a step answers (ways), and on who runs in a sound state (soundness).
use Prim.Native.Nat.{◌≤◌}
use lib.Dec.{T as So}
use native.Mathlib.Omega.{arith}
use native.Mathlib.Decide.{dec_le}
use Rattle.model.specs.declared.State.{State}
use Rattle.model.specs.declared.Context.{Context}
use Rattle.model.specs.declared.Call.{Call}
use Rattle.model.specs.State.{fresh, running}
use Rattle.model.specs.declared.Code.{Code}
use Rattle.model.specs.declared.Code.TheVariants.{NoErr, Pending, Overflow, WContext, WState, Timeout, WrongParam, IlUse, NoExs, Dlt, Released, Unsound}
use Rattle.model.specs.Code.{number}
use Rattle.model.specs.Call.{step}
use Rattle.model.specs.Sound.{Sound}
use Rattle.ways.proofs.Done.{one_digit}
use Rattle.ways.proofs.Ways.{step_digit}
use Rattle.soundness.proofs.Soundness.{fresh_is_sound, sound_stays_sound}
use Rattle.soundness.proofs.Running.{runner}
use Rattle.walk.specs.Script.{Script, done, fault, next}
use Rattle.walk.specs.Rows.{rows_by}
use Rattle.answers.specs.Slots.{base_of}
use Rattle.runner.proofs.Scripts.{Kept}

runs_most : (s : State) → Sound s → running s ≤ 24
runs_most s k = go (dec_le 1 (running s))
  where
    go : Dec (1 ≤ running s) → running s ≤ 24
    go (yes h) = (runner s k h).top
    go (no h) = omega arith

pub step_runs : (s : State) (x : Context) (c : Call) → Sound s → (step s x c).running ≤ 24
unfolding step
step_runs s x c k = runs_most (step s x c).state (sound_stays_sound s x c k)

-- ---- the rows of a script
one_digit_lem : (c : Code) → So (one_digit (number c)) → base_of c ≤ 200
one_digit_lem NoErr h = omega arith
one_digit_lem Pending h = omega arith
one_digit_lem Overflow h = omega arith
one_digit_lem WContext h = omega arith
one_digit_lem WState h = omega arith
one_digit_lem Timeout h = omega arith
one_digit_lem WrongParam h = omega arith
one_digit_lem IlUse h = omega arith
one_digit_lem NoExs h = omega arith
one_digit_lem Dlt h = absurd h
one_digit_lem Released h = absurd h
one_digit_lem Unsound h = absurd h

all_from : (p : Script) (s : State) → Sound s → Kept (rows_by step s p)
unfolding rows_by
all_from done s k = tt
all_from (fault l) s k = tt
all_from (next x c p) s k = (one_digit_lem (step s x c).code (step_digit s x c), step_runs s x c k, all_from p (step s x c).state (sound_stays_sound s x c k))

pub all_kept : (p : Script) → Kept (rows_by step fresh p)
all_kept p = all_from p fresh fresh_is_sound
