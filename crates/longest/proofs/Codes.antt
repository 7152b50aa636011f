-- The code and the running task that a call answers in a sound state have at most two bytes each as text, and three in all while nobody runs.
-- It rests on codes having one digit (ways), on who runs after a call (runner), and on refusals changing nothing (soundness).
use mathlib.Core.Path.{◌≡◌, refl, sym, ap}
use mathlib.Core.Bool.{Bool, true, false, false≢true}
use Prim.Native.Nat.{suc, ◌+◌, ◌≤◌}
use native.Mathlib.Omega.{arith}
use lib.Dec.{T as So, ltb→lt}
use lib.IntN.{ℤ, pos, negsuc}
use lib.ListN.{length}
use Rattle.text.specs.Decimal.{decimal}
use Rattle.text.proofs.Digits.{width_one, width_most}
use Rattle.model.specs.declared.State.{State}
use Rattle.model.specs.declared.Context.{Context}
use Rattle.model.specs.declared.Call.{Call}
use Rattle.model.specs.State.{running}
use Rattle.model.specs.Code.{number, is_negative, is_refusal}
use Rattle.model.specs.Call.{step}
use Rattle.model.specs.Sound.{Sound}
use Rattle.ways.proofs.Done.{one_digit}
use Rattle.ways.proofs.Ways.{step_digit}
use Rattle.soundness.proofs.Soundness.{refused_is_unchanged}
use Rattle.walk.specs.Rows.{signed}
use Rattle.runner.proofs.Answered.{step_runs}

-- ---- codes
signed_most : (z : ℤ) → So (one_digit z) → length (signed z) ≤ 2
signed_most (pos n) h = omega (arith, width_one n (omega (arith, ltb→lt n 10 h)))
signed_most (negsuc n) h = omega (arith, width_one (suc n) (omega (arith, ltb→lt n 9 h)))

-- without a sign
signed_one : (z : ℤ) → So (one_digit z) → is_negative z ≡ false → length (signed z) ≤ 1
signed_one (pos n) h e = omega (arith, width_one n (omega (arith, ltb→lt n 10 h)))
signed_one (negsuc n) h e = absurd (false≢true (sym e))

-- ---- an answer
module _ (s : State) (x : Context) (c : Call) where
  pub step-code : length (signed (number (step s x c).code)) ≤ 2
  step-code = signed_most (number (step s x c).code) (step_digit s x c)

  pub step_task : Sound s → length (decimal (step s x c).running) ≤ 2
  step_task k = width_most 1 (step s x c).running (omega (arith, step_runs s x c k))

  step_still : (step s x c).state ≡ s → (step s x c).running ≡ running s
  unfolding step
  step_still e = ap running e

  -- while nobody runs, a call that is refused leaves it so, and any other has a code of one byte
  pub step_idle : Sound s → running s ≡ 0 → length (signed (number (step s x c).code)) + length (decimal (step s x c).running) ≤ 3
  step_idle k idle = go (is_refusal (step s x c).code) refl
    where
      go : (b : Bool) → is_refusal (step s x c).code ≡ b → length (signed (number (step s x c).code)) + length (decimal (step s x c).running) ≤ 3
      go true e = omega (arith, step-code, width_one (step s x c).running (omega (arith, step_still (refused_is_unchanged s x c e))))
      go false e = omega (arith, signed_one (number (step s x c).code) (step_digit s x c) e, step_task k)
