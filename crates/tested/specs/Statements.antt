-- What is said of the computed test of soundness: it holds of exactly the sound states, and where it holds the checked call is the step.
-- They speak of `is_sound`, `Sound`, `call` and `step` of model, and are proved in proofs/Same and proofs/Checked.
use Rattle.std.specs.Prelude.{◌≡◌, true, ◌↔◌}
use Rattle.model.specs.declared.State.{State}
use Rattle.model.specs.declared.Context.{Context}
use Rattle.model.specs.declared.Call.{Call}
use Rattle.model.specs.Call.{step, call}
use Rattle.model.specs.Test.{is_sound}
use Rattle.model.specs.Sound.{Sound}

-- the test that the public entries compute, and the statement that 01's sentences are
abbrev pub SoundExactly : Type 0
SoundExactly = (s : State) → (is_sound s ≡ true) ↔ Sound s

-- so what is said of `step` from a sound state is said of `call`; from any other, `call` answers UNSOUND
abbrev pub CallIsStep : Type 0
CallIsStep = (s : State) (c : Context) (a : Call) → Sound s → call s c a ≡ step s c a
