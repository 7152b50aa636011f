-- A reply that refuses has the state of the call. Rests on the same theorem of every call (soundness) and, where
-- the numbers name no call, on the border's definition.
use mathlib.Core.Path.{◌≡◌, refl}
use mathlib.Core.Bool.{Bool, true, false, cond}
use Prim.Native.Nat.{ℕ}
use Rattle.model.specs.declared.State.{State}
use Rattle.model.specs.declared.Answer.{Answer}
use Rattle.model.specs.Code.{is_negative, is_refusal}
use Rattle.model.specs.Test.{is_sound}
use Rattle.std.specs.Prelude.{Option, Some, None}
use Rattle.model.specs.declared.Context.{Context}
use Rattle.model.specs.declared.Call.{Call}
use Rattle.services.specs.Calls.{asked}
use Rattle.border.specs.Border.{context_of, unknown, answered, reply}
use Rattle.soundness.proofs.Soundness.{refused_call_is_unchanged}

-- a test picks one of two answers
picked : (s : State) (b : Bool) (x y : Answer) → x.state ≡ s → y.state ≡ s → (cond b x y).state ≡ s
picked s true x y p q = p
picked s false x y p q = q

unknown_is_unchanged : (s : State) → (unknown s).state ≡ s
unfolding unknown
unknown_is_unchanged s = picked s (is_sound s) _ _ refl refl

refused_answer_is_unchanged : (s : State) (f : Option Context) (q : Option Call) → is_refusal (answered s f q).code ≡ true → (answered s f q).state ≡ s
unfolding answered
refused_answer_is_unchanged s None q e = unknown_is_unchanged s
refused_answer_is_unchanged s (Some c) None e = unknown_is_unchanged s
refused_answer_is_unchanged s (Some c) (Some a) e = refused_call_is_unchanged s c a e

pub refused_reply_is_unchanged : (s : State) (context service a b c d : ℕ) → is_negative (reply s context service a b c d).code ≡ true → (reply s context service a b c d).state ≡ s
unfolding reply
refused_reply_is_unchanged s context service a b c d e = refused_answer_is_unchanged s (context_of context) (asked service a b c d) e
