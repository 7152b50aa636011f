-- Where nothing is stored the reply refuses, and its state is the one that was lent: so what is lent holds the reply's state in both cases.
use lib.Signed.{le_z}
use Rattle.std.proofs.Common.{◌≡◌, true, false, ℕ, refl, ap, sym, ◌∙◌, w32, ℤ, pos, negsuc, FitsSigned, rules, arith}
use Rattle.std.proofs.Math.Facts.{to_z-of_z}
use Rattle.model.specs.declared.State.{State}
use Rattle.model.specs.Code.{is_negative}
use Rattle.border.specs.declared.Reply.{Reply}
use Rattle.border.specs.Border.{reply}
use Rattle.gritgarland.specs.declared.Report.{Report}
use Rattle.gritgarland.specs.Report.{report_of}
use Rattle.gritgarland.proofs.Refused.{refused_reply_is_unchanged}
use Rattle.gritgarland.proofs.gritgarland_call_in_place.Goals as goal
use Rattle.gritgarland.proofs.gritgarland_call_in_place.Goals.{then-r-ge0, else-r-ge0}

-- a code that is not at least 0 is negative
negative : (z : ℤ) → le_z (pos 0) z ≡ false → is_negative z ≡ true
negative (pos n) h = grind arith
negative (negsuc n) h = refl

-- a reply, and its code as the machine reads it back
module _ (s : State) (n₁ n₂ n₃ n₄ n₅ n₆ : ℕ) (r : Reply) (e : r ≡ reply s n₁ n₂ n₃ n₄ n₅ n₆) (z : ℤ) (same : z ≡ r.code) where
  refused : is_negative z ≡ true → r.state ≡ s
  refused h = ap (λ (a : Reply). a.state) e ∙ refused_reply_is_unchanged s n₁ n₂ n₃ n₄ n₅ n₆ (sym (ap (λ (a : Reply). is_negative a.code) e) ∙ (rw same at h))

  promised : (now : State) → now ≡ r.state →
      (◌≡◌ {A = Report} record { code = z; running = r.running; value = r.value } (report_of (reply s n₁ n₂ n₃ n₄ n₅ n₆)))
      × ((now ≡ (reply s n₁ n₂ n₃ n₄ n₅ n₆).state) × (is_negative z ≡ true → now ≡ s))
  promised now k = (rw same (ap report_of e), (k ∙ ap (λ (a : Reply). a.state) e, λ h. k ∙ refused h))

pub returns : goal.returns
returns c =
    let code_fits : FitsSigned w32 c.call_by_number-r.result.code = search rules in
    elim c.if-r-ge0.branch [
      | then-r-ge0 w ↦ promised _ _ _ _ _ _ _ _ c.call_by_number-r.ensures _ (to_z-of_z code_fits) _ w.s-is
      | else-r-ge0 w ↦ promised _ _ _ _ _ _ _ _ c.call_by_number-r.ensures _ (to_z-of_z code_fits) _ (w.s-is ∙ sym (refused _ _ _ _ _ _ _ _ c.call_by_number-r.ensures _ (to_z-of_z code_fits) (negative _ w.if-r-ge0.false)))
    ]
