-- The rows of the functions with a type parameter, at any type that may be copied: as in Inside, but for what GenericPromise says; and that at a type
-- that borrows nothing they ask nothing. Rests on the generated modules of places, and on Laws.
use mathlib.Core.Path.{◌≡◌, refl}
use mathlib.Core.List.{[], not-mem-nil}
use seplogic.Ra.Ura.{Ura}
use mir.Syntax.{Dict}
use prog.Model.{Model}
use types.Logic.{Logic}
use contract.Running.{Running}
use base.Fml.{Lft}
use base.Logic.{ent, emp, sep, via, emp∗, mono_l}
use contract.BorrowLft.{◌⊑◌}
use contract.Monad.{fact, fact_i}
use contract.Lifetimes.{Lfts}
use denote.Exit.{yes, no}
use denote.RattleType.{RattleType}
use denote.Signature.{Signature}
use denote.Param.Laws.{Laws, IsCopy}
use denote.Triple.End.{Kepts}
use denote.Triple.Clauses.{Ended}
use denote.Triple.Entry.{Args}
use borrow.Fn.World.{World}
use Rattle.std.specs.declared.clone.Clone.{Ghosts}
use Rattle.std.specs.contracts.clone.Clone.TheBound as bound
use Rattle.places.specs.contracts as places
use Rattle.stored.specs.contracts as stored
use Rattle.places.proofs as kept_places
use Rattle.promises.specs.Tight.{GenericPromise, Open, Outcome, clauses}
use Rattle.promises.proofs.Laws.{plain, result, buffer}

-- a parameter by value of a type parameter has no last value in a contract
abbrev ended : (S : Signature) → Kepts S.params → Ended
ended S k = record { signature = S; kept = k }

-- a contract that asks this fact alone
outlives : (w : World) (φ : Type 0) → φ → ent w.𝓤 (emp w.𝓤) (sep w.𝓤 (fact w.𝓤 φ) (emp w.𝓤))
outlives w φ x = via w.𝓤 (sep w.𝓤 (emp w.𝓤) (emp w.𝓤)) (emp∗ w.𝓤 (emp w.𝓤)) (mono_l w.𝓤 (emp w.𝓤) (fact_i w.𝓤 φ (emp w.𝓤) x))

-- a type that borrows nothing lasts for every lifetime,
free : (T : RattleType) → T.lives ≡ [] → (κ : Lft) → κ ⊑ T.lives
free T e κ = rw e (λ x m. absurd (not-mem-nil m))

-- and so nothing is asked at one,
pub asks_nothing :
    {T : RattleType} → T.lives ≡ [] → (r : GenericPromise T) (w : World) (κs : Lfts r.ended.signature.lifetimes) (a : Args r.ended.signature κs) (g : (clauses r.ended r.contract w κs a).ghost)
    (o : Outcome r.ended r.contract κs a) → Open r.ended r.contract w κs a g
asks_nothing {T} e r w κs a g o = (r.tight w κs a g g o o).0 (free T e (r.span κs))

-- as u32 and Task are, what `elements::element_at` and `stored::record_at` answer
u32_borrows_nothing : (κs : Lfts places.elements.element_at.signature.lifetimes) → (places.elements.element_at.signature.result.row κs).lives ≡ []
u32_borrows_nothing κs = refl

task_borrows_nothing : (κs : Lfts stored.record_at.signature.lifetimes) → (stored.record_at.signature.result.row κs).lives ≡ []
task_borrows_nothing κs = refl

module _ (T : RattleType) (C : Ghosts T.Denot) (D : Dict) (laws : Laws T) (copy : IsCopy T)
    (met : (M : Type 1) (𝓤 : Ura M) (𝓛 : Logic 𝓤) (𝓜 : Model 𝓤 𝓛.H) (𝓡 : Running 𝓤 𝓛.H 𝓜) → bound.Met 𝓛 𝓜 𝓡 𝓡.env T C D) where
  pub of_read : GenericPromise T
  of_read = record { ended = ended (places.read.signature T) (yes, (yes, (no, tt))); contract = λ M 𝓤 𝓛. places.read.clauses T C D 𝓛; name = _; code = _; kept = λ M 𝓤 𝓛 𝓜 𝓡 w. kept_places.read.Met.met 𝓤 𝓛 𝓜 𝓡 w T laws copy C D (met M 𝓤 𝓛 𝓜 𝓡); span = λ κs. κs.1.0; tight = λ w κs a g h o p. (outlives w (κs.1.0 ⊑ T.lives), (plain w result).1) }

  pub of_put : GenericPromise T
  of_put = record { ended = ended (places.put.signature T) (yes, (yes, (no, tt))); contract = λ M 𝓤 𝓛. places.put.clauses T C D 𝓛; name = _; code = _; kept = λ M 𝓤 𝓛 𝓜 𝓡 w. kept_places.put.Met.met 𝓤 𝓛 𝓜 𝓡 w T laws copy C D (met M 𝓤 𝓛 𝓜 𝓡); span = λ κs. κs.1.0; tight = λ w κs a g h o p. (outlives w (κs.1.0 ⊑ T.lives), (plain w buffer).1) }
