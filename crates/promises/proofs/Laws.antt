-- The law behind every row of the table: what equals the same is the same, and so is what is read off it.
-- Rests on the statement in specs/Tight.
use mathlib.Core.Path.{◌≡◌, sym, ◌∙◌, ap}
use mir.Syntax.{Callee}
use prog.Wired as wired
use base.Logic.{ent, emp, sep, via, fst∗, snd∗, id⊢}
use contract.Monad.{conj, conj_l, conj_r, fact, fact_i, fact_use}
use contract.Lifetimes.{Lfts}
use denote.Signature.{Signature}
use denote.Triple.Entry.{Args}
use borrow.Fn.World.{World}
use Rattle.std.specs.Prelude.{Result, Ok, Err}
use Rattle.model.specs.declared.Code.{Code}
use Rattle.model.specs.declared.Plan.{Plan}
use Rattle.checks.specs.Gate.{plan_of, IsDecision}
use Rattle.promises.specs.Decision.{decision_of, OneEquation}
use Rattle.promises.specs.Tight.{told, Contract, Keeps, Outcome, clauses, Open, Coincide, Promise}

-- a row whose outcomes coincide, of their types or not
abbrev pub of :
    (S : Signature) (c : Contract S) {name : Callee} (code : wired.Code) → Keeps (told S) c name code →
    ((w : World) (κs : Lfts S.lifetimes) (a : Args S κs) (g h : (clauses (told S) c w κs a).ghost) (o p : Outcome (told S) c κs a) → Open (told S) c w κs a g × Coincide (told S) c w κs a g h o p) →
    Promise
of S c {name} code k t = record { signature = S; contract = c; name = name; code = code; kept = k; tight = λ w κs a g h o p. ((t w κs a g h o p).0, λ i j. (t w κs a g h o p).1) }

-- a contract that asks nothing and is one plain fact: φ of one outcome, χ of the other
pub plain : (w : World) {φ χ ψ : Type 0} → (φ → χ → ψ) → ent w.𝓤 (emp w.𝓤) (emp w.𝓤) × ent w.𝓤 (conj w.𝓤 (fact w.𝓤 φ) (fact w.𝓤 χ)) (fact w.𝓤 ψ)
plain w {φ} {χ} {ψ} h = (
  id⊢ w.𝓤 (emp w.𝓤),
  fact_use w.𝓤 φ (conj_l w.𝓤 (fact w.𝓤 φ) (fact w.𝓤 χ)) (λ p.
      fact_use w.𝓤 χ (conj_r w.𝓤 (fact w.𝓤 φ) (fact w.𝓤 χ)) (λ q.
      fact_i w.𝓤 ψ (conj w.𝓤 (fact w.𝓤 φ) (fact w.𝓤 χ)) (h p q))),
)

-- the same of a contract that is two plain facts
pub twofold : (w : World) {φ φ₂ χ χ₂ ψ : Type 0} → (φ → φ₂ → χ → χ₂ → ψ)
    → ent w.𝓤 (emp w.𝓤) (emp w.𝓤) × ent w.𝓤 (conj w.𝓤 (sep w.𝓤 (fact w.𝓤 φ) (fact w.𝓤 φ₂)) (sep w.𝓤 (fact w.𝓤 χ) (fact w.𝓤 χ₂))) (fact w.𝓤 ψ)
twofold w {φ} {φ₂} {χ} {χ₂} {ψ} h =
    let l = sep w.𝓤 (fact w.𝓤 φ) (fact w.𝓤 φ₂) in
    let r = sep w.𝓤 (fact w.𝓤 χ) (fact w.𝓤 χ₂) in (
      id⊢ w.𝓤 (emp w.𝓤),
      fact_use w.𝓤 φ (via w.𝓤 l (conj_l w.𝓤 l r) (fst∗ w.𝓤 (fact w.𝓤 φ) (fact w.𝓤 φ₂))) (λ p.
          fact_use w.𝓤 φ₂ (via w.𝓤 l (conj_l w.𝓤 l r) (snd∗ w.𝓤 (fact w.𝓤 φ) (fact w.𝓤 φ₂))) (λ p₂.
          fact_use w.𝓤 χ (via w.𝓤 r (conj_r w.𝓤 l r) (fst∗ w.𝓤 (fact w.𝓤 χ) (fact w.𝓤 χ₂))) (λ q.
          fact_use w.𝓤 χ₂ (via w.𝓤 r (conj_r w.𝓤 l r) (snd∗ w.𝓤 (fact w.𝓤 χ) (fact w.𝓤 χ₂))) (λ q₂.
          fact_i w.𝓤 ψ (conj w.𝓤 l r) (h p p₂ q q₂))))),
    )

-- ---- x of one outcome and y of the other equal the definition's d; the outcome is read off
pub fixed : {A O : Type 0} {x y d : A} (off : A → O) → x ≡ d → y ≡ d → off x ≡ off y
fixed off p q = ap off (p ∙ sym q)

-- the result, where nothing is lent to be changed
pub result : {A U : Type 0} {r s d : A} {u : U} → r ≡ d → s ≡ d → ◌≡◌ {A = A × U} (r, u) (s, u)
result {u = u} = fixed (λ r. (r, u))

-- the same, where a bound of it is promised too
pub bounded : {A U X Y : Type 0} {r s d : A} {u : U} → (r ≡ d) × X → (s ≡ d) × Y → ◌≡◌ {A = A × U} (r, u) (s, u)
bounded p q = result p.0 q.0

-- what the first argument holds, where nothing is returned and no other is lent to be changed
pub buffer : {A U : Type 0} {q s d : A} {u : U} → q ≡ d → s ≡ d → ◌≡◌ {A = Unit {0} × (A × U)} (tt, (q, u)) (tt, (s, u))
buffer {u = u} = fixed (λ q. (tt, (q, u)))

-- what the first two hold, each by an equation of its own
pub buffers : {A B U : Type 0} {q s d : A} {v w e : B} {u : U} → (q ≡ d) × (v ≡ e) → (s ≡ d) × (w ≡ e) → ◌≡◌ {A = Unit {0} × (A × (B × U))} (tt, (q, (v, u))) (tt, (s, (w, u)))
buffers {u = u} p q i = (tt, (fixed (λ x. x) p.0 q.0 i, (fixed (λ x. x) p.1 q.1 i, u)))

-- the result and what the first holds, each by an equation of its own
pub both : {A B U : Type 0} {r s d : A} {q t e : B} {u : U} → (r ≡ d) × (q ≡ e) → (s ≡ d) × (t ≡ e) → ◌≡◌ {A = A × (B × U)} (r, (q, u)) (s, (t, u))
both {u = u} p q i = (fixed (λ x. x) p.0 q.0 i, (fixed (λ x. x) p.1 q.1 i, u))

-- the same, where the promise says something else besides
pub besides : {A B U X Y : Type 0} {r s d : A} {q t e : B} {u : U} → (r ≡ d) × ((q ≡ e) × X) → (s ≡ d) × ((t ≡ e) × Y) → ◌≡◌ {A = A × (B × U)} (r, (q, u)) (s, (t, u))
besides p q = both (p.0, p.1.0) (q.0, q.1.0)

-- the result and what the second holds, where the first is only read
pub answer : {A B U : Type 0} {r s d : A} {q t e : B} {u : U} → (r ≡ d) × (q ≡ e) → (s ≡ d) × (t ≡ e) → ◌≡◌ {A = A × (Unit {0} × (B × U))} (r, (tt, (q, u))) (s, (tt, (t, u)))
answer {u = u} p q i = (fixed (λ x. x) p.0 q.0 i, (tt, (fixed (λ x. x) p.1 q.1 i, u)))

-- a decision: its two clauses, which plan it comes to and that its code says whether it is accepted, give one equation of the result
one : (r : Result Plan Code) (d : Plan) → plan_of r ≡ d → IsDecision r → r ≡ decision_of d
one (Ok p) d e h = rw (← e, h)
one (Err c) d e h = rw (← e, h)

pub one_equation : OneEquation
one_equation = one

pub decided : {U : Type 0} {r s : Result Plan Code} {d : Plan} {u : U} → plan_of r ≡ d → IsDecision r → plan_of s ≡ d → IsDecision s → ◌≡◌ {A = Result Plan Code × U} (r, u) (s, u)
decided {r = r} {s = s} {d = d} p h q k = result (one r d p h) (one s d q k)

-- the result and what the first holds, both read off what the promise fixes
pub answers : {R S A U : Type 0} (result_of : A → R) (held_of : A → S) {r s : A} (x y : A) {d : A} {u : U}
    → r ≡ d → s ≡ d → ◌≡◌ {A = R × (S × U)} (result_of r, (held_of r, u)) (result_of s, (held_of s, u))
answers result_of held_of x y {u = u} = fixed (λ z. (result_of z, (held_of z, u)))
