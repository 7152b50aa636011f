-- What it is for a promise to leave one result and one content of every buffer.
-- Rests on the logic's own notion of a contract: clauses over the arguments, the result and what every `&mut` holds last.
--
-- In plain words. A contract has two parts: what it requires of the caller, and what it ensures of the outcome. An outcome is what a
-- function leaves behind: its result, together with what each `&mut` holds when it returns.
--     Open       the contract requires nothing, so the function may be called with any arguments;
--     allows     this outcome is one that the contract ensures, for these arguments;
--     Typed      the outcome is one that a machine can have: an array in it has its length;
--     Coincide   if the contract allows two outcomes for the same arguments, they are equal;
--     Tight      it is Open, and any two Typed outcomes Coincide;
--     Keeps      the compiled function meets the contract: so there is an outcome, and by Tight only one.
-- A Promise is a contract that is kept and tight. For example, `result ≡ is_sound s` is tight: two results that equal `is_sound s` are equal.
-- `result ≤ 24` would not be: it allows 3 and 4. The rest of this file is these words in the logic's own terms, where w is any model of the
-- logic, κs are lifetimes, a the arguments, g and h the ghosts of a contract (all of ours are the unit) and o, p outcomes.
use Rattle.std.specs.Prelude.{ℕ, ◌≡◌, List, [], ◌∷◌}
use seplogic.Ra.Ura.{Ura}
use mir.Syntax.{Lifetime, Callee}
use mir.Val.{Val}
use base.Logic.{SProp, ent, emp}
use base.Fml.{Lft}
use prog.Memory.{Memory}
use prog.Model.{Model}
use prog.Routine.{Routine}
use prog.Wired.{Wired, Code}
use types.Logic.{Logic}
use contract.Monad.{Fun, conj, fact}
use contract.BorrowLft.{◌⊑◌}
use contract.Lifetimes.{Lfts}
use contract.Running.{Running}
use denote.Exit.{yes, Last}
use denote.RattleType.{RattleType, Denots}
use denote.Laws.{Is}
use denote.Ref.{MutBor, MutRef}
use denote.Signature.{Signature, Slot, types_at}
use denote.Triple.Entry.{Args, Res}
use denote.Triple.End.{all, Fins}
use denote.Triple.Spec.{Meets}
use denote.Triple.Clauses.{Ended, Lasts, at_exit, Clauses, closing}
use borrow.Fn.World.{World}

-- a signature, where the contract speaks of what every `&mut` holds last
abbrev pub told : Signature → Ended
told S = record { signature = S; kept = all yes S.params }

-- a function's contract, as its generated module has it: `F.clauses`, over `F.signature`
abbrev pub ContractOf : Ended → Type 2
ContractOf E = (M : Type 1) (𝓤 : Ura M) (𝓛 : Logic 𝓤) → (Memory → SProp 𝓤) → (Routine → Fun 𝓤) → Clauses 𝓤 E

abbrev pub Contract : Signature → Type 2
Contract S = ContractOf (told S)

-- v, which a parameter x of type T holds last, is of its type: if T is `&mut R`, whatever R is, v has machine values as an R.
-- So an array has its length. To the logic it is a list of any length, and a definition that reads a table need not look past its end.
pub record OfType (T : RattleType) (x : T.Denot) (v : Last (T.exit yes) x) : Type 2 where
  pub stands :
      (ℓ : Lifetime) (κ : Lft) (R : RattleType) (y : MutBor R.Denot) (u : R.Denot) →
      ◌≡◌ {A = (T : RattleType) × ((x : T.Denot) × Last (T.exit yes) x)} (T, (x, v)) (MutRef ℓ κ R, (y, u)) →
      (vs : List Val) × Is R u vs

abbrev pub AllOfType : {n : ℕ} (κs : Lfts n) (ss : List (Slot n)) (a : Denots (types_at ss κs)) → Fins κs ss (all yes ss) a → Type 2
AllOfType κs [] a vs = Unit {2}
AllOfType κs (s ∷ ss) a vs = OfType (s.row κs) a.0 vs.0 × AllOfType κs ss a.1 vs.1

module _ (E : Ended) (c : ContractOf E) where
  -- the function of this name keeps the contract wherever its name stands for its code, at every model of the logic: what `F.Met` shows
  abbrev pub Keeps : Callee → Code → Type 2
  Keeps name code =
      (M : Type 1) (𝓤 : Ura M) (𝓛 : Logic 𝓤) (𝓜 : Model 𝓤 𝓛.H) (𝓡 : Running 𝓤 𝓛.H 𝓜) → Wired 𝓡.env code →
      Meets 𝓛 E.signature (𝓡.run (𝓡.env name))
      (closing 𝓛 E (c M 𝓤 𝓛 𝓜.mem 𝓡.returns))

  -- a result, and what every `&mut` holds last
  abbrev pub Outcome : (κs : Lfts E.signature.lifetimes) → Args E.signature κs → Type 0
  Outcome κs a = Res E.signature κs × Lasts E κs a

  abbrev pub clauses : (w : World) → Clauses w.𝓤 E
  clauses w = c w.M w.𝓤 w.𝓛 w.𝓜.mem w.𝓡.returns

  abbrev pub allows :
      (w : World) (κs : Lfts E.signature.lifetimes) (a : Args E.signature κs) → (clauses w κs a).ghost → Outcome κs a → SProp w.𝓤
  allows w κs a g o = (clauses w κs a).ensures g o.0 (at_exit E κs a o.1)

  -- the contract asks nothing of the caller,
  abbrev pub Open : (w : World) (κs : Lfts E.signature.lifetimes) (a : Args E.signature κs) → (clauses w κs a).ghost → Type 1
  Open w κs a g = ent w.𝓤 (emp w.𝓤) ((clauses w κs a).requires g)

  -- and two outcomes that it allows for the same arguments coincide,
  abbrev pub Coincide :
      (w : World) (κs : Lfts E.signature.lifetimes) (a : Args E.signature κs) (g h : (clauses w κs a).ghost) → Outcome κs a → Outcome κs a → Type 1
  Coincide w κs a g h o p = ent w.𝓤 (conj w.𝓤 (allows w κs a g o) (allows w κs a h p)) (fact w.𝓤 (o ≡ p))

module _ (S : Signature) (c : Contract S) where
  abbrev pub Typed : (κs : Lfts S.lifetimes) (a : Args S κs) → Outcome (told S) c κs a → Type 2
  Typed κs a o = AllOfType κs S.params a o.1

  -- if the types allow both
  abbrev pub Tight : Type 2
  Tight =
      (w : World) (κs : Lfts S.lifetimes) (a : Args S κs) (g h : (clauses (told S) c w κs a).ghost) (o p : Outcome (told S) c κs a) →
      Open (told S) c w κs a g × (Typed κs a o → Typed κs a p → Coincide (told S) c w κs a g h o p)

-- a function's promise: a contract that its code keeps, and that is tight
pub record Promise : Type 3 where
  pub signature : Signature
  pub contract : Contract signature
  pub name : Callee
  pub code : Code
  pub kept : Keeps (told signature) contract name code
  pub tight : Tight signature contract

-- that of a function with a type parameter T, at each type. All that it asks is that values of T last for one lifetime of its signature, `span`, which
-- the compiler picks: no longer than the borrow that it lends them for, and each row says which it is. A type that borrows nothing meets it of itself
-- (proofs/Generic). Of a parameter by value of that type it says nothing at the end.
pub record GenericPromise (T : RattleType) : Type 3 where
  pub ended : Ended
  pub contract : ContractOf ended
  pub name : Callee
  pub code : Code
  pub kept : Keeps ended contract name code
  pub span : Lfts ended.signature.lifetimes → Lft
  pub tight :
      (w : World) (κs : Lfts ended.signature.lifetimes) (a : Args ended.signature κs) (g h : (clauses ended contract w κs a).ghost) (o p : Outcome ended contract κs a) →
      (span κs ⊑ T.lives → Open ended contract w κs a g) × Coincide ended contract w κs a g h o p
