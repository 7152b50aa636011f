-- What Tight asks of an outcome is no more than its types do: behind a `&mut`, that the value has its machine value; of any other parameter, nothing.
-- Rests on the logic's formulas, which are data: what a parameter owns and leaves is read off them, so equal types have the same.
use mathlib.Core.Path.{◌≡◌, refl, sym, subst}
use mathlib.Core.List.{List, [], ◌∷◌}
use mir.Syntax.{Lifetime, Mutability, imm, mut, Ty, ty_int, ty_bool, ty_float, ty_ptr, ty_ref, ty_array, ty_unit, ty_struct, ty_enum, ty_named, ty_param, ty_const, ty_array_p}
use mir.Val.{Val}
use base.Stored.{Gv, gnil}
use base.Fml.{Lft, Fml, ftrue, ffalse, feq, flt, fsep, fand, for, fwand, fex, fall, fupd, fat, froom, fdies, flft, fdead, fobs, fauth, fres, fbor, fobor, flent, fshr_bor, fhide, fleft, fown, finv, fnamed, ftok, fkid, fme, fsent}
use base.Fraction.{full_share}
use denote.Exit.{yes, Last, left}
use denote.Shadow.{shadow}
use denote.RattleType.{RattleType}
use denote.Laws.{Is}
use denote.Memory.{part_of, raw_all, cell_raw}
use denote.Ref.{MutBor, MutRef}
use Rattle.promises.specs.Tight.{OfType}

-- ---- a `&mut`
-- what a formula is made of: two parts, the value under a name, and what it binds
record Parts : Type 1 where
  first : Fml
  second : Fml
  value : Gv
  bound : Type 0
  body : bound → Fml

abbrev none : Parts
none = record { first = ftrue; second = ftrue; value = gnil; bound = Unit {0}; body = λ x. ftrue }

abbrev tracked : Gv → Parts
tracked v = record { first = ftrue; second = ftrue; value = v; bound = Unit {0}; body = λ x. ftrue }

abbrev parts : Fml → Parts
parts ftrue = none
parts ffalse = none
parts (feq d x y) = none
parts (flt m n) = none
parts (fsep P Q) = record { first = P; second = Q; value = gnil; bound = Unit {0}; body = λ x. ftrue }
parts (fand P Q) = none
parts (for P Q) = none
parts (fwand P Q) = none
parts (fex d F) = record { first = ftrue; second = ftrue; value = gnil; bound = d; body = F }
parts (fall d F) = none
parts (fupd P) = none
parts (fat q τ b o v) = none
parts (froom τ b o) = none
parts (fdies τ b) = none
parts (flft κ q) = none
parts (fdead κ) = none
parts (fobs γ v) = none
parts (fauth γ v) = tracked v
parts (fres γ v) = tracked v
parts (fbor κ P) = record { first = P; second = ftrue; value = gnil; bound = Unit {0}; body = λ x. ftrue }
parts (fobor κ q P) = none
parts (flent κ P) = none
parts (fshr_bor κ Φ) = none
parts (fhide P) = none
parts (fleft q τ τs b o) = none
parts (fown R γ x) = none
parts (finv P) = none
parts (fnamed n P) = none
parts (ftok E) = none
parts (fkid h a) = none
parts (fme h) = none
parts (fsent t) = none

abbrev Left : Type 1
Left = (T : RattleType) × ((x : T.Denot) × Last (T.exit yes) x)

-- what a `&mut` borrows
abbrev lent : Left → Parts
lent l = parts (parts (parts (parts (l.0.own_val l.1.0 [])).second).second).first

-- it can hold what the `&mut` leaves
abbrev Held : Left → Type 0
Held l = (h : (lent l).bound) × (shadow (parts ((lent l).body h)).first × ((parts (parts ((lent l).body h)).second).value ≡ (parts (parts (left (l.0.exit yes) l.1.0 l.1.1)).first).value))

held_is : (ℓ : Lifetime) (κ : Lft) (R : RattleType) (x : MutBor R.Denot) (v : R.Denot) → Held (MutRef ℓ κ R, (x, v)) → (vs : List Val) × Is R v vs
unfolding part_of
held_is ℓ κ R x v p = subst (λ (h : R.Denot). (vs : List Val) × Is R h vs) (R.coded.inj p.0 v p.1.1) (p.1.0.0, p.1.0.1.1)

is_held : (ℓ : Lifetime) (κ : Lft) (R : RattleType) (τ : Ty) (x : MutBor R.Denot) (v : R.Denot) (m : Val) → R.mir ≡ τ ∷ [] → Is R v (m ∷ []) → Held (MutRef ℓ κ R, (x, v))
unfolding part_of
is_held ℓ κ R τ x v m e i = (v, ((m ∷ [], (subst (λ (τs : List Ty). shadow (cell_raw full_share (raw_all τs) (m ∷ []) x.ref_ptr.0 x.ref_ptr.1)) (sym e) tt, i)), refl))

pub behind : (ℓ : Lifetime) (κ : Lft) (R : RattleType) (τ : Ty) (x : MutBor R.Denot) (v : R.Denot) (m : Val) → R.mir ≡ τ ∷ [] → Is R v (m ∷ []) → OfType (MutRef ℓ κ R) x v
behind ℓ κ R τ x v m e i = record { stands = λ ℓ' κ' S y u p. held_is ℓ' κ' S y u (subst Held p (is_held ℓ κ R τ x v m e i)) }

-- ---- any other parameter
abbrev IsMut : Mutability → Type 0
IsMut imm = ⊥
IsMut mut = Unit {0}

abbrev IsMutRef : List Ty → Type 0
IsMutRef [] = ⊥
IsMutRef (ty_int w ∷ τs) = ⊥
IsMutRef (ty_bool ∷ τs) = ⊥
IsMutRef (ty_float f ∷ τs) = ⊥
IsMutRef (ty_ptr ∷ τs) = ⊥
IsMutRef (ty_ref ℓ μ τ ∷ τs) = IsMut μ
IsMutRef (ty_array τ n ∷ τs) = ⊥
IsMutRef (ty_unit ∷ τs) = ⊥
IsMutRef (ty_struct ν σs ∷ τs) = ⊥
IsMutRef (ty_enum ν σss ∷ τs) = ⊥
IsMutRef (ty_named ν ωs ∷ τs) = ⊥
IsMutRef (ty_param i ∷ τs) = ⊥
IsMutRef (ty_const i ∷ τs) = ⊥
IsMutRef (ty_array_p τ i ∷ τs) = ⊥

pub beside : (T : RattleType) (x : T.Denot) (v : Last (T.exit yes) x) → (IsMutRef T.mir → ⊥) → OfType T x v
beside T x v f = record { stands = λ ℓ κ R y u p. absurd (f (subst (λ (l : Left). IsMutRef l.0.mir) (sym p) tt)) }
