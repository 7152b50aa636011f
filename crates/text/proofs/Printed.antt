-- The theorems of specs/Statement: a text that is put into a buffer stands in its places, and every other byte stays; two printers are refuted.
-- They rest on Stores and on the digits' count.
use Prim.Native.Nat.{ℕ, zero, suc, ◌+◌, ◌<◌, ◌≤◌}
use mathlib.Core.Path.{◌≡◌, refl, ◌∙◌}
use mathlib.Core.Logic.{inl, inr}
use mathlib.Core.Bool.{Bool, true, false, cond}
use mathlib.Core.List.{List, [], ◌∷◌}
use native.Mathlib.Omega.{arith}
use native.Mathlib.Decide.{dec_le}
use lib.Dec.{leb}
use lib.ListN.{length, get_or, set, length-set, replicate}
use lib.Seq.{sets, get_or-set_same, get_or-set_other}
use Rattle.text.specs.Bytes.{put}
use Rattle.text.specs.Decimal.{decimal, decimal_in}
use Rattle.text.specs.Statement.{Outside, OthersStay, TextStands, LengthStays, FewPlaces, NumberAlone, FillingRefuted, EndingRefuted}
use Rattle.text.proofs.Digits.{width_one, width_step, width_most}
use Rattle.text.proofs.Stores.{put_room, length-put}

sets_outside : (t l : List ℕ) (at i : ℕ) → Outside at (length t) i → get_or (sets l at t) i 0 ≡ get_or l i 0
sets_outside [] l at i o = refl
sets_outside (x ∷ t) l at i (inl h) = sets_outside t (set l at x) (suc at) i (inl (omega arith)) ∙ get_or-set_other l at i x 0 (λ e. omega arith)
sets_outside (x ∷ t) l at i (inr h) = sets_outside t (set l at x) (suc at) i (inr (omega arith)) ∙ get_or-set_other l at i x 0 (λ e. omega arith)

pub others_stay : OthersStay
unfolding put
others_stay buf at t i o = go (leb (at + length t) (length buf))
  where
    go : (b : Bool) → get_or (cond b (sets buf at t) buf) i 0 ≡ get_or buf i 0
    go true = sets_outside t buf at i o
    go false = refl

sets_inside : (t l : List ℕ) (at i : ℕ) → at + length t ≤ length l → i < length t → get_or (sets l at t) (at + i) 0 ≡ get_or t i 0
sets_inside [] l at i h g = absurd (omega arith)
sets_inside (x ∷ t) l at zero h g =
    let e : at + 0 ≡ at = omega arith in
    rw e (sets_outside t (set l at x) (suc at) at (inl (omega arith)) ∙ get_or-set_same l at x 0 (omega arith))
sets_inside (x ∷ t) l at (suc i) h g =
    let e : at + suc i ≡ suc at + i = omega arith in
    rw e (sets_inside t (set l at x) (suc at) i (omega (arith, length-set l at x)) (omega arith))

pub text_stands : TextStands
text_stands buf at t i h g = rw (put_room buf at t h) (sets_inside t buf at i h g)

pub length_stays : LengthStays
length_stays buf at t = length-put buf at t

pub few_places : FewPlaces
few_places n h = (go (dec_le n 9), width_most 9 n (omega arith))
  where
    go : Dec (n ≤ 9) → 1 ≤ length (decimal n)
    go (yes p) = omega (arith, width_one n p)
    go (no p) = omega (arith, width_step n (omega arith))

pub number_alone : NumberAlone
number_alone buf at n i o = others_stay buf at (decimal n) i o

-- a 7 in ten places of ones
pub filling_refuted : FillingRefuted
unfolding put decimal decimal_in
filling_refuted h = let z : ◌≡◌ {A = ℕ} 48 1 = h (replicate 10 1) 0 7 5 (inr (omega arith)) in absurd (omega arith)

pub ending_refuted : EndingRefuted
unfolding put decimal decimal_in
ending_refuted h = let z : ◌≡◌ {A = ℕ} 0 1 = h (replicate 10 1) 0 7 1 (inr (omega arith)) in absurd (omega arith)
