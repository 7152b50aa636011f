-- The runner's signed number as the program takes it apart: below 0 its opposite is printed, else that many bytes are written.
-- Rests on how large the runner's numbers can be.
use mathlib.Core.Path.{◌≡◌, sym, ap, subst, ◌∙◌}
use mathlib.Core.Bool.{Bool, true, false, not}
use mathlib.Core.List.{List}
use native.Mathlib.Omega.{arith}
use Prim.Native.Nat.{ℕ, suc, ◌+◌, ◌<◌, ◌≤◌, ◌^◌}
use lib.Dec.{T as So, ltb→lt}
use lib.IntN.{ℤ, pos, negsuc, nat_abs, ◌-ℤ◌}
use lib.Signed.{lt_z, non_neg}
use lib.ListN.{length}
use borrow.Author.Rules.{sfits_of}
use mir.Syntax.{w32, w64}
use mir.Val.{Fits, SFits, to_z, of_z}
use mir.Facts.{to_z-of_z}
use Rattle.text.specs.Decimal.{decimal}
use Rattle.text.proofs.Digits.{width_most}
use Rattle.model.specs.Code.{minus}
use Rattle.std.specs.Prelude.{Result, Ok, Err}
use Rattle.runner.specs.declared.Refusal.{Refusal}
use Rattle.runner.specs.declared.Refusal.TheVariants.{TooLong, Unreadable, Short}
use Rattle.runner.specs.Outcome.{Small, ran_of, signed_of}
use Rattle.runner.proofs.Signed as ran

-- at most the buffer's bytes, or not far below 0
Near : ℤ → ℕ → Type 0
Near (pos n) room = n ≤ room
Near (negsuc n) room = n < 2 ^ 31

near : (r : Result ℕ Refusal) (room : ℕ) → ran.Fits r room → Small r → Near (signed_of r) room
unfolding Near
near (Ok n) room h k = h
near (Err TooLong) room h k = omega arith
near (Err Short) room h k = omega arith
near (Err (Unreadable l)) room h k = let e : l + 10 ≡ suc (l + 9) = omega arith in subst (λ (n : ℕ). Near (minus n) room) (sym e) (omega arith)

module _ (file : List ℕ) (room : ℕ) (few : room < 2 ^ 62) (z : ℤ) (e : z ≡ signed_of (ran_of file room)) where
  small : Near z room
  small = rw e (near (ran_of file room) room (ran.fits file room) (ran.small file room (omega arith)))

  -- the machine reads back what was returned
  same : to_z w64 (of_z w64 z) ≡ z
  unfolding Near
  same = to_z-of_z (go z small)
    where
      go : (y : ℤ) → Near y room → SFits w64 y
      go (pos n) h = sfits_of (omega arith)
      go (negsuc n) h = sfits_of (omega arith)

  -- a test of what was read back is one of the number
  told : (b : Bool) → lt_z (to_z w64 (of_z w64 z)) (pos 0) ≡ b → lt_z z (pos 0) ≡ b
  told b h = ap (λ (y : ℤ). lt_z y (pos 0)) (sym same) ∙ h

  opposite : So (lt_z z (pos 0)) → (SFits w64 (pos 0 -ℤ z)) × ((So (non_neg (pos 0 -ℤ z))) × Fits w32 (nat_abs (pos 0 -ℤ z)))
  unfolding Near
  opposite h = go z small h
    where
      go : (y : ℤ) → Near y room → So (lt_z y (pos 0)) → (SFits w64 (pos 0 -ℤ y)) × ((So (non_neg (pos 0 -ℤ y))) × Fits w32 (nat_abs (pos 0 -ℤ y)))
      go (pos n) h g = absurd (omega (arith, ltb→lt n 0 g))
      go (negsuc n) h g = (sfits_of (omega arith), (tt, record { fits = omega arith }))

  pub opposite_fits : lt_z (to_z w64 (of_z w64 z)) (pos 0) ≡ true → SFits w64 (pos 0 -ℤ to_z w64 (of_z w64 z))
  opposite_fits h = rw same (opposite (rw (told true h) tt)).0

  pub opposite_casts : lt_z (to_z w64 (of_z w64 z)) (pos 0) ≡ true → (So (non_neg (to_z w64 (of_z w64 (pos 0 -ℤ to_z w64 (of_z w64 z)))))) × Fits w32 (nat_abs (to_z w64 (of_z w64 (pos 0 -ℤ to_z w64 (of_z w64 z)))))
  opposite_casts h = let o = opposite (rw (told true h) tt) in rw (same, to_z-of_z o.0) o.1

  -- so it has ten digits at most
  pub opposite_few : lt_z (to_z w64 (of_z w64 z)) (pos 0) ≡ true → length (decimal (nat_abs (to_z w64 (of_z w64 (pos 0 -ℤ to_z w64 (of_z w64 z)))))) ≤ 10
  opposite_few h = width_most 9 (nat_abs (to_z w64 (of_z w64 (pos 0 -ℤ to_z w64 (of_z w64 z))))) (omega (arith, (opposite_casts h).1.fits))

  bytes : So (not (lt_z z (pos 0))) → (So (non_neg z)) × (nat_abs z ≤ room)
  unfolding Near
  bytes h = go z small h
    where
      go : (y : ℤ) → Near y room → So (not (lt_z y (pos 0))) → (So (non_neg y)) × (nat_abs y ≤ room)
      go (pos n) h g = (tt, h)
      go (negsuc n) h g = absurd g

  pub bytes_fit : lt_z (to_z w64 (of_z w64 z)) (pos 0) ≡ false → nat_abs (to_z w64 (of_z w64 z)) ≤ room
  bytes_fit h = rw same (bytes (rw (told false h) tt)).1

  pub bytes_cast : lt_z (to_z w64 (of_z w64 z)) (pos 0) ≡ false → (So (non_neg (to_z w64 (of_z w64 z)))) × Fits w64 (nat_abs (to_z w64 (of_z w64 z)))
  bytes_cast h = let b = bytes (rw (told false h) tt) in rw same (b.0, record { fits = omega (arith, b.1) })
