-- A number taken from 0 in a signed type of any width: it fits, and the machine reads back the paper's `minus` of it.
-- Rests on `minus` of model/specs/Code and the logic's signed reading of bits.
use mathlib.Core.Path.{◌≡◌, refl, ap, ◌∙◌}
use Prim.Native.Nat.{ℕ, zero, suc, ◌<◌, ◌^◌}
use native.Mathlib.Omega.{arith}
use lib.IntN.{ℤ, pos, negsuc, ◌-ℤ◌}
use borrow.Author.Tests.{lt-ltb}
use borrow.Author.Rules.{sfits_of}
use mir.Syntax.{Width}
use mir.Val.{hbits, to_z, of_z, SFits}
use mir.Facts.{to_z_pos, to_z-of_z}
use Rattle.model.specs.Code.{minus}

from_0 : (k : ℕ) → pos 0 -ℤ pos k ≡ minus k
from_0 zero = refl
from_0 (suc k) = simp (lt-ltb 0 (suc k) (omega arith)) (ap negsuc (omega arith))

pub minus_fits : (w : Width) (k : ℕ) → k < 2 ^ hbits w → SFits w (minus k)
minus_fits w zero h = sfits_of h
minus_fits w (suc k) h = sfits_of (omega arith)

module _ (w : Width) (k : ℕ) (h : k < 2 ^ hbits w) where
  negated : pos 0 -ℤ to_z w k ≡ minus k
  negated = ap (λ (z : ℤ). pos 0 -ℤ z) (to_z_pos w h) ∙ from_0 k

  pub negated_fits : SFits w (pos 0 -ℤ to_z w k)
  negated_fits = rw negated (minus_fits w k h)

  pub negated_back : to_z w (of_z w (pos 0 -ℤ to_z w k)) ≡ minus k
  negated_back = to_z-of_z negated_fits ∙ negated
