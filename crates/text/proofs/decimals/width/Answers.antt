-- `text::decimals::width` meets its contract: power by power of 10.
-- It rests on the laws of a number's digits.
use mathlib.Core.Path.{sym}
use native.Mathlib.Omega.{arith}
use Rattle.text.proofs.Digits.{width_one, width_is}
use Rattle.text.proofs.decimals.width.Goals as goal

pub returns-in-0-to-9 : goal.returns-in-0-to-9
returns-in-0-to-9 c = sym (width_one _ (omega arith))

pub returns-in-10-to-99 : goal.returns-in-10-to-99
returns-in-10-to-99 c = width_is 0 _ (omega arith) (omega arith)

pub returns-in-100-to-999 : goal.returns-in-100-to-999
returns-in-100-to-999 c = width_is 1 _ (omega arith) (omega arith)

pub returns-in-1000-to-9999 : goal.returns-in-1000-to-9999
returns-in-1000-to-9999 c = width_is 2 _ (omega arith) (omega arith)

pub returns-in-10000-to-99999 : goal.returns-in-10000-to-99999
returns-in-10000-to-99999 c = width_is 3 _ (omega arith) (omega arith)

pub returns-in-100000-to-999999 : goal.returns-in-100000-to-999999
returns-in-100000-to-999999 c = width_is 4 _ (omega arith) (omega arith)

pub returns-in-1000000-to-9999999 : goal.returns-in-1000000-to-9999999
returns-in-1000000-to-9999999 c = width_is 5 _ (omega arith) (omega arith)

pub returns-in-10000000-to-99999999 : goal.returns-in-10000000-to-99999999
returns-in-10000000-to-99999999 c = width_is 6 _ (omega arith) (omega arith)

pub returns-in-100000000-to-999999999 : goal.returns-in-100000000-to-999999999
returns-in-100000000-to-999999999 c = width_is 7 _ (omega arith) (omega arith)

pub returns-in_default : goal.returns-in_default
returns-in_default c = width_is 8 _ (omega arith) (omega (arith, c.ranges.n.fits))
