-- The codes that no call answers in a bench row: how a wait ended, and UNSOUND. What a record keeps of a wait is the number of that code
-- without its sign.
use mathlib.Core.Path.{◌≡◌, refl}
use Rattle.model.specs.declared.Code.TheVariants.{NoErr, Timeout, Dlt, Released, Unsound}
use Rattle.model.specs.Task.{served, timeout, dlt, released}
use Rattle.model.specs.Code.{minus, number, wait_number}

pub waits : (number NoErr ≡ wait_number served) × (number Timeout ≡ wait_number timeout) × (number Dlt ≡ wait_number dlt) × (number Released ≡ wait_number released)
waits = (refl, refl, refl, refl)

pub unsound : number Unsound ≡ minus 12
unsound = refl
