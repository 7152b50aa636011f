-- What the loop of `text::decimals::put_decimal` keeps.
use Rattle.text.proofs.Backwards.{Held}
use Rattle.text.proofs.decimals.put_decimal.Given as goal

abbrev pub invariant-loop-k : goal.invariant-loop-k
invariant-loop-k l = Held l.initial.buf l.at l.n l.buf l.k l.rest
