-- What the loop of `text::words::begins` keeps: what is the same so far and what is left of both decide.
use Prim.Native.Nat.{◌≤◌}
use mathlib.Core.Path.{◌≡◌}
use mathlib.Core.Bool.{◌&&◌}
use lib.ListN.{length}
use Rattle.std.specs.Iterator.Adapters.{zip_first, zip_second}
use Rattle.std.specs.Slice.Iter.{iter_rest}
use Rattle.text.specs.Bytes.{begins}
use Rattle.text.proofs.words.begins.Given as goal

abbrev pub invariant-loop-x : goal.invariant-loop-x
invariant-loop-x l =
    let s = iter_rest (zip_first l.x-iterator) in
    let t = iter_rest (zip_second l.x-iterator) in
    (length t ≤ length s) × (l.same && begins s t ≡ begins l.s l.t)
