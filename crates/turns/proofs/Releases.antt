-- A successful release is one thing in parts A and C of specs/Statements: a release that is accepted is answered with 0, and nothing else releases.
-- It goes by the ways of ways.
use mathlib.Core.Path.{◌≡◌, refl, sym}
use mathlib.Core.Bool.{Bool, false, not, ◌&&◌}
use Prim.Native.Nat.{ℕ, ◌≤◌}
use native.Mathlib.Omega.{arith}
use lib.Dec.{T as So, eqb}
use lib.IntN.{ℤ, pos, negsuc}
use borrow.Author.Tests.{ne_eqb}
use Rattle.model.specs.declared.State.{State}
use Rattle.model.specs.declared.Plan.{Plan}
use Rattle.model.specs.declared.Effect.{Effect}
use Rattle.model.specs.declared.Code.{Code}
use Rattle.model.specs.Code.{number, is_negative, is_refusal}
use Rattle.model.specs.Call.{step}
use Rattle.ways.specs.Kind.{Kind, is_release_of}
use Rattle.ways.specs.Entry.{Entry}
use Rattle.turns.specs.Tally.{released_by, is_zero}
use Rattle.turns.specs.Statements.{SameReleases}
use Rattle.ways.proofs.Done.{at_once, by_poll, Done, Way, refuses, accepts}
use Rattle.ways.proofs.Done.{Done as Ways}
use Rattle.ways.proofs.Ways.{way}

-- a refusal is a release in neither part
refused_neither : (z : ℤ) (a b : Bool) → So (is_negative z) → not (is_negative z) && a ≡ is_zero z && b
refused_neither (pos n) a b h = absurd h
refused_neither (negsuc n) a b h = refl

module _ (s : State) (m : ℕ) (some : 1 ≤ m) where
  none_of_m : eqb 0 m ≡ false
  none_of_m = ne_eqb 0 m (λ z. omega arith)

  alike_done : {v : ℕ} {j : Kind} {i : Entry} {c : Code} {x : Effect} → Done s v j i c x → not (is_refusal c) && is_release_of m j ≡ is_zero (number c) && eqb (released_by i) m
  alike_done Ways.ticks = sym none_of_m
  alike_done (Ways.exits runs) = sym none_of_m
  alike_done (Ways.terminates u low top made) = sym none_of_m
  alike_done (Ways.forces u low top waits) = sym none_of_m
  alike_done (Ways.slices l v low top) = sym none_of_m
  alike_done (Ways.serves n made first) = refl
  alike_done (Ways.raises n made free less) = refl
  alike_done (Ways.deletes n made) = sym none_of_m
  alike_done Ways.keeps = sym none_of_m
  alike_done (Ways.moves t x n c) = sym none_of_m
  alike_done (Ways.waits w runs b) = refl
  alike_done (Ways.creates n v w low top most some few free) = sym none_of_m
  alike_done (Ways.takes n made left at_once) = sym none_of_m
  alike_done (Ways.takes n made left by_poll) = sym none_of_m
  alike_done (Ways.flags f b c r) = sym none_of_m
  alike_done (Ways.tells f w b c made t) = sym none_of_m
  alike_done (Ways.opens q c low top most free) = sym none_of_m
  alike_done (Ways.removes q made) = sym none_of_m
  alike_done (Ways.hands q e made side) = sym none_of_m
  alike_done (Ways.stores q e made none room) = sym none_of_m
  alike_done (Ways.gets q made r) = sym none_of_m

  alike : {j : Kind} {i : Entry} {p : Plan} → Way s j i p → not (is_refusal p.code) && is_release_of m j ≡ is_zero (number p.code) && eqb (released_by i) m
  alike {j} {i} (refuses c n d) = refused_neither (number c) (is_release_of m j) (eqb (released_by i) m) n
  alike (accepts c v x n d done) = alike_done done

pub same_releases : SameReleases
unfolding step
same_releases s a m some = alike s m some (way s a.0 a.1)
