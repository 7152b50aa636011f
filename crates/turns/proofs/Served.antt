-- Part A of specs/Statements: a waiter is served by its turn, or its wait ends sooner.
-- It rests on what a call does to a waiter (Outcome) and goes by induction on the calls.
use mathlib.Core.Path.{◌≡◌, refl}
use mathlib.Core.Bool.{Bool, true, false, not}
use mathlib.Core.List.{List, [], ◌∷◌}
use Prim.Native.Nat.{ℕ, zero, suc, ◌+◌, ◌≤◌}
use native.Mathlib.Omega.{arith}
use lib.Dec.{T as So}
use Rattle.model.specs.declared.State.{State}
use Rattle.model.specs.declared.Context.{Context}
use Rattle.model.specs.declared.Call.{Call}
use Rattle.model.specs.Row.{place}
use Rattle.model.specs.State.{waiters}
use Rattle.model.specs.Call.{planned, step}
use Rattle.model.specs.Test.{one}
use Rattle.model.specs.Sound.{Sound}
use Rattle.soundness.proofs.Soundness.{sound_stays_sound}
use Rattle.ways.specs.Kind.{kind}
use Rattle.turns.specs.Statements as Say
use Rattle.turns.specs.Tally.{Kernel}
use Rattle.turns.specs.Statements.{next, is_release, releases, WaitsOn, HoldsBy, WaitersAreServed, has_ended, ServedInTime}
use Rattle.ways.proofs.Ways.{way}
use Rattle.turns.proofs.Outcome.{Outcome, waits, holds, lapses, forced, stops, deletes, outcome}

held : (m t : ℕ) → 1 ≤ m → m ≤ 12 → (calls : List (Context × Call)) (s : State) (n : ℕ) → Sound s → WaitsOn s m t → place (waiters s m) t + 1 ≤ n
    → HoldsBy step m t n s calls
unfolding step
held m t h top [] s zero k e turn = absurd (omega arith)
held m t h top [] s (suc n) k e turn = Say.still e
held m t h top (a ∷ rest) s n k e turn =
    go (outcome s k m t h top e (way s a.0 a.1)) (λ j. held m t h top rest (next step s a) j (sound_stays_sound s a.0 a.1 k))
  where
    goes : (b : Bool) (n : ℕ) → is_release step s a m ≡ b → WaitsOn (next step s a) m t → place (waiters (next step s a) m) t + one b + 1 ≤ n
        → ((j : ℕ) → WaitsOn (next step s a) m t → place (waiters (next step s a) m) t + 1 ≤ j → HoldsBy step m t j (next step s a) rest)
        → HoldsBy step m t n s (a ∷ rest)
    goes b zero y w turn more = absurd (omega arith)
    goes true (suc n) y w turn more = let r : So (is_release step s a m) = rw y tt in Say.passes r w (more n w (omega arith))
    goes false (suc n) y w turn more = let r : So (not (is_release step s a m)) = rw y tt in Say.waits r w (more (suc n) w (omega arith))

    -- a turn that is still to come is not the 0-th
    some : (n : ℕ) → 1 ≤ n → ((j : ℕ) → HoldsBy step m t (suc j) s (a ∷ rest)) → HoldsBy step m t n s (a ∷ rest)
    some zero low here = absurd (omega arith)
    some (suc j) low here = here j

    go : Outcome s m t (kind a.1) (planned s a.0 a.1).code (planned s a.0 a.1).effect
        → ((j : ℕ) → WaitsOn (next step s a) m t → place (waiters (next step s a) m) t + 1 ≤ j → HoldsBy step m t j (next step s a) rest)
        → HoldsBy step m t n s (a ∷ rest)
    go (waits w p) more = goes (is_release step s a m) n refl w (omega arith) more
    go (holds r d) more = some n (omega arith) (λ j. Say.holds r d)
    go (lapses ok y d) more = some n (omega arith) (λ j. Say.sooner (Say.by_timeout (record { accepted = ok; is = y }) d))
    go (forced ok y d) more = some n (omega arith) (λ j. Say.sooner (Say.by_forced_release (record { accepted = ok; is = y }) d))
    go (stops ok y d) more = some n (omega arith) (λ j. Say.sooner (Say.by_termination (record { accepted = ok; is = y }) d))
    go (deletes ok y d) more = some n (omega arith) (λ j. Say.sooner (Say.by_deletion (record { accepted = ok; is = y }) d))

pub waiters_are_served : WaitersAreServed step
waiters_are_served s calls m t p k h top e y = held m t h top calls s p k e (omega arith)

-- ---- of any kernel: each release that passes is one of the p
in_time : {k : Kernel} {m t n : ℕ} {s : State} {calls : List (Context × Call)} (h : HoldsBy k m t n s calls) → n ≤ releases k s calls m → So (has_ended h)
unfolding releases
in_time (Say.holds r d) enough = tt
in_time (Say.sooner d) enough = tt
in_time {k} {m} (Say.passes {n} {s} {a} {rest} r w d) enough = in_time d (go (is_release k s a m) r enough)
  where
    go : (b : Bool) → So b → suc n ≤ one b + releases k (next k s a) rest m → n ≤ releases k (next k s a) rest m
    go true g enough = omega arith
    go false g enough = absurd g
in_time {k} {m} (Say.waits {n} {s} {a} {rest} r w d) enough = in_time d (go (is_release k s a m) r enough)
  where
    go : (b : Bool) → So (not b) → suc n ≤ one b + releases k (next k s a) rest m → suc n ≤ releases k (next k s a) rest m
    go true g enough = absurd g
    go false g enough = omega arith
in_time (Say.still w) enough = absurd (omega arith)

pub served_in_time : (k : Kernel) → ServedInTime k
served_in_time k s calls m t p h enough = in_time h enough
