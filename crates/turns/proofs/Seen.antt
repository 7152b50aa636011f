-- The two bounds as tests that compute: what they refuse of a concrete run, the statements refuse.
-- They speak of specs/Statements; Instances shows with them that no smaller bound holds, and none without a proviso.
use mathlib.Core.Path.{◌≡◌, ap}
use mathlib.Core.Bool.{Bool, true, false, cond, not, ◌&&◌, ◌||◌}
use mathlib.Core.List.{List, [], ◌∷◌}
use Prim.Native.Nat.{ℕ, zero, suc, ◌≤◌}
use native.Mathlib.Omega.{arith}
use lib.Dec.{T as So, T_not as So-not, eqb}
use borrow.Author.Tests.{eq-eqb, ne_eqb}
use Rattle.model.specs.declared.State.{State}
use Rattle.model.specs.declared.Task.{Task}
use Rattle.model.specs.declared.Context.{Context}
use Rattle.model.specs.declared.Call.{Call}
use Rattle.model.specs.Row.{first_of}
use Rattle.model.specs.Task.{nothing, row_of}
use Rattle.model.specs.State.{task}
use Rattle.model.specs.Call.{step}
use Rattle.laws.proofs.Padded.{both}
use Rattle.ways.specs.Kind.{Kind, kind, tick, exit, other, terminate, forced_release, set_slice, release, deletion}
use Rattle.turns.specs.Statements.{next, Does, is_release, EndsSooner, by_timeout, by_forced_release, by_termination, by_deletion, HoldsBy, holds, sooner, passes, waits, still, is_charged, Each, none, each, FirstBy, first, charged, later}

-- ---- first by the n-th charged tick
unfoldable pub seen_first : ℕ → ℕ → ℕ → State → List (Context × Call) → Bool
seen_first l t n s [] = eqb (first_of s.levels l) t
seen_first l t zero s (a ∷ rest) = eqb (first_of s.levels l) t
seen_first l t (suc n) s (a ∷ rest) = eqb (first_of s.levels l) t || cond (is_charged step s a l) (seen_first l t n (next step s a) rest) (seen_first l t (suc n) (next step s a) rest)

or_right : (a b : Bool) → So b → So (a || b)
or_right true b h = tt
or_right false b h = h

pub seen_first_lem : {l t n : ℕ} {s : State} {calls : List (Context × Call)} → FirstBy step l t n s calls → So (seen_first l t n s calls)
unfolding seen_first
seen_first_lem {l} {t} (first {n} {s} {calls} e) = go n calls
  where
    go : (n : ℕ) (calls : List (Context × Call)) → So (seen_first l t n s calls)
    go n [] = rw (eq-eqb (first_of s.levels l) t e) tt
    go zero (a ∷ rest) = rw (eq-eqb (first_of s.levels l) t e) tt
    go (suc n) (a ∷ rest) = rw (eq-eqb (first_of s.levels l) t e) tt
seen_first_lem {l} {t} (charged {n} {s} {a} {rest} c d) = or_right (eqb (first_of s.levels l) t) _ (go (is_charged step s a l) c (seen_first_lem d))
  where
    go : (b : Bool) → So b → So (seen_first l t n (next step s a) rest) → So (cond b (seen_first l t n (next step s a) rest) (seen_first l t (suc n) (next step s a) rest))
    go true c h = h
    go false c h = absurd c
seen_first_lem {l} {t} (later {n} {s} {a} {rest} c d) = or_right (eqb (first_of s.levels l) t) _ (go (is_charged step s a l) c (seen_first_lem d))
  where
    go : (b : Bool) → So (not b) → So (seen_first l t (suc n) (next step s a) rest) → So (cond b (seen_first l t n (next step s a) rest) (seen_first l t (suc n) (next step s a) rest))
    go true c h = absurd c
    go false c h = h

-- ---- over by the n-th successful release, or still to come
unfoldable pub seen_over : ℕ → ℕ → ℕ → State → List (Context × Call) → Bool
seen_over m t zero s [] = false
seen_over m t (suc n) s [] = true
seen_over m t zero s (a ∷ rest) = false
seen_over m t (suc n) s (a ∷ rest) =
    cond (eqb (row_of (task (next step s a) t)) m) (cond (is_release step s a m) (seen_over m t n (next step s a) rest) (seen_over m t (suc n) (next step s a) rest)) true

-- who waits for nothing waits on no semaphore
row_none : (x : Task) (m : ℕ) → 1 ≤ m → x.wait.kind ≡ nothing → eqb (row_of x) m ≡ false
unfolding row_of
row_none x m some e = rw e (ne_eqb 0 m (λ z. omega arith))

ended_none : {s : State} {a : Context × Call} {m t : ℕ} → EndsSooner step s a m t → (task (next step s a) t).wait.kind ≡ nothing
ended_none (by_timeout d e) = e.over
ended_none (by_forced_release d e) = e.over
ended_none (by_termination d e) = e
ended_none (by_deletion d e) = e.over

pub seen_over_lem : {m t n : ℕ} {s : State} {calls : List (Context × Call)} → 1 ≤ m → HoldsBy step m t n s calls → So (seen_over m t n s calls)
unfolding seen_over
seen_over_lem {m} {t} low (holds {n} {s} {a} {rest} r d) = rw (row_none (task (next step s a) t) m low d.over) tt
seen_over_lem {m} {t} low (sooner {n} {s} {a} {rest} d) = rw (row_none (task (next step s a) t) m low (ended_none d)) tt
seen_over_lem {m} {t} low (passes {n} {s} {a} {rest} r w d) = rw (eq-eqb (row_of (task (next step s a) t)) m w) (go (is_release step s a m) r (seen_over_lem low d))
  where
    go : (b : Bool) → So b → So (seen_over m t n (next step s a) rest) → So (cond b (seen_over m t n (next step s a) rest) (seen_over m t (suc n) (next step s a) rest))
    go true c h = h
    go false c h = absurd c
seen_over_lem {m} {t} low (waits {n} {s} {a} {rest} r w d) = rw (eq-eqb (row_of (task (next step s a) t)) m w) (go (is_release step s a m) r (seen_over_lem low d))
  where
    go : (b : Bool) → So (not b) → So (seen_over m t (suc n) (next step s a) rest) → So (cond b (seen_over m t n (next step s a) rest) (seen_over m t (suc n) (next step s a) rest))
    go true c h = absurd c
    go false c h = h
seen_over_lem low (still w) = tt

-- ---- no call of a list is of a kind
abbrev number : Kind → ℕ
number tick = 0
number exit = 1
number other = 2
number (terminate t) = 3
number (forced_release t) = 4
number (set_slice l) = 5
number (release m) = 6
number (deletion m) = 7

unfoldable pub none_is : Kind → List (Context × Call) → Bool
none_is k [] = true
none_is k (a ∷ rest) = not (eqb (number (kind a.1)) (number k)) && none_is k rest

differs : (j k : Kind) → So (not (eqb (number j) (number k))) → j ≡ k → ⊥
differs j k h e = let same : So (eqb (number j) (number k)) = rw (eq-eqb (number j) (number k) (ap number e)) tt in So-not (eqb (number j) (number k)) h same

pub none_does : (k : Kind) (calls : List (Context × Call)) (s : State) → So (none_is k calls) → Each step (λ z a. Does step z a k → ⊥) s calls
unfolding none_is
none_does k [] s h = none
none_does k (a ∷ rest) s h =
    let r = both (not (eqb (number (kind a.1)) (number k))) (none_is k rest) h in
    each (λ (d : Does step s a k). differs (kind a.1) k r.0 d.is) (none_does k rest (next step s a) r.1)
