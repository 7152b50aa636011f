-- Each call of `step`, seen from outside: it is an entry of the task, as the statement has it, and the mark is then the time; or it is none, and
-- the mark stays or the task is dormant. It rests on what Seen shows of each way.
use mathlib.Core.Path.{◌≡◌, sym, ◌∙◌}
use mathlib.Core.Bool.{Bool, true, false, not}
use mathlib.Core.Logic.{◌⊎◌, inl, inr, ⊎_elim}
use Prim.Native.Nat.{ℕ, ◌≤◌}
use native.Mathlib.Omega.{arith}
use lib.Dec.{T as So}
use Rattle.model.specs.declared.State.{State}
use Rattle.model.specs.declared.Plan.{Plan}
use Rattle.model.specs.declared.Context.{Context}
use Rattle.model.specs.declared.Call.{Call}
use Rattle.model.specs.State.{task, time}
use Rattle.model.specs.Code.{is_refusal}
use Rattle.model.specs.Effect.{carried}
use Rattle.model.specs.Call.{step}
use Rattle.model.specs.Sound.{Sound}
use Rattle.laws.proofs.Number.{same?}
use Rattle.ways.specs.Kind.{Kind, kind}
use Rattle.ways.specs.Entry as Tallies
use Rattle.ways.proofs.Done.{Way, refuses, accepts}
use Rattle.ways.proofs.Ways.{way}
use Rattle.turns.specs.Statements.{next, is_accepted}
use Rattle.since.specs.Statements.{level_in, ended_by, Entry, arrives, restarts, rotates}
use Rattle.since.proofs.Through.{Kept, kept_same}
use Rattle.since.proofs.Seen.{Seen, seen}

-- what is left where a task does not enter: it is dormant, or lives on with its mark
abbrev pub Keeps : ℕ → State → State → Type 0
Keeps t s s' = ((task s' t).active ≡ 0) ⊎ ((1 ≤ (task s t).active) × ((task s' t).entered ≡ (task s t).entered))

-- a call is an entry, which is marked, or it is none and the mark is kept
pub data Marks (b : Bool) (j : Kind) (t : ℕ) (s s' : State) : Type 0 where
  marks : Entry b j t s s' → (task s' t).entered ≡ time s' → Marks b j t s s'
  keeps : (Entry b j t s s' → ⊥) → Keeps t s s' → Marks b j t s s'

kept : {t : ℕ} {s s' : State} → Kept t s s' → Keeps t s s'
kept {t} {s} p = ⊎_elim
    (λ (e : (task s t).active ≡ 0). inl (p.active ∙ e))
    (λ (n : (task s t).active ≡ 0 → ⊥). inr (omega arith, p.entered))
    (same? (task s t).active 0)

module _ {b : Bool} {j : Kind} {t : ℕ} {s s' : State} where
  -- who has no level after it has not entered
  no_level : level_in s' t ≡ 0 → Entry b j t s s' → ⊥
  no_level e (arrives some other) = omega arith
  no_level e (restarts a f some) = omega arith
  no_level e (rotates some same f n) = omega (arith, same)

  no_change : (So b → ended_by s j ≡ t → ⊥) → Kept t s s' → Entry b j t s s' → ⊥
  no_change goes_on p (arrives some other) = other (sym p.level)
  no_change goes_on p (restarts a f some) = goes_on a f
  no_change goes_on p (rotates some same f n) = n (p.first (level_in s t) f)

  marks_seen : So b → Seen s t j s' → Marks b j t s s'
  marks_seen a (Seen.arrives e f g) = marks (arrives e f) g
  marks_seen a (Seen.restarts d e g) = marks (restarts a d e) g
  marks_seen a (Seen.rotates d e f n g) = marks (rotates d e f n) g
  marks_seen a (Seen.rests e f) = keeps (no_level e) (inl f)
  marks_seen a (Seen.leaves e f g) = keeps (no_level e) (inr (f, g))
  marks_seen a (Seen.stays d p) = keeps (no_change (λ _. d) p) (kept p)

module _ (s : State) (k : Sound s) (t : ℕ) (low : 1 ≤ t) (top : t ≤ 24) where
  marks_way : {j : Kind} {i : Tallies.Entry} {p : Plan} → Way s j i p → Marks (not (is_refusal p.code)) j t s (carried s p.effect)
  unfolding carried
  marks_way (refuses c n d) = keeps (no_change (λ a _. refused (is_refusal c) n a) (kept_same t s)) (kept (kept_same t s))
    where
      refused : (b : Bool) → So b → So (not b) → ⊥
      refused true h a = a
      refused false h a = h
  marks_way (accepts c v x n d done) = marks_seen n (seen s k t low top done)

  pub marks_step : (a : Context × Call) → Marks (is_accepted step s a) (kind a.1) t s (next step s a)
  unfolding step
  marks_step a = marks_way (way s a.0 a.1)
