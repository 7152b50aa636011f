-- Part B of specs/Statements: a runnable task is first of its level by the time its turn has come round.
-- It rests on what a call does to such a task (Nearer) and goes by induction on the calls.
use mathlib.Core.Path.{◌≡◌, refl}
use mathlib.Core.Bool.{Bool, true, false, not}
use mathlib.Core.List.{List, [], ◌∷◌}
use mathlib.Core.Logic.{⊎_elim}
use Prim.Native.Nat.{ℕ, zero, suc, ◌+◌, ◌*◌, ◌-◌, ◌≤◌, ◌<◌}
use native.Mathlib.Omega.{arith}
use native.Mathlib.Nat.{mul-le-mul_right}
use lib.Dec.{T as So}
use Rattle.model.specs.declared.State.{State}
use Rattle.model.specs.declared.Context.{Context}
use Rattle.model.specs.declared.Call.{Call}
use Rattle.model.specs.Row.{place}
use Rattle.model.specs.State.{task, slice, level}
use Rattle.model.specs.Task.{level_of}
use Rattle.model.specs.Call.{step}
use Rattle.model.specs.Test.{one}
use Rattle.model.specs.Sound.{Sound}
use Rattle.laws.proofs.Number.{same?}
use Rattle.soundness.proofs.Orderly.{sound_orderly}
use Rattle.soundness.proofs.Soundness.{sound_stays_sound}
use Rattle.turns.specs.Statements as Say
use Rattle.turns.specs.Statements.{next, is_charged, charges, IsFirst, StaysRunnable, NotTerminated, KeepsPriority, SliceNotSet, Each, none, each, FirstBy, TurnsComeRound}
use Rattle.turns.proofs.Places.{place-first}
use Rattle.ways.proofs.Ways.{way}
use Rattle.turns.proofs.Levels.{level_runnable, level_some}
use Rattle.turns.proofs.Moving.{used, used_below, Nearer}
use Rattle.turns.proofs.Charged.{listed, top}
use Rattle.turns.proofs.Nearer.{nearer}

module _ (l t : ℕ) (h : 1 ≤ l) where
  is_first : (s : State) → Sound s → level_of (task s t) ≡ l → place (level s l) t ≡ 0 → IsFirst s l t
  is_first s k e z = place-first (level s l) t (omega (arith, listed s k l t h e)) z

  -- who is not first is a whole slice behind, and the first's charge is below the slice
  behind : (s : State) → Sound s → level_of (task s t) ≡ l → (place (level s l) t ≡ 0 → ⊥) → 1 ≤ slice s l → place (level s l) t * slice s l ≤ used s l → ⊥
  behind s k e far some less =
      let below : used s l < slice s l = used_below l t h (top s k l t h e) s (sound_orderly k) e some in
      omega (arith, mul-le-mul_right {m = 1} {n = place (level s l) t} (slice s l) (omega arith))

  per_call : (s : State) → Sound s → level_of (task s t) ≡ l → (a : Context × Call) → level_of (task (next step s a) t) ≡ l → NotTerminated step t s a → SliceNotSet step l s a
      → 1 ≤ slice s l → 1 ≤ place (level s l) t → Nearer l t s (next step s a) (one (is_charged step s a l))
  unfolding step
  per_call s k e a after alive unset some far = nearer s k l t h e (way s a.0 a.1)
      (λ ok. record { alive = λ z. alive (record { accepted = ok; is = z }); unset = λ z. unset (record { accepted = ok; is = z }) }) after some far

  -- place * slice is at most the ticks left and the charge of the first
  first_by : (calls : List (Context × Call)) (s : State) (n : ℕ) → Sound s → level_of (task s t) ≡ l → 1 ≤ slice s l
      → Each step (StaysRunnable step t) s calls → Each step (NotTerminated step t) s calls → Each step (KeepsPriority step t l) s calls → Each step (SliceNotSet step l) s calls
      → place (level s l) t * slice s l ≤ n + used s l → n ≤ charges step s calls l → FirstBy step l t n s calls
  unfolding charges
  first_by [] s n k e some none none none none turn enough = ⊎_elim
      (λ (z : place (level s l) t ≡ 0). Say.first (is_first s k e z))
      (λ (far : place (level s l) t ≡ 0 → ⊥). absurd (behind s k e far some (omega arith)))
      (same? (place (level s l) t) 0)
  first_by (a ∷ rest) s n k e some (each runs all_run) (each alive all_alive) (each kept every_kept) (each unset all_unset) turn enough = ⊎_elim
      (λ (z : place (level s l) t ≡ 0). Say.first (is_first s k e z))
      (λ (far : place (level s l) t ≡ 0 → ⊥).
      let after = level_runnable (task (next step s a) t) l runs kept in
      goes (is_charged step s a l) refl n (per_call s k e a after alive unset some (omega arith)) far turn enough
      (λ j v. first_by rest (next step s a) j (sound_stays_sound s a.0 a.1 k) after v all_run all_alive every_kept all_unset))
      (same? (place (level s l) t) 0)
    where
      goes : (b : Bool) → is_charged step s a l ≡ b → (n : ℕ) → Nearer l t s (next step s a) (one b) → (place (level s l) t ≡ 0 → ⊥)
          → place (level s l) t * slice s l ≤ n + used s l → n ≤ one b + charges step (next step s a) rest l
          → ((j : ℕ) → 1 ≤ slice (next step s a) l → place (level (next step s a) l) t * slice (next step s a) l ≤ j + used (next step s a) l → j ≤ charges step (next step s a) rest l → FirstBy step l t j (next step s a) rest)
          → FirstBy step l t n s (a ∷ rest)
      goes b y zero d far turn enough more = absurd (behind s k e far some (omega arith))
      goes true y (suc n) d far turn enough more =
          let r : So (is_charged step s a l) = rw y tt in
          Say.charged r (more n (rw d.steady some) (rw d.steady (omega (arith, d.falls))) (omega arith))
      goes false y (suc n) d far turn enough more =
          let r : So (not (is_charged step s a l)) = rw y tt in
          Say.later r (more (suc n) (rw d.steady some) (rw d.steady (omega (arith, d.falls))) (omega arith))

pub turns_come_round : TurnsComeRound step
turns_come_round s calls l t q v k runs e y z some stays alive keeps unset enough =
    let w : place (level s l) t ≡ q - 1 = omega arith in
    let low : 1 ≤ l = omega (arith, level_some (task s t) (k.tasks t) runs) in
    first_by l t low calls s ((q - 1) * v) k (level_runnable (task s t) l runs e) (rw z some) stays alive keeps unset (rw (z, w) (omega arith)) enough
