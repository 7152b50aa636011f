-- A tick's timeouts: one turn of the loop over them, in which one falls or the wait with it ends, and all of them at once where none falls or none ends.
-- Rests on Moving.
use mathlib.Core.Path.{◌≡◌, refl, sym, ap, ◌∙◌}
use mathlib.Core.Bool.{Bool, true, false, cond, ◌||◌, true≢false}
use mathlib.Core.List.{List}
use mathlib.Core.Logic.{⊎_elim}
use Prim.Native.Nat.{ℕ, zero, suc, ◌+◌, ◌-◌, ◌≤◌, ◌<◌}
use native.Mathlib.Numerals.{add-one}
use native.Mathlib.Omega.{arith}
use lib.Dec.{eqb}
use lib.ListN.{get_or, set}
use lib.Seq.{get_or-set_other, set-get_or}
use borrow.Author.Tests.{eq-eqb, ne_eqb}
use Rattle.model.specs.declared.Task.{Task}
use Rattle.model.specs.declared.State.{State}
use Rattle.model.specs.Task.{no_task, level_of, row_of, aged, ended, ran_out, with_remaining, endless}
use Rattle.model.specs.State.{task, moved, moved_from}
use Rattle.model.specs.Effect.{lapsed}
use Rattle.laws.proofs.Number.{same?}
use Rattle.effects.specs.Falling.{stays, all_stay, fallen, is_due, fall_all}
use Rattle.effects.proofs.Moving.{untimed, unending, falling, ending, moved_kept, moved_from_lem, turn}

-- what a tick makes of a record whose timeout it does not end
falls_one : (x : Task) → (x.wait.remaining ≡ 1 → ⊥) → aged x ≡ with_remaining x (fallen x.wait.remaining)
unfolding fallen
falls_one x o = ⊎_elim
    (λ (z : x.wait.remaining ≡ 0). untimed x z ∙ rw (eq-eqb _ _ z, ← z))
    (λ (n : x.wait.remaining ≡ 0 → ⊥). ⊎_elim
    (λ (e : x.wait.remaining ≡ endless). unending x n e ∙ rw (ne_eqb _ _ n, eq-eqb _ _ e))
    (λ (f : x.wait.remaining ≡ endless → ⊥). falling x n f o ∙ rw (ne_eqb _ _ n, ne_eqb _ _ f))
    (same? x.wait.remaining endless))
    (same? x.wait.remaining 0)

module _ (s : State) (t : ℕ) (w : State) (h : t < 25) (i : lapsed (25 - t) t s ≡ w) (k : Task) (e : k ≡ task s t) where
  pub falls : (v : ℕ) (xs : List Task) → (k.wait.remaining ≡ 1 → ⊥) → v ≡ fallen k.wait.remaining → xs ≡ set s.tasks t (with_remaining (task s t) v)
      → lapsed (25 - (t + 1)) (t + 1) (record { tasks = xs; levels = s.levels; waits = s.waits; numbers = s.numbers }) ≡ w
  unfolding level_of row_of
  falls v xs o d f =
      let p : ((task s t).wait.remaining ≡ 1 → ⊥) = rw e at o in
      turn s t w h i (record { tasks = xs; levels = s.levels; waits = s.waits; numbers = s.numbers })
      (rw (falls_one (task s t) p, f, d, e) (moved_kept s t (with_remaining (task s t) (fallen (task s t).wait.remaining)) refl refl refl))

  pub ends : (x : Task) (v : ℕ) (s' : State) → k.wait.remaining ≡ 1 → v ≡ ran_out k → x ≡ ended k v 0 → s' ≡ moved_from t k x s
      → lapsed (25 - (t + 1)) (t + 1) s' ≡ w
  ends x v s' o d f m =
      let z : (k.wait.remaining ≡ 0 → ⊥) = λ q. omega arith in
      let n : (k.wait.remaining ≡ endless → ⊥) = λ q. omega arith in
      turn s t w h i s' (rw (← e, ending k z n o, ← d, ← f) (sym (m ∙ moved_from_lem s t k x e)))

-- ---- all timeouts at once
-- a store below t changes no timeout from t on
due_set : (n t u : ℕ) (x : Task) (xs : List Task) → u < t → is_due n t (set xs u x) ≡ is_due n t xs
unfolding is_due
due_set zero t u x xs h = refl
due_set (suc n) t u x xs h = rw (get_or-set_other xs u t x no_task (λ e. omega arith), due_set n (suc t) u x xs (omega arith))

not_due : (n t : ℕ) (xs : List Task) → is_due (suc n) t xs ≡ false → ((get_or xs t no_task).wait.remaining ≡ 1 → ⊥) × (is_due n (suc t) xs ≡ false)
unfolding is_due
not_due n t xs e = ⊎_elim
    (λ (o : (get_or xs t no_task).wait.remaining ≡ 1). absurd (true≢false (rw (eq-eqb _ _ o) at e)))
    (λ (o : (get_or xs t no_task).wait.remaining ≡ 1 → ⊥). (o, rw (ne_eqb _ _ o) at e))
    (same? (get_or xs t no_task).wait.remaining 1)

-- in a state: what is left of one timeout changes
falls_at : (s : State) (t : ℕ) → ((task s t).wait.remaining ≡ 1 → ⊥)
    → moved t (aged (task s t)) s ≡ record { tasks = set s.tasks t (with_remaining (task s t) (fallen (task s t).wait.remaining)); levels = s.levels; waits = s.waits; numbers = s.numbers }
unfolding level_of row_of
falls_at s t o = rw (falls_one (task s t) o) (moved_kept s t (with_remaining (task s t) (fallen (task s t).wait.remaining)) refl refl refl)

-- where none ends, nothing else changes
pub all_fall : (n t : ℕ) (s : State) → is_due n t s.tasks ≡ false → record { tasks = fall_all n t s.tasks; levels = s.levels; waits = s.waits; numbers = s.numbers } ≡ lapsed n t s
unfolding fall_all lapsed
all_fall zero t s e = refl
all_fall (suc n) t s e =
    let d = not_due n t s.tasks e in
    let x = with_remaining (task s t) (fallen (task s t).wait.remaining) in
    all_fall n (suc t) (record { tasks = set s.tasks t x; levels = s.levels; waits = s.waits; numbers = s.numbers }) (due_set n (suc t) t x s.tasks (omega arith) ∙ d.1)
    ∙ ap (lapsed n (suc t)) (sym (falls_at s t d.0))

-- ---- the two loops over them
module _ (t : ℕ) (xs : List Task) (r : Bool) (i : is_due (25 - t) t xs ≡ r) where
  pub due_on : t < 25 → eqb (get_or xs t no_task).wait.remaining 1 ≡ false → is_due (25 - (t + 1)) (t + 1) xs ≡ r
  unfolding is_due
  due_on h b =
      let e : 25 - t ≡ suc (25 - suc t) = omega arith in
      let j : eqb (get_or xs t no_task).wait.remaining 1 || is_due (25 - suc t) (suc t) xs ≡ r = rw e at i in
      rw (add-one t) (rw b at j)

  pub due_off : t < 25 → eqb (get_or xs t no_task).wait.remaining 1 ≡ true → true ≡ r
  unfolding is_due
  due_off h b =
      let e : 25 - t ≡ suc (25 - suc t) = omega arith in
      let j : eqb (get_or xs t no_task).wait.remaining 1 || is_due (25 - suc t) (suc t) xs ≡ r = rw e at i in
      rw b at j

  pub due_end : 25 ≤ t → false ≡ r
  unfolding is_due
  due_end h = let e : 25 - t ≡ 0 = omega arith in rw e at i

pub fall_on : (t : ℕ) (xs zs : List Task) → t < 25 → fall_all (25 - t) t xs ≡ zs
    → fall_all (25 - (t + 1)) (t + 1) (set xs t (with_remaining (get_or xs t no_task) (fallen (get_or xs t no_task).wait.remaining))) ≡ zs
unfolding fall_all
fall_on t xs zs h i =
    let e : 25 - t ≡ suc (25 - suc t) = omega arith in
    rw (add-one t) (rw e at i)

pub fall_end : (t : ℕ) (xs zs : List Task) → 25 ≤ t → fall_all (25 - t) t xs ≡ zs → xs ≡ zs
unfolding fall_all
fall_end t xs zs h i =
    let e : 25 - t ≡ 0 = omega arith in
    rw e at i

-- ---- none falls
still_one : (x : Task) → stays x.wait.remaining ≡ true → aged x ≡ x
unfolding stays
still_one x e = ⊎_elim
    (λ (z : x.wait.remaining ≡ 0). untimed x z)
    (λ (n : x.wait.remaining ≡ 0 → ⊥). ⊎_elim
    (λ (f : x.wait.remaining ≡ endless). unending x n f)
    (λ (f : x.wait.remaining ≡ endless → ⊥). absurd (true≢false (sym (rw (ne_eqb _ _ n, ne_eqb _ _ f) at e))))
    (same? x.wait.remaining endless))
    (same? x.wait.remaining 0)

still_at : (s : State) (t : ℕ) → stays (task s t).wait.remaining ≡ true → moved t (aged (task s t)) s ≡ s
still_at s t e = rw (still_one (task s t) e)
    (moved_kept s t (task s t) refl refl refl ∙ ap (λ (xs : List Task). record { tasks = xs; levels = s.levels; waits = s.waits; numbers = s.numbers }) (set-get_or s.tasks t no_task))

still_both : (b c : Bool) → cond b c false ≡ true → (b ≡ true) × (c ≡ true)
still_both true c e = (refl, e)
still_both false c e = absurd (true≢false (sym e))

pub none_falls : (n t : ℕ) (s : State) → all_stay n t s.tasks ≡ true → s ≡ lapsed n t s
unfolding all_stay lapsed
none_falls zero t s e = refl
none_falls (suc n) t s e =
    let d = still_both (stays (task s t).wait.remaining) (all_stay n (suc t) s.tasks) e in
    none_falls n (suc t) s d.1 ∙ ap (lapsed n (suc t)) (sym (still_at s t d.0))

module _ (t : ℕ) (xs : List Task) (r : Bool) (i : all_stay (25 - t) t xs ≡ r) where
  pub stay_on : t < 25 → stays (get_or xs t no_task).wait.remaining ≡ true → all_stay (25 - (t + 1)) (t + 1) xs ≡ r
  unfolding all_stay
  stay_on h b =
      let e : 25 - t ≡ suc (25 - suc t) = omega arith in
      let j : cond (stays (get_or xs t no_task).wait.remaining) (all_stay (25 - suc t) (suc t) xs) false ≡ r = rw e at i in
      rw (add-one t) (rw b at j)

  pub stay_off : t < 25 → stays (get_or xs t no_task).wait.remaining ≡ false → false ≡ r
  unfolding all_stay
  stay_off h b =
      let e : 25 - t ≡ suc (25 - suc t) = omega arith in
      let j : cond (stays (get_or xs t no_task).wait.remaining) (all_stay (25 - suc t) (suc t) xs) false ≡ r = rw e at i in
      rw b at j

  pub stay_end : 25 ≤ t → true ≡ r
  unfolding all_stay
  stay_end h = let e : 25 - t ≡ 0 = omega arith in rw e at i
