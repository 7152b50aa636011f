-- The ticks since a task entered its level, counted by `step`: time and mark are as far apart as there were ticks, up to a multiple of
-- 4,294,967,296. It goes by induction on the calls, from what Marks shows of each.
use mathlib.Core.Path.{◌≡◌, refl, sym, ap, ◌∙◌}
use mathlib.Core.Bool.{Bool, true, false, cond, not, ◌&&◌}
use mathlib.Core.List.{List, [], ◌∷◌}
use mathlib.Core.Logic.{◌⊎◌, inl, inr, ⊎_elim}
use Prim.Native.Nat.{ℕ, ◌+◌, ◌-◌, ◌≤◌, ◌<◌, ◌%◌, ◌^◌}
use native.Mathlib.Omega.{arith}
use native.Mathlib.Nat.{mod-lt, mod-eq_of_lt, mod-add-mod, add-mod_right}
use lib.Dec.{T as So}
use borrow.Author.Tests.{ne_eqb, le-leb}
use Rattle.model.specs.declared.State.{State}
use Rattle.model.specs.declared.Plan.{Plan}
use Rattle.model.specs.declared.Effect.{Effect}
use Rattle.model.specs.declared.Code.{Code}
use Rattle.model.specs.declared.Code.TheVariants.{NoErr}
use Rattle.model.specs.declared.Context.{Context}
use Rattle.model.specs.declared.Call.{Call}
use Rattle.model.specs.declared.News.TheVariants.{Deleted}
use Rattle.model.specs.Flag.{flag_row}
use Rattle.model.specs.DataQueue.{queue_row}
use Rattle.model.specs.Task.{level_of, since}
use Rattle.model.specs.State.{task, time, waiters, running, moved, marked, counted, flagged, stocked, sized, sliced, with_time}
use Rattle.model.specs.Code.{is_refusal}
use Rattle.model.specs.Plan.{within}
use Rattle.model.specs.Service.{ready_ticks}
use Rattle.model.specs.Services.{is_mine}
use Rattle.model.proofs.Words.{table}
use Rattle.model.specs.Effect.{deleted, told_flag, stored, taken, refilled, removed, charged, ticked, carried}
use Rattle.model.specs.Call.{plan, planned, step}
use Rattle.model.specs.Test.{one}
use Rattle.model.specs.Sound.{Sound}
use Rattle.laws.proofs.Record.{level_none}
use Rattle.soundness.proofs.Orderly.{sound_orderly, task_in}
use Rattle.soundness.proofs.Folds.{numbers_stopped, numbers_told, numbers_lapsed}
use Rattle.soundness.proofs.Records.{live_made}
use Rattle.soundness.proofs.Soundness.{sound_stays_sound}
use Rattle.ways.specs.Kind.{Kind, kind, is_tick}
use Rattle.ways.specs.Entry as Tallies
use Rattle.ways.proofs.Tests.{some_of}
use Rattle.ways.proofs.Done.{Receives, direct, oldest, refills, Done, Way, refuses, accepts}
use Rattle.ways.proofs.Done.{Done as Ways}
use Rattle.ways.proofs.Ways.{way}
use Rattle.turns.specs.Tally.{reached_by}
use Rattle.turns.specs.Statements.{next, is_accepted, Each, none, each}
use Rattle.turns.proofs.Still.{only_charged}
use Rattle.since.specs.Statements.{level_in, Entry, arrives, restarts, rotates, NoEntry, ticks, asked, Since, after}
use Rattle.since.proofs.Marks.{Marks, marks, keeps, marks_step}

-- ---- the clock
module _ (s : State) where
  clock_receives : {q v : ℕ} {x : Effect} → Receives s q v x → time (carried s x) ≡ time s
  unfolding carried taken refilled stocked moved
  clock_receives (direct side empty e) = refl
  clock_receives (oldest alone some e) = refl
  clock_receives (refills side some e) = refl

  clock_done : {v : ℕ} {j : Kind} {i : Tallies.Entry} {c : Code} {x : Effect} → Done s v j i c x → time (carried s x) ≡ cond (is_tick j) ((time s + 1) % 2 ^ 32) (time s)
  unfolding carried ticked moved counted flagged sliced marked deleted told_flag sized stored stocked removed
  clock_done Ways.ticks = rw (numbers_lapsed 24 1 (charged (running s) z), (only_charged z (running s)).numbers)
    where
      z : State
      z = with_time ((time s + 1) % 2 ^ 32) s
  clock_done (Ways.exits runs) = rw (numbers_stopped s (running s))
  clock_done (Ways.terminates u low top made) = rw (numbers_stopped s u)
  clock_done (Ways.forces u low top waits) = refl
  clock_done (Ways.slices l v low top) = refl
  clock_done (Ways.serves m made some) = refl
  clock_done (Ways.raises m made free less) = refl
  clock_done (Ways.deletes m made) = rw (numbers_told Deleted (waiters s m) s)
  clock_done Ways.keeps = refl
  clock_done (Ways.moves u x n c) = refl
  clock_done (Ways.waits w runs b) = refl
  clock_done (Ways.creates m n v low top fits more few free) = refl
  clock_done (Ways.takes m made left i) = refl
  clock_done (Ways.flags f a b r) = refl
  clock_done (Ways.tells f w a b made r) = rw (numbers_told w (waiters s (flag_row f)) s)
  clock_done (Ways.opens q c low top most free) = refl
  clock_done (Ways.removes q made) = rw (numbers_told Deleted (waiters s (queue_row q)) s)
  clock_done (Ways.hands q e made side) = refl
  clock_done (Ways.stores q e made alone room) = refl
  clock_done (Ways.gets q made r) = clock_receives r

  clock_way : {j : Kind} {i : Tallies.Entry} {p : Plan} → Way s j i p → time (carried s p.effect) ≡ cond (not (is_refusal p.code) && is_tick j) ((time s + 1) % 2 ^ 32) (time s)
  clock_way {j} (refuses c n d) = unfold carried in go (is_refusal c) n
    where
      go : (b : Bool) → So b → time s ≡ cond (not b && is_tick j) ((time s + 1) % 2 ^ 32) (time s)
      go true h = refl
      go false h = absurd h
  clock_way {j} (accepts c v x n d done) = clock_done done ∙ go (is_refusal c) n
    where
      go : (b : Bool) → So (not b) → cond (is_tick j) ((time s + 1) % 2 ^ 32) (time s) ≡ cond (not b && is_tick j) ((time s + 1) % 2 ^ 32) (time s)
      go true h = absurd h
      go false h = refl

  pub clock_step : (a : Context × Call) → time s < 2 ^ 32 → time (next step s a) ≡ (time s + one (is_accepted step s a && is_tick (kind a.1))) % 2 ^ 32
  unfolding step
  clock_step a h = clock_way (way s a.0 a.1) ∙ go (not (is_refusal (planned s a.0 a.1).code) && is_tick (kind a.1))
    where
      go : (b : Bool) → cond b ((time s + 1) % 2 ^ 32) (time s) ≡ (time s + one b) % 2 ^ 32
      go true = refl
      go false = let e : time s + 0 ≡ time s = omega arith in rw e (sym (mod-eq_of_lt h))

-- ---- through the calls
-- n ticks after its entry: t is dormant, or its mark is n behind the time
abbrev Counted : ℕ → ℕ → State → Type 0
Counted t n s = ((task s t).active ≡ 0) ⊎ (((task s t).entered < 2 ^ 32) × (((task s t).entered + n) % 2 ^ 32 ≡ time s))

module _ (t : ℕ) (low : 1 ≤ t) (top : t ≤ 24) where
  counted_step : (s : State) (k : Sound s) (n : ℕ) (a : Context × Call) → NoEntry step t s a → Counted t n s
      → Counted t (n + one (is_accepted step s a && is_tick (kind a.1))) (next step s a)
  counted_step s k n a quiet c = go (marks_step s k t low top a) c
    where
      o : ℕ
      o = one (is_accepted step s a && is_tick (kind a.1))

      on : (e : ℕ) → (e + n) % 2 ^ 32 ≡ time s → (e + (n + o)) % 2 ^ 32 ≡ time (next step s a)
      on e f =
          let h : time s < 2 ^ 32 = rw (← f) (mod-lt (e + n) (omega arith)) in
          let g : e + (n + o) ≡ e + n + o = omega arith in
          ap (λ i. i % 2 ^ 32) g ∙ sym (mod-add-mod (e + n) (2 ^ 32) o) ∙ ap (λ i. (i + o) % 2 ^ 32) f ∙ sym (clock_step s a h)

      go : Marks (is_accepted step s a) (kind a.1) t s (next step s a) → Counted t n s → Counted t (n + o) (next step s a)
      go (marks e f) c = absurd (quiet e)
      go (keeps e (inl ended)) c = inl ended
      go (keeps e (inr (live, mark))) (inl ended) = absurd (omega arith)
      go (keeps e (inr (live, mark))) (inr (below, far)) = inr (rw mark below, rw mark (on (task s t).entered far))

  counted_calls : (calls : List (Context × Call)) (s : State) (n : ℕ) → Sound s → Each step (NoEntry step t) s calls → Counted t n s
      → Counted t (n + ticks step s calls) (reached_by step s calls) × Sound (reached_by step s calls)
  unfolding ticks reached_by
  counted_calls [] s n k none c = let e : n ≡ n + 0 = omega arith in (rw (← e) c, k)
  counted_calls (a ∷ rest) s n k (each quiet more) c =
      let o : ℕ = one (is_accepted step s a && is_tick (kind a.1)) in
      let e : n + o + ticks step (next step s a) rest ≡ n + (o + ticks step (next step s a) rest) = omega arith in
      rw (← e) (counted_calls rest (next step s a) (n + o) (sound_stays_sound s a.0 a.1 k) more (counted_step s k n a quiet c))

  -- ---- the answer
  answered : (s : State) → Sound s → 1 ≤ (task s t).active → ((asked step s t).code ≡ NoErr) × ((asked step s t).value ≡ since (task s t).entered (time s))
  unfolding step planned plan ready_ticks is_mine table within
  answered s k live =
      let made = live_made (task s t) (k.tasks t) live in
      rw (le-leb 1 t low, le-leb t 24 top, ne_eqb (task s t).base 0 (λ e. omega arith), ne_eqb (task s t).active 0 (λ e. omega arith)) (refl, refl)

-- the wrapping subtract takes the mark off again
back : (e n now : ℕ) → e < 2 ^ 32 → (e + n) % 2 ^ 32 ≡ now → since e now ≡ n % 2 ^ 32
unfolding since
back e n now h f =
    let g : e + n + (2 ^ 32 - e) ≡ n + 2 ^ 32 = omega arith in
    ap (λ i. (i + (2 ^ 32 - e)) % 2 ^ 32) (sym f) ∙ mod-add-mod (e + n) (2 ^ 32) (2 ^ 32 - e) ∙ ap (λ i. i % 2 ^ 32) g ∙ add-mod_right n (2 ^ 32)

-- who enters is in a level then
entry_level : {b : Bool} {j : Kind} {t : ℕ} {s s' : State} → Entry b j t s s' → 1 ≤ level_in s' t
entry_level (arrives some other) = some
entry_level (restarts a e some) = some
entry_level (rotates some same f n) = rw same some

-- ---- with any number of ticks, the answer is what is left of them
pub counts_mod : (t n : ℕ) (h : Since step t n) → ((asked step (after h) t).code ≡ NoErr) × ((asked step (after h) t).value ≡ n % 2 ^ 32)
counts_mod t n h = go (marks_step h.before h.sound t low top h.entry)
  where
    s₁ : State
    s₁ = next step h.before h.entry

    k₁ : Sound s₁
    k₁ = sound_stays_sound h.before h.entry.0 h.entry.1 h.sound

    inside : (1 ≤ t) × (t ≤ 24)
    inside = task_in s₁ (sound_orderly k₁) level_of level_none t (entry_level h.enters)

    low : 1 ≤ t
    low = inside.0

    top : t ≤ 24
    top = inside.1

    bounded : time s₁ < 2 ^ 32
    bounded = rw (clock_step h.before h.entry h.bounded) (mod-lt (time h.before + one (is_accepted step h.before h.entry && is_tick (kind h.entry.1))) (omega arith))

    live : 1 ≤ (task (after h) t).active
    live = (some_of (task (after h) t).active).yields h.lives

    finish : (task s₁ t).entered ≡ time s₁ → ((asked step (after h) t).code ≡ NoErr) × ((asked step (after h) t).value ≡ n % 2 ^ 32)
    finish e =
        let begin : Counted t 0 s₁ = inr (rw e bounded, rw e (let z : time s₁ + 0 ≡ time s₁ = omega arith in rw z (mod-eq_of_lt bounded))) in
        let c = counted_calls t low top h.calls s₁ 0 k₁ h.quiet begin in
        let all : 0 + ticks step s₁ h.calls ≡ n = omega (arith, h.counted) in
        let a = answered t low top (after h) c.1 live in (
          a.0,
          a.1 ∙ ⊎_elim
              (λ (z : (task (after h) t).active ≡ 0). absurd (omega (arith, live)))
              (λ (z : ((task (after h) t).entered < 2 ^ 32) × (((task (after h) t).entered + (0 + ticks step s₁ h.calls)) % 2 ^ 32 ≡ time (after h))).
              back (task (after h) t).entered (0 + ticks step s₁ h.calls) (time (after h)) z.0 z.1 ∙ ap (λ i. i % 2 ^ 32) all)
              c.0,
        )

    go : Marks (is_accepted step h.before h.entry) (kind h.entry.1) t h.before s₁ → ((asked step (after h) t).code ≡ NoErr) × ((asked step (after h) t).value ≡ n % 2 ^ 32)
    go (marks e f) = finish f
    go (keeps e k) = absurd (e h.enters)
