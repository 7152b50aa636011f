-- Crossing off is the test of model: the queues of a table list exactly the tasks with their keys, once each.
-- Rests on Rows.
use mathlib.Core.Path.{◌≡◌, refl, sym, ap, ◌∙◌, fun_ext}
use mathlib.Core.Bool.{Bool, true, false, ◌&&◌, ◌||◌, or-true}
use mathlib.Core.List.{List}
use mathlib.Core.Logic.{◌⊎◌, inl, inr, ⊎_elim}
use Prim.Native.Nat.{ℕ, zero, suc, ◌+◌, ◌≤◌}
use native.Mathlib.Decide.{ℕ_discrete, dec_lt}
use native.Mathlib.Omega.{arith}
use lib.Dec.{eqb}
use lib.ListN.{length, get_or, drop, replicate, drop_of_length-le, get_or-eq_default}
use lib.Seq.{drop-cons}
use borrow.Author.Tests.{eq-eqb, eqb-true}
use Rattle.model.specs.declared.Queue.{Queue}
use Rattle.model.specs.Row.{no_queue, row}
use Rattle.model.specs.Test.{below, every_row, occ, zeros, lists_only, is_filed, lists_exactly}
use Rattle.laws.proofs.Table.{row_past}
use Rattle.crossing.specs.Crossing.{crosses, crossed, crosses_all}
use Rattle.crossing.proofs.Tests.{both, and_both, same_tests, below_at, below_all, listed_by, zeros-occ, zeros_at, zeros_all, lists_only_more, every_row_more}
use Rattle.crossing.proofs.Rows.{wanting, Fate, fate, crossed_lists, lists_crossed, crossed_none}

-- ---- by the numbers of rows
-- n of them, from row l on, cross off all that is wanted
crosses_rows : ℕ → ℕ → List Queue → List ℕ → Bool
crosses_rows zero l qs w = zeros w
crosses_rows (suc n) l qs w = crosses l (row qs l) w && crosses_rows n (suc l) qs (crossed l (row qs l) w)

rows_crossed : (n l : ℕ) (qs : List Queue) (w : List ℕ) → l + n ≡ length qs → crosses_all l (drop l qs) w ≡ crosses_rows n l qs w
unfolding crosses_all crosses_rows row
rows_crossed zero l qs w e = rw (drop_of_length-le qs {i = l} (omega arith))
rows_crossed (suc n) l qs w e = rw (drop-cons qs l no_queue (omega arith), rows_crossed n (suc l) qs (crossed l (row qs l) w) (omega arith))

-- each row lists only tasks that want it
abbrev Listed : ℕ → ℕ → List Queue → List ℕ → Type 0
Listed n l qs w = every_row n l (λ m q. lists_only (wanting w m) q) qs ≡ true

-- t wants nothing, or stands once in the row that it wants, which is one of those from row l on
abbrev Filed : ℕ → List Queue → List ℕ → ℕ → Type 0
Filed l qs w t = (get_or w t 0 ≡ 0) ⊎ ((l ≤ get_or w t 0) × (occ t (row qs (get_or w t 0)) ≡ 1))

-- ---- one row further
module _ (l : ℕ) (qs : List Queue) (w : List ℕ) where
  abbrev q : List ℕ
  q = row qs l

  abbrev v : List ℕ
  v = crossed l q w

  module _ (t : ℕ) (f : Fate l q w t) where
    wanted : (m : ℕ) → wanting v m t ≡ true → wanting w m t ≡ true
    wanted m h =
        let a = listed_by m (get_or v t 0) h in
        ⊎_elim (λ k. rw (← k.1) h) (λ k. absurd (a.0 (sym a.1 ∙ k.2))) f

    wants : (m : ℕ) → suc l ≤ m → wanting w m t ≡ true → wanting v m t ≡ true
    wants m p h =
        let a = listed_by m (get_or w t 0) h in
        ⊎_elim (λ k. rw k.1 h) (λ k. absurd (omega (arith, k.1, a.1))) f

    filed : Filed (suc l) qs v t → Filed l qs w t
    filed g = ⊎_elim
        (λ k. ⊎_elim (λ z. inl (sym k.1 ∙ z)) (λ z. inr (omega (arith, z.0, k.1), rw (← k.1) z.1)) g)
        (λ k. inr (omega (arith, k.1), rw k.1 k.0))
        f

    refiled : Filed l qs w t → Filed (suc l) qs v t
    refiled g = ⊎_elim
        (λ k. ⊎_elim
        (λ z. inl (k.1 ∙ z))
        (λ z. elim (ℕ_discrete (get_or w t 0) l) [
          | yes e ↦ absurd (omega (arith, k.0, rw e at z.1))
          | no d ↦ inr (rw k.1 (omega (arith, z.0)), rw k.1 z.1)
        ])
        g)
        (λ k. inl k.2)
        f

-- ---- what crosses off lists exactly
all_fate : (n l : ℕ) (qs : List Queue) (w : List ℕ) → crosses_rows n l qs w ≡ true → Listed n l qs w × ((t : ℕ) → 1 ≤ t → Filed l qs w t)
unfolding crosses_rows every_row
all_fate zero l qs w h = (refl, λ t p. inl (zeros_at w t h))
all_fate (suc n) l qs w h =
    let q = row qs l in
    let v = crossed l q w in
    let b = both (crosses l q w) (crosses_rows n (suc l) qs v) h in
    let r = all_fate n (suc l) qs v b.1 in
    let f = fate l q w b.0 in (
      and_both (lists_only (wanting w l) q) (every_row n (suc l) (λ m q. lists_only (wanting w m) q) qs) (crossed_lists l q w b.0)
          (every_row_more (λ m q. lists_only (wanting v m) q) (λ m q. lists_only (wanting w m) q) n (suc l) qs
          (λ m p s. lists_only_more (wanting v m) (wanting w m) p (λ t p o. wanted l qs w t (f t p) m)) r.0),
      λ t p. filed l qs w t (f t p) (r.1 t p),
    )

-- ---- what lists exactly is crossed off
-- where there is no row left, nobody wants one
none_there : (t : ℕ) → 1 ≤ t → occ t (replicate 24 0) ≡ 0
unfolding zeros
none_there t p = zeros-occ (replicate 24 0) t refl p

none_filed : (l : ℕ) (qs : List Queue) (w : List ℕ) → length qs ≤ l → get_or w 0 0 ≡ 0 → ((t : ℕ) → 1 ≤ t → Filed l qs w t) → (t : ℕ) → get_or w t 0 ≡ 0
none_filed l qs w len z f zero = z
none_filed l qs w len z f (suc t) = ⊎_elim
    (λ k. k)
    (λ k. absurd (omega (arith, none_there (suc t) (omega arith), rw (row_past qs (get_or w (suc t) 0) (omega (arith, k.0))) at k.1)))
    (f (suc t) (omega arith))

-- who wants row l stands once in it
first_filed : (l : ℕ) (qs : List Queue) (w : List ℕ) (t : ℕ) → Filed l qs w t → wanting w l t ≡ true → occ t (row qs l) ≤ 1
first_filed l qs w t f h =
    let a = listed_by l (get_or w t 0) h in
    ⊎_elim (λ k. absurd (a.0 (sym a.1 ∙ k))) (λ k. omega (arith, rw a.1 at k.1)) f

all_crossed : (n l : ℕ) (qs : List Queue) (w : List ℕ) → length qs ≤ l + n → get_or w 0 0 ≡ 0 → Listed n l qs w → ((t : ℕ) → 1 ≤ t → Filed l qs w t)
    → crosses_rows n l qs w ≡ true
unfolding crosses_rows every_row
all_crossed zero l qs w len z h f = zeros_all w (none_filed l qs w (omega arith) z f)
all_crossed (suc n) l qs w len z h f =
    let q = row qs l in
    let v = crossed l q w in
    let rest = every_row n (suc l) (λ m q. lists_only (wanting w m) q) qs in
    let b = both (lists_only (wanting w l) q) rest h in
    let c = lists_crossed l q w b.0 (λ t p. first_filed l qs w t (f t p)) in
    let g = fate l q w c in
    and_both (crosses l q w) (crosses_rows n (suc l) qs v) c
    (all_crossed n (suc l) qs v (omega arith) (crossed_none l q w 0 z)
    (every_row_more (λ m q. lists_only (wanting w m) q) (λ m q. lists_only (wanting v m) q) n (suc l) qs
    (λ m p s. lists_only_more (wanting w m) (wanting v m) p (λ t p o. wants l qs w t (g t p) m s)) b.1)
    (λ t p. refiled l qs w t (g t p) (f t p)))

-- ---- the two tests are one
or_cases : (a b : Bool) → (a || b) ≡ true → (a ≡ true) ⊎ (b ≡ true)
or_cases true b h = inl refl
or_cases false b h = inr h

module _ (qs : List Queue) (w : List ℕ) (t : ℕ) where
  filed_by : is_filed qs (λ u. get_or w u 0) t ≡ true → Filed 0 qs w t
  unfolding is_filed
  filed_by h = ⊎_elim
      (λ k. inl (eqb-true (get_or w t 0) 0 k))
      (λ k. inr (omega arith, eqb-true (occ t (row qs (get_or w t 0))) 1 k))
      (or_cases (eqb (get_or w t 0) 0) (eqb (occ t (row qs (get_or w t 0))) 1) h)

  filed_as : Filed 0 qs w t → is_filed qs (λ u. get_or w u 0) t ≡ true
  unfolding is_filed
  filed_as f = ⊎_elim
      (λ k. rw (eq-eqb (get_or w t 0) 0 k))
      (λ k. rw (eq-eqb (occ t (row qs (get_or w t 0))) 1 k.1) (or-true (eqb (get_or w t 0) 0)))
      f

module _ (n : ℕ) (qs : List Queue) (w : List ℕ) (all : length qs ≡ n) (wide : length w ≤ 25) (origin : get_or w 0 0 ≡ 0) where
  rows_exactly : crosses_rows n 0 qs w ≡ lists_exactly qs n (λ t. get_or w t 0)
  unfolding lists_exactly
  rows_exactly = same_tests (crosses_rows n 0 qs w) (listed && filed)
      (λ h. let r = all_fate n 0 qs w h in and_both listed filed r.0 (below_all (λ t. is_filed qs (λ u. get_or w u 0) t) 25 (λ t p. filed_as qs w t (from1 r.1 t))))
      (λ h. let b = both listed filed h in all_crossed n 0 qs w (omega arith) origin b.0 (λ t p. from25 b.1 t))
    where
      listed : Bool
      listed = every_row n 0 (λ l q. lists_only (wanting w l) q) qs

      filed : Bool
      filed = below 25 (λ t. is_filed qs (λ u. get_or w u 0) t)

      from1 : ((t : ℕ) → 1 ≤ t → Filed 0 qs w t) → (t : ℕ) → Filed 0 qs w t
      from1 f zero = inl origin
      from1 f (suc t) = f (suc t) (omega arith)

      from25 : below 25 (λ t. is_filed qs (λ u. get_or w u 0) t) ≡ true → (t : ℕ) → Filed 0 qs w t
      from25 h t = elim (dec_lt t 25) [
        | yes p ↦ filed_by qs w t (below_at (λ t. is_filed qs (λ u. get_or w u 0) t) 25 t h p)
        | no p ↦ inl (get_or-eq_default w 0 (omega arith))
      ]

  -- for any name of what is wanted
  pub exactly : (key : ℕ → ℕ) → ((t : ℕ) → key t ≡ get_or w t 0) → crosses_all 0 qs w ≡ lists_exactly qs n key
  exactly key e = rows_crossed n 0 qs w (omega arith) ∙ rows_exactly ∙ ap (lists_exactly qs n) (sym (fun_ext e))
