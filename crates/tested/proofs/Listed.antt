-- The test of a table of queues says that its rows list exactly the tasks with their keys, once each.
-- Rests on Says and on the laws of rows and tables.
use mathlib.Core.Path.{◌≡◌, refl, sym, ap, ◌∙◌, subst}
use mathlib.Core.Bool.{Bool, true, false}
use mathlib.Core.List.{List, [], ◌∷◌}
use mathlib.Core.Logic.{◌⊎◌, inl, inr, ⊎_elim}
use Prim.Native.Nat.{ℕ, zero, suc, ◌+◌, ◌≤◌, ◌<◌}
use native.Mathlib.Nat.{eq-or-lt_of_le}
use native.Mathlib.Omega.{arith}
use lib.Dec.{T as So, eqb}
use lib.ListN.{length}
use borrow.Author.Tests.{eq-eqb, ne_eqb}
use Rattle.model.specs.declared.Queue.{Queue}
use Rattle.model.specs.Row.{row, first_of, second_of}
use Rattle.model.specs.Test.{one, every_row, are_queues, occ, lists_only, padded, is_listed, is_filed, lists_exactly}
use Rattle.model.specs.Sound.{Lists}
use Rattle.laws.proofs.Number.{same?, below?}
use Rattle.laws.proofs.Occ.{one_le, one_eq, one_ne, first_in_lem}
use Rattle.laws.proofs.Padded.{occ-zeros, first_none, second_none, second_some}
use Rattle.laws.proofs.Table.{row_past}
use Rattle.laws.proofs.Says.{Says, says_as, says_eq, says_not, says_and, says_or, says_below, everywhere}

-- ---- one row
-- whoever stands there passes, and places past the end hold 0
abbrev Only : (ℕ → Type 0) → List ℕ → Type 0
Only P q = So (padded q) × ((t : ℕ) → 1 ≤ t → 1 ≤ occ t q → P t)

module _ (f : ℕ → Bool) (P : ℕ → Type 0) (h : (t : ℕ) → Says (f t) (P t)) where
  says_only : (q : List ℕ) → Says (lists_only f q) (Only P q)
  unfolding lists_only occ
  says_only [] = record { yields = λ _. (tt, λ t some there. absurd (omega arith)); tests = λ _. tt }
  says_only (x ∷ q) = ⊎_elim ends (goes_on (says_only q)) (same? x 0)
    where
      ends : x ≡ 0 → Says (lists_only f (x ∷ q)) (Only P (x ∷ q))
      ends e = rw (eq-eqb x 0 e) (record {
        yields = λ z. (z, λ t some there. absurd (omega (arith, one_ne x t (λ k. omega arith), occ-zeros q z t some)));
        tests = λ p. p.0;
      })

      goes_on : Says (lists_only f q) (Only P q) → (x ≡ 0 → ⊥) → Says (lists_only f (x ∷ q)) (Only P (x ∷ q))
      goes_on rest n = rw (ne_eqb x 0 n) (says_as
          (λ p. (p.1.0, λ t some there. ⊎_elim (λ (e : x ≡ t). subst P e p.0) (λ (d : x ≡ t → ⊥). p.1.1 t some (omega (arith, one_ne x t d))) (same? x t)))
          (λ p. (p.1 x (omega arith) (omega (arith, one_eq x x refl)), (p.0, λ t some there. p.1 t some (omega arith))))
          (says_and (h x) rest))

-- ---- each row
module _ (f : ℕ → List ℕ → Bool) (P : ℕ → List ℕ → Type 0) (h : (l : ℕ) (q : List ℕ) → Says (f l q) (P l q)) where
  says_rows : (n l : ℕ) (ls : List Queue) → Says (every_row n l f ls) ((i : ℕ) → l ≤ i → i < l + n → P i (row ls i))
  unfolding every_row
  says_rows zero l ls = record { yields = λ _ i low top. absurd (omega arith); tests = λ _. tt }
  says_rows (suc n) l ls = says_as
      (λ p i low top. ⊎_elim (λ (e : l ≡ i). subst (λ j. P j (row ls j)) e p.0) (λ (k : l < i). p.1 i k (omega arith)) (eq-or-lt_of_le low))
      (λ p. (p l (omega arith) (omega arith), λ i low top. p i (omega arith) (omega arith)))
      (says_and (h l (row ls l)) (says_rows n (suc l) ls))

  says_every : (n : ℕ) (ls : List Queue) → Says (every_row n 0 f ls) ((l : ℕ) → l < n → P l (row ls l))
  says_every n ls = says_as (λ p l k. p l (omega arith) (omega arith)) (λ p l low top. p l (omega arith)) (says_rows n 0 ls)

-- n queues of 24 places; a number that names no row has as many
abbrev pub Queues : ℕ → List Queue → Type 0
Queues n ls = (length ls ≡ n) × ((l : ℕ) → length (row ls l) ≡ 24)

pub says_queues : (n : ℕ) (ls : List Queue) → Says (are_queues n ls) (Queues n ls)
says_queues n ls = says_as
    (λ p. (p.0, everywhere (λ l. length (row ls l) ≡ 24) n (λ l h. ap length (row_past ls l (omega (arith, p.0)))) p.1))
    (λ p. (p.0, λ l h. p.1 l))
    (says_and says_eq (says_every (λ l q. eqb (length q) 24) (λ l q. length q ≡ 24) (λ l q. says_eq) n ls))

-- ---- row l is where a task with this key is listed
abbrev pub Listed : ℕ → ℕ → Type 0
Listed l key = (l ≡ 0 → ⊥) × (key ≡ l)

says_listed : (l key : ℕ) → Says (is_listed l key) (Listed l key)
says_listed l key = says_and (says_not says_eq) says_eq

one_holds : {b : Bool} {A : Type 0} → Says b A → A → one b ≡ 1
one_holds {b = true} h x = refl
one_holds {b = false} h x = absurd (h.tests x)

one_fails : {b : Bool} {A : Type 0} → Says b A → (A → ⊥) → one b ≡ 0
one_fails {b = true} h n = absurd (n (h.yields tt))
one_fails {b = false} h n = refl

one_yields : {b : Bool} {A : Type 0} → Says b A → 1 ≤ one b → A
one_yields {b = true} h o = h.yields tt
one_yields {b = false} h o = absurd (omega arith)

-- ---- the table
-- what the test says, in its own order
record Parts (ls : List Queue) (n : ℕ) (key : ℕ → ℕ) : Type 0 where
  rows : (l : ℕ) → l < n → Only (λ t. Listed l (key t)) (row ls l)
  filed : (t : ℕ) → t < 25 → (key t ≡ 0) ⊎ (occ t (row ls (key t)) ≡ 1)

module _ (ls : List Queue) (n : ℕ) (key : ℕ → ℕ) where
  says_parts : Says (lists_exactly ls n key) (Parts ls n key)
  unfolding lists_exactly is_filed
  says_parts = says_as
      (λ p. record { rows = p.0; filed = p.1 })
      (λ h. (h.rows, h.filed))
      (says_and
      (says_every (λ l q. lists_only (λ t. is_listed l (key t)) q) (λ l q. Only (λ t. Listed l (key t)) q)
      (λ l q. says_only (λ t. is_listed l (key t)) (λ t. Listed l (key t)) (λ t. says_listed l (key t)) q) n ls)
      (says_below 25 (λ t. is_filed ls key t) (λ t. (key t ≡ 0) ⊎ (occ t (row ls (key t)) ≡ 1)) (λ t. says_or says_eq says_eq)))

  -- a task past the tables has no key
  parts_lists : Queues n ls → ((t : ℕ) → 25 ≤ t → key t ≡ 0) → Parts ls n key → Lists ls n key
  parts_lists sized past p = record { sized = sized.0; places = sized.1; exactly = exactly; ends = λ l h. (p.rows l h).0 }
    where
      once : (l t : ℕ) → Listed l (key t) → occ t (row ls l) ≡ 1
      once l t k = ⊎_elim
          (λ (h : t < 25). ⊎_elim (λ (e : key t ≡ 0). absurd (k.0 (sym k.1 ∙ e))) (λ e. rw k.1 at e) (p.filed t h))
          (λ (h : 25 ≤ t). absurd (k.0 (sym k.1 ∙ past t h)))
          (below? t 25)

      exactly : (l t : ℕ) → l < n → 1 ≤ t → occ t (row ls l) ≡ one (is_listed l (key t))
      exactly l t h some = ⊎_elim
          (λ (there : 0 < occ t (row ls l)). let k = (p.rows l h).1 t some there in once l t k ∙ sym (one_holds (says_listed l (key t)) k))
          (λ (none : occ t (row ls l) ≤ 0). omega (arith, one_fails (says_listed l (key t)) (λ k. omega (arith, once l t k))))
          (below? 0 (occ t (row ls l)))

  -- whoever stands in a row is listed there
  pub stands : Lists ls n key → (l t : ℕ) → l < n → 1 ≤ t → 1 ≤ occ t (row ls l) → Listed l (key t)
  stands h l t k some there = one_yields (says_listed l (key t)) (omega (arith, h.exactly l t k some))

  lists_parts : ((t : ℕ) → key t < n) → key 0 ≡ 0 → Lists ls n key → Parts ls n key
  lists_parts most origin h = record { rows = λ l k. (h.ends l k, λ t some there. stands h l t k some there); filed = λ t k. filed t }
    where
      filed : (t : ℕ) → (key t ≡ 0) ⊎ (occ t (row ls (key t)) ≡ 1)
      filed zero = inl origin
      filed (suc t) = ⊎_elim
          (λ (e : key (suc t) ≡ 0). inl e)
          (λ (n : key (suc t) ≡ 0 → ⊥). inr (h.exactly (key (suc t)) (suc t) (most (suc t)) (omega arith) ∙ one_holds (says_listed (key (suc t)) (key (suc t))) (n, refl)))
          (same? (key (suc t)) 0)

  -- where the keys are rows of the table, and neither task 0 nor one past the tables has a key
  pub lists_of_test : Queues n ls → ((t : ℕ) → 25 ≤ t → key t ≡ 0) → So (lists_exactly ls n key) → Lists ls n key
  lists_of_test sized past h = parts_lists sized past (says_parts.yields h)

  pub test_of_lists : ((t : ℕ) → key t < n) → key 0 ≡ 0 → Lists ls n key → So (lists_exactly ls n key)
  test_of_lists most origin h = says_parts.tests (lists_parts most origin h)

  -- ---- the first and the second of a row
  module _ (h : Lists ls n key) (l : ℕ) (k : l < n) where
    -- who stands first has the row's key
    pub first_listed : (first_of ls l ≡ 0 → ⊥) → Listed l (key (first_of ls l))
    first_listed some = stands h l (first_of ls l) k (omega arith) (first_in_lem (row ls l) some)

    -- and where someone has it, someone stands first
    pub listed_first : (t : ℕ) → 1 ≤ t → Listed l (key t) → first_of ls l ≡ 0 → ⊥
    listed_first t some r e =
        let none = first_none (row ls l) (h.ends l k) e t some in
        omega (arith, h.exactly l t k some, one_holds (says_listed l (key t)) r)

    -- all who have it are one, where nobody stands second
    pub second_alone : second_of ls l ≡ 0 → (t u : ℕ) → 1 ≤ t → 1 ≤ u → Listed l (key t) → Listed l (key u) → t ≡ u
    second_alone e t u low some a b = second_none (row ls l) (h.ends l k) e t u low some (there t low a) (there u some b)
      where
        there : (v : ℕ) → 1 ≤ v → Listed l (key v) → 1 ≤ occ v (row ls l)
        there v low r = omega (arith, h.exactly l v k low, one_holds (says_listed l (key v)) r)

    -- and nobody stands second, where all who have it are one
    pub alone_second : ((t u : ℕ) → Listed l (key t) → Listed l (key u) → t ≡ u) → second_of ls l ≡ 0
    alone_second all = second_some (row ls l) (h.ends l k)
        (λ u some. omega (arith, h.exactly l u k some, one_le (is_listed l (key u))))
        (λ t u low some a b. all t u (stands h l t k low a) (stands h l u k some b))
