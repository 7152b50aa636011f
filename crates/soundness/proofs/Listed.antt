-- A table that lists the tasks by their keys lists them still, by the new keys, after a task was relisted or a row turned.
-- It rests on `Lists` of model/specs/Sound and the laws of rows and tables in laws.
use mathlib.Core.Path.{◌≡◌, refl, sym, ◌∙◌}
use mathlib.Core.List.{List}
use mathlib.Core.Logic.{◌⊎◌, inl, inr, ⊎_elim}
use Prim.Native.Nat.{ℕ, zero, suc, ◌≤◌, ◌<◌}
use native.Mathlib.Omega.{arith}
use lib.Dec.{T as So}
use lib.ListN.{length}
use borrow.Author.Tests.{eq-eqb, ne_eqb}
use Rattle.model.specs.declared.Queue.{Queue}
use Rattle.model.specs.Row.{first, joined, left, turned, row, first_of, with_row, relisted}
use Rattle.model.specs.Test.{one, occ, padded, is_listed}
use Rattle.model.specs.Sound.{Lists}
use Rattle.laws.proofs.Number.{same?, below?}
use Rattle.laws.proofs.Row.{first-left, first-joined, length-joined, length-left, length-turned}
use Rattle.laws.proofs.Table.{length-with_row, row-with_row}
use Rattle.laws.proofs.Relisted.{relisted_kept, length-relisted, row-relisted_past, row-relisted_from, row-relisted_to, row-relisted_other, row-relisted_zero}
use Rattle.laws.proofs.Occ.{one_le, occ-left_same, occ-left_other, occ-joined_same, occ-joined_other, occ-turned, first_in_lem}
use Rattle.laws.proofs.Padded.{padded-left, padded-joined, padded-turned}
use Rattle.laws.proofs.Room.{room}

-- ---- who is listed where
pub listed_one : (l k : ℕ) → 1 ≤ l → k ≡ l → one (is_listed l k) ≡ 1
listed_one l k some e = rw (ne_eqb l 0 (λ z. omega arith), eq-eqb k l e)

pub listed_none : (l k : ℕ) → (1 ≤ l → k ≡ l → ⊥) → one (is_listed l k) ≡ 0
listed_none zero k apart = refl
listed_none (suc l) k apart = rw (ne_eqb (suc l) 0 (λ z. omega arith), ne_eqb k (suc l) (apart (omega arith)))

pub listed_by : (l k : ℕ) → 1 ≤ one (is_listed l k) → (1 ≤ l) × (k ≡ l)
listed_by l k h =
    let low : l ≡ 0 → ⊥ = λ z. omega (arith, listed_none l k (λ some _. omega arith)) in
    (omega arith, ⊎_elim (λ (e : k ≡ l). e) (λ (other : k ≡ l → ⊥). absurd (omega (arith, listed_none l k (λ _ e. other e)))) (same? k l))

module _ (ls : List Queue) (n : ℕ) (key : ℕ → ℕ) (k : Lists ls n key) where
  -- a listed task has the row's key, and a task with a key is listed
  pub key_of : (l t : ℕ) → l < n → 1 ≤ t → 1 ≤ occ t (row ls l) → (1 ≤ l) × (key t ≡ l)
  key_of l t h some there = listed_by l (key t) (omega (arith, k.exactly l t h some))

  pub listed_in : (l t : ℕ) → l < n → 1 ≤ t → 1 ≤ l → key t ≡ l → occ t (row ls l) ≡ 1
  listed_in l t h some low e = k.exactly l t h some ∙ listed_one l (key t) low e

  pub listed_not : (l t : ℕ) → l < n → 1 ≤ t → (1 ≤ l → key t ≡ l → ⊥) → occ t (row ls l) ≡ 0
  listed_not l t h some apart = k.exactly l t h some ∙ listed_none l (key t) apart

  -- who stands first has the row's key
  pub key_first : (l : ℕ) → l < n → (first_of ls l ≡ 0 → ⊥) → (1 ≤ l) × (key (first_of ls l) ≡ l)
  key_first l h some = key_of l (first_of ls l) h (omega arith) (first_in_lem (row ls l) some)

  -- where only the tasks up to 24 have a key, a row has room for each of them that it does not list
  pub has_room_lem : ((u : ℕ) → 24 < u → key u ≡ 0) → (l t : ℕ) → l < n → 1 ≤ t → t ≤ 24 → occ t (row ls l) ≡ 0 → 1 ≤ occ 0 (row ls l)
  has_room_lem far l t h some top none =
      room (row ls l) t 24 (k.places l)
      (λ u high. listed_not l u h (omega arith) (λ low e. omega (arith, far u high)))
      (λ u low. omega (arith, k.exactly l u h low, one_le (is_listed l (key u))))
      some top none

-- ---- a task leaves its row for another
-- what holds of a row as it was, where both keys say the same of it, of the row that was left and of the one that was joined, holds of each row
module _ (P : List ℕ → Type 0) (ls : List Queue) (f g t l : ℕ) where
  pub row_cases : ((l < length ls → one (is_listed l f) ≡ one (is_listed l g)) → P (row ls l)) → ((f ≡ g → ⊥) → 1 ≤ l → l ≡ f → P (left (row ls f) t))
      → ((f ≡ g → ⊥) → 1 ≤ l → l ≡ g → P (joined (row ls g) t)) → P (row (relisted ls f g t) l)
  row_cases stays leaves joins = go (same? f g) (same? l 0) (below? l (length ls)) (same? l f) (same? l g)
    where
      go : (f ≡ g) ⊎ (f ≡ g → ⊥) → (l ≡ 0) ⊎ (l ≡ 0 → ⊥) → (l < length ls) ⊎ (length ls ≤ l) → (l ≡ f) ⊎ (l ≡ f → ⊥) → (l ≡ g) ⊎ (l ≡ g → ⊥) → P (row (relisted ls f g t) l)
      go (inl e) z h a b = rw (relisted_kept ls f g t e) (stays (λ _. rw e))
      go (inr apart) (inl z) h a b = rw (z, row-relisted_zero ls f g t) (rw z at (stays (λ _. rw z)))
      go (inr apart) (inr low) (inr past) a b = rw (row-relisted_past ls f g t l past) (stays (λ top. absurd (omega arith)))
      go (inr apart) (inr low) (inl top) (inl e) b = rw (e, row-relisted_from ls f g t apart (λ z. low (e ∙ z)) (rw e at top)) (leaves apart (omega arith) e)
      go (inr apart) (inr low) (inl top) (inr not_f) (inl e) = rw (e, row-relisted_to ls f g t apart (λ z. low (e ∙ z)) (rw e at top)) (joins apart (omega arith) e)
      go (inr apart) (inr low) (inl top) (inr not_f) (inr not-g) =
          rw (row-relisted_other ls f g t l not_f not-g) (stays (λ _. listed_none l f (λ _ e. not_f (sym e)) ∙ sym (listed_none l g (λ _ e. not-g (sym e)))))

-- who stands first in a row stands first there still, unless it is the one that moves
pub first_relisted : (ls : List Queue) (f g t l u : ℕ) → (u ≡ t → ⊥) → 1 ≤ u → first_of ls l ≡ u → first_of (relisted ls f g t) l ≡ u
first_relisted ls f g t l u other some e = row_cases (λ q. first q ≡ u) ls f g t l (λ _. e)
    (λ _ _ z. first-left (row ls f) t u other (rw z at e))
    (λ _ _ z. first-joined (row ls g) t u some (rw z at e))

module _ (ls : List Queue) (n : ℕ) (key : ℕ → ℕ) (k : Lists ls n key) (t g : ℕ) (some : 1 ≤ t) (top : t ≤ 24) (far : (u : ℕ) → 24 < u → key u ≡ 0) where
  -- where it now stands
  stands : (l : ℕ) → l < n → occ t (row (relisted ls (key t) g t) l) ≡ one (is_listed l g)
  stands l h = row_cases (λ q. occ t q ≡ one (is_listed l g)) ls (key t) g t l (λ same. k.exactly l t h some ∙ same (omega (arith, k.sized))) leaves joins
    where
      leaves : (key t ≡ g → ⊥) → 1 ≤ l → l ≡ key t → occ t (left (row ls (key t)) t) ≡ one (is_listed l g)
      leaves apart low e =
          let there : occ t (row ls (key t)) ≡ 1 = listed_in ls n key k (key t) t (omega arith) some (omega arith) refl in
          omega (arith, occ-left_same (row ls (key t)) t some (omega arith), listed_none l g (λ _ z. apart (sym e ∙ sym z)))

      joins : (key t ≡ g → ⊥) → 1 ≤ l → l ≡ g → occ t (joined (row ls g) t) ≡ one (is_listed l g)
      joins apart low e =
          let none : occ t (row ls g) ≡ 0 = listed_not ls n key k g t (omega arith) some (λ _ z. apart z) in
          omega (arith, occ-joined_same (row ls g) t some (has_room_lem ls n key k far g t (omega arith) some top none), listed_one l g low (sym e))

  pub lists_relisted : (key' : ℕ → ℕ) → key' t ≡ g → ((u : ℕ) → (u ≡ t → ⊥) → key' u ≡ key u) → Lists (relisted ls (key t) g t) n key'
  lists_relisted key' now others = record {
    sized = length-relisted ls (key t) g t ∙ k.sized;
    places = λ l. row_cases (λ q. length q ≡ 24) ls (key t) g t l (λ _. k.places l)
        (λ _ _ _. length-left (row ls (key t)) t ∙ k.places (key t))
        (λ _ _ _. length-joined (row ls g) t ∙ k.places g);
    exactly = λ l u h low. ⊎_elim
        (λ (e : u ≡ t). rw (e, now) (stands l h))
        (λ (other : u ≡ t → ⊥). rw (others u other) (kept l u low other ∙ k.exactly l u h low))
        (same? u t);
    ends = λ l h. row_cases (λ q. So (padded q)) ls (key t) g t l (λ _. k.ends l h)
        (λ _ _ e. padded-left (row ls (key t)) t (rw e at (k.ends l h)))
        (λ _ _ e. padded-joined (row ls g) t (rw e at (k.ends l h)));
  }
    where
      kept : (l u : ℕ) → 1 ≤ u → (u ≡ t → ⊥) → occ u (row (relisted ls (key t) g t) l) ≡ occ u (row ls l)
      kept l u low other = row_cases (λ q. occ u q ≡ occ u (row ls l)) ls (key t) g t l (λ _. refl)
          (λ _ _ e. rw e (occ-left_other (row ls (key t)) t u low other))
          (λ _ _ e. rw e (occ-joined_other (row ls g) t u low other))

-- ---- the same keys
pub lists_same : (ls : List Queue) (n : ℕ) (key key' : ℕ → ℕ) → ((t : ℕ) → key' t ≡ key t) → Lists ls n key → Lists ls n key'
lists_same ls n key key' same k = record { sized = k.sized; places = k.places; exactly = λ l t h some. rw (same t) (k.exactly l t h some); ends = k.ends }

-- ---- the first of a row becomes its last
pub lists_turned : (ls : List Queue) (n : ℕ) (key : ℕ → ℕ) (l : ℕ) → Lists ls n key → Lists (with_row ls l (turned (row ls l))) n key
lists_turned ls n key l k = record {
  sized = length-with_row ls l q ∙ k.sized;
  places = λ m. row-with_row ls l q (λ w. length w ≡ 24) m (λ _. length-turned (row ls l) ∙ k.places l) (k.places m);
  exactly = λ m u h low. row-with_row ls l q (λ w. occ u w ≡ one (is_listed m (key u))) m (λ e. rw (← e) (occ-turned (row ls m) u low ∙ k.exactly m u h low)) (k.exactly m u h low);
  ends = λ m h. row-with_row ls l q (λ w. So (padded w)) m (λ e. rw (← e) (padded-turned (row ls m) (k.ends m h))) (k.ends m h);
}
  where
    q : List ℕ
    q = turned (row ls l)
