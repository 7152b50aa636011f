-- What crossing a row off says: each task that stands there wanted it, stands there once, and wants nothing then.
-- And a row of which that holds is crossed off. Rests on Tests.
use mathlib.Core.Path.{◌≡◌, refl, sym, ◌∙◌}
use mathlib.Core.Bool.{Bool, true, false, cond}
use mathlib.Core.List.{List, [], ◌∷◌}
use mathlib.Core.Logic.{◌⊎◌, inl, inr, ⊎_elim}
use Prim.Native.Nat.{ℕ, ◌≤◌}
use native.Mathlib.Decide.{ℕ_discrete}
use native.Mathlib.Omega.{arith}
use lib.Dec.{eqb}
use lib.ListN.{get_or, set}
use lib.Seq.{get_or-set_other}
use borrow.Author.Tests.{eq-eqb, ne_eqb}
use Rattle.model.specs.Test.{occ, lists_only, is_listed}
use Rattle.crossing.specs.Crossing.{crosses, crossed}
use Rattle.crossing.proofs.Tests.{both, and_both, listed_by, listed_as, zeros-occ, cleared, occ_here, occ_other, occ_tail, lists_only_more}

-- the tasks that want row l
abbrev pub wanting : List ℕ → ℕ → ℕ → Bool
wanting w l t = is_listed l (get_or w t 0)

-- t does not stand in the row and wants what it did; or it stands there once, wanted the row and wants nothing now
abbrev pub Fate : ℕ → List ℕ → List ℕ → ℕ → Type 0
Fate l q w t =
    ((occ t q ≡ 0) × (get_or (crossed l q w) t 0 ≡ get_or w t 0))
    ⊎ ((occ t q ≡ 1) × (get_or w t 0 ≡ l) × (get_or (crossed l q w) t 0 ≡ 0))

pub fate : (l : ℕ) (q w : List ℕ) → crosses l q w ≡ true → (t : ℕ) → 1 ≤ t → Fate l q w t
unfolding crosses crossed occ
fate l [] w h t p = inl (refl, refl)
fate l (x ∷ q) w h t p = elim (ℕ_discrete x 0) [
  | yes e ↦ inl (occ_other t x q (λ k. omega arith) ∙ zeros-occ q t (rw (eq-eqb x 0 e) at h) p, rw (eq-eqb x 0 e))
  | no n ↦
      let b = both (wanting w l x) (crosses l q (set w x 0)) (rw (ne_eqb x 0 n) at h) in
      let a = listed_by l (get_or w x 0) b.0 in
      elim (ℕ_discrete x t) [
        | yes e ↦ ⊎_elim
            (λ k. inr (omega (arith, occ_here t x q e, k.0), rw (← e) a.1, rw (ne_eqb x 0 n, b.0) (k.1 ∙ rw (← e) (cleared w x))))
            (λ k. absurd (a.0 (sym k.1 ∙ rw (← e) (cleared w x))))
            (fate l q (set w x 0) b.1 t p)
        | no d ↦
            let o = occ_other t x q d in
            let g = get_or-set_other w x t 0 0 (λ k. d (sym k)) in
            ⊎_elim
            (λ k. inl (o ∙ k.0, rw (ne_eqb x 0 n, b.0) (k.1 ∙ g)))
            (λ k. inr (o ∙ k.0, sym g ∙ k.1, rw (ne_eqb x 0 n, b.0) k.2))
            (fate l q (set w x 0) b.1 t p)
      ]
]

-- what wants a row as x is crossed off wanted it before
kept : (w : List ℕ) (l x t : ℕ) → wanting (set w x 0) l t ≡ true → wanting w l t ≡ true
kept w l x t h =
    let a = listed_by l (get_or (set w x 0) t 0) h in
    elim (ℕ_discrete t x) [
      | yes e ↦ absurd (a.0 (sym a.1 ∙ rw e (cleared w x)))
      | no d ↦ listed_as l (get_or w t 0) a.0 (sym (get_or-set_other w x t 0 0 d) ∙ a.1)
    ]

-- a row that is crossed off lists only tasks that want it
pub crossed_lists : (l : ℕ) (q w : List ℕ) → crosses l q w ≡ true → lists_only (wanting w l) q ≡ true
unfolding crosses lists_only
crossed_lists l [] w h = refl
crossed_lists l (x ∷ q) w h = elim (ℕ_discrete x 0) [
  | yes e ↦ rw (eq-eqb x 0 e) (rw (eq-eqb x 0 e) at h)
  | no n ↦
      let b = both (wanting w l x) (crosses l q (set w x 0)) (rw (ne_eqb x 0 n) at h) in
      rw (ne_eqb x 0 n) (and_both (wanting w l x) (lists_only (wanting w l) q) b.0
      (lists_only_more (wanting (set w x 0) l) (wanting w l) q (λ t p o. kept w l x t) (crossed_lists l q (set w x 0) b.1)))
]

-- a row that lists only tasks that want it, none of them twice, is crossed off
pub lists_crossed : (l : ℕ) (q w : List ℕ) → lists_only (wanting w l) q ≡ true → ((t : ℕ) → 1 ≤ t → wanting w l t ≡ true → occ t q ≤ 1) → crosses l q w ≡ true
unfolding crosses lists_only
lists_crossed l [] w h once = refl
lists_crossed l (x ∷ q) w h once = elim (ℕ_discrete x 0) [
  | yes e ↦ rw (eq-eqb x 0 e) (rw (eq-eqb x 0 e) at h)
  | no n ↦
      let b = both (wanting w l x) (lists_only (wanting w l) q) (rw (ne_eqb x 0 n) at h) in
      let o = once x (omega arith) b.0 in
      let gone : occ x q ≡ 0 = omega (arith, occ_here x x q refl) in
      rw (ne_eqb x 0 n) (and_both (wanting w l x) (crosses l q (set w x 0)) b.0
      (lists_crossed l q (set w x 0)
      (lists_only_more (wanting w l) (wanting (set w x 0) l) q (λ t p k m. rw (get_or-set_other w x t 0 0 (λ e. omega (arith, rw e at k))) m) b.1)
      (λ t p k. omega (arith, occ_tail t x q, once t p (kept w l x t k)))))
]

-- who wants nothing goes on so
pub crossed_none : (l : ℕ) (q w : List ℕ) (t : ℕ) → get_or w t 0 ≡ 0 → get_or (crossed l q w) t 0 ≡ 0
unfolding crossed
crossed_none l [] w t h = h
crossed_none l (x ∷ q) w t h = go (eqb x 0) (wanting w l x) (crossed_none l q (set w x 0) t unset)
  where
    unset : get_or (set w x 0) t 0 ≡ 0
    unset = elim (ℕ_discrete t x) [ yes e ↦ rw e (cleared w x) | no d ↦ get_or-set_other w x t 0 0 d ∙ h ]

    go : (a b : Bool) → get_or (crossed l q (set w x 0)) t 0 ≡ 0 → get_or (cond a w (cond b (crossed l q (set w x 0)) w)) t 0 ≡ 0
    go true b k = h
    go false true k = k
    go false false k = h
