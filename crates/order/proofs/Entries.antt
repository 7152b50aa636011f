-- Laws of the ledger's entries: what is live after one more entry, and after some tasks give up.
-- They rest on specs/Ledger; of a state nothing is asked but who waits to receive.
use mathlib.Core.Path.{◌≡◌, refl, ap}
use mathlib.Core.Bool.{Bool, true, false, cond, not, ◌&&◌}
use mathlib.Core.List.{List, [], ◌∷◌, ◌++◌}
use Prim.Native.Nat.{ℕ}
use lib.Dec.{eqb}
use borrow.Author.Tests.{eq-eqb}
use Rattle.order.specs.Lists.{has, once, tasks, keeping}
use Rattle.model.specs.declared.State.{State}
use Rattle.order.specs.Ledger.{receivers, Sent, live, is_withdrawn, withdrawing, withdrawn_by, handed_to}
use Rattle.order.proofs.Lists.{or-true, has_behind, once_rest, tasks_append}

pub live_joined : (l : List Sent) (t e : ℕ) → live (l ++ (record { waiter = t; element = e; withdrawn = false } ∷ [])) ≡ live l ++ ((t, e) ∷ [])
unfolding live
live_joined [] t e = refl
live_joined (x ∷ l) t e = go x.withdrawn (live_joined l t e)
  where
    m : List Sent
    m = l ++ (record { waiter = t; element = e; withdrawn = false } ∷ [])

    go : (b : Bool) → live m ≡ live l ++ ((t, e) ∷ [])
        → cond b (live m) ((x.waiter, x.element) ∷ live m) ≡ cond b (live l) ((x.waiter, x.element) ∷ live l) ++ ((t, e) ∷ [])
    go true y = y
    go false y = ap (λ (q : List (ℕ × ℕ)). (x.waiter, x.element) ∷ q) y

-- ---- giving up
-- nobody does
pub withdrawn_none : (up : ℕ → Bool) (l : List Sent) → ((t : ℕ) → up t ≡ false) → withdrawn_by up l ≡ l
unfolding withdrawn_by
withdrawn_none up [] h = refl
withdrawn_none up (x ∷ l) h = rw (h x.waiter, withdrawn_none up l h)

-- of a list of live entries: those that stay
unfoldable pub leaving : (ℕ → Bool) → List (ℕ × ℕ) → List (ℕ × ℕ)
leaving up [] = []
leaving up (x ∷ rest) = cond (up x.0 && not (has x.0 (tasks rest))) (leaving up rest) (x ∷ leaving up rest)

pub live_withdrawn : (up : ℕ → Bool) (l : List Sent) → live (withdrawn_by up l) ≡ leaving up (live l)
unfolding live withdrawn_by leaving
live_withdrawn up [] = refl
live_withdrawn up (x ∷ l) = go x.withdrawn refl (is_withdrawn up x (live l)) refl (live_withdrawn up l)
  where
    y : Bool → Sent
    y b = withdrawing x b

    go : (c : Bool) → x.withdrawn ≡ c → (b : Bool) → is_withdrawn up x (live l) ≡ b → live (withdrawn_by up l) ≡ leaving up (live l)
        → cond (y b).withdrawn (live (withdrawn_by up l)) (((y b).waiter, (y b).element) ∷ live (withdrawn_by up l)) ≡ leaving up (cond c (live l) ((x.waiter, x.element) ∷ live l))
    go true e true d h = h
    go true e false d h = rw e h
    go false e true d h = rw d h
    go false e false d h = rw (e, d) (ap (λ (q : List (ℕ × ℕ)). (x.waiter, x.element) ∷ q) h)

-- who gives up has an entry further back: those before it stay
pub leaving_behind : (up : ℕ → Bool) (l w : List (ℕ × ℕ)) → ((t : ℕ) → up t ≡ true → has t (tasks w) ≡ true) → leaving up (l ++ w) ≡ l ++ leaving up w
unfolding leaving
leaving_behind up [] w h = refl
leaving_behind up (x ∷ l) w h = go (up x.0) refl (leaving_behind up l w h)
  where
    go : (b : Bool) → up x.0 ≡ b → leaving up (l ++ w) ≡ l ++ leaving up w
        → cond (b && not (has x.0 (tasks (l ++ w)))) (leaving up (l ++ w)) (x ∷ leaving up (l ++ w)) ≡ x ∷ (l ++ leaving up w)
    go true e y = rw (tasks_append l w, has_behind x.0 (tasks l) (tasks w) (h x.0 e)) (ap (λ (q : List (ℕ × ℕ)). x ∷ q) y)
    go false e y = ap (λ (q : List (ℕ × ℕ)). x ∷ q) y

-- where nobody stands twice, those who do not give up stay
pub leaving-once : (up : ℕ → Bool) (w : List (ℕ × ℕ)) → once (tasks w) ≡ true → leaving up w ≡ keeping (λ t. not (up t)) w
unfolding leaving keeping tasks
leaving-once up [] o = refl
leaving-once up (x ∷ w) o = let h = once_rest x.0 (tasks w) o in go (up x.0) h.0 (leaving-once up w h.1)
  where
    go : (b : Bool) → has x.0 (tasks w) ≡ false → leaving up w ≡ keeping (λ t. not (up t)) w
        → cond (b && not (has x.0 (tasks w))) (leaving up w) (x ∷ leaving up w) ≡ cond (not b) (x ∷ keeping (λ t. not (up t)) w) (keeping (λ t. not (up t)) w)
    go true h y = rw h y
    go false h y = ap (λ (q : List (ℕ × ℕ)). x ∷ q) y

-- ---- handing over
-- those who wait on are handed nothing
pub handed_none : (q : ℕ) (s' : State) (ts : List ℕ) → ((t : ℕ) → has t ts ≡ true → has t (receivers s' q) ≡ true) → handed_to q s' ts ≡ []
unfolding handed_to has
handed_none q s' [] h = refl
handed_none q s' (t ∷ ts) h = rw (h t (rw (eq-eqb t t refl))) (handed_none q s' ts (λ u y. h u (rw (y, or-true (eqb t u)))))
