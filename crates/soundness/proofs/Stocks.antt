-- What soundness says of the data queues: beside other records, whose waits fit the numbers, and with other numbers of one queue, which fit its waiters.
-- It rests on `SoundQueues` of model/specs/Sound alone.
use mathlib.Core.Path.{◌≡◌, sym, ◌∙◌, subst}
use mathlib.Core.List.{List}
use mathlib.Core.Logic.{⊎_elim}
use Prim.Native.Nat.{ℕ, ◌+◌, ◌≤◌, ◌<◌}
use native.Mathlib.Omega.{arith}
use lib.Dec.{T as So}
use lib.ListN.{length, get_or, drop}
use Rattle.model.specs.declared.Task.{Task}
use Rattle.model.specs.DataQueue.{places_of}
use Rattle.model.specs.Task.{no_task, a_send, a_receive, row_of}
use Rattle.model.specs.Test.{zeros}
use Rattle.model.specs.Sound.{at, SoundQueues}
use Rattle.laws.proofs.Number.{same?}

-- a record that waits on a data queue with capacity c - 1 and n elements stored: to receive, beside no element; to send, beside no free room
abbrev pub Unserved : ℕ → ℕ → Task → Type 0
Unserved c n x = (1 ≤ c) × (x.wait.kind ≡ a_receive → n ≡ 0) × (x.wait.kind ≡ a_send → n + 1 ≡ c)

module _ {xs : List Task} {cs ns es : List ℕ} (k : SoundQueues xs cs ns es) where
  pub unserved : (q t : ℕ) → 1 ≤ q → q ≤ 8 → row_of (get_or xs t no_task) ≡ q + 20 → Unserved (at cs q) (at ns q) (get_or xs t no_task)
  unserved q t low top e = (k.waited q t low top e, k.receives q t low top e, k.sends q t low top e)

  -- ---- the same numbers beside other records
  pub queues_of_lem : {ys : List Task} → ((q t : ℕ) → 1 ≤ q → q ≤ 8 → row_of (get_or ys t no_task) ≡ q + 20 → Unserved (at cs q) (at ns q) (get_or ys t no_task))
      → ((q t u : ℕ) → 1 ≤ q → q ≤ 8 → row_of (get_or ys t no_task) ≡ q + 20 → row_of (get_or ys u no_task) ≡ q + 20 → (get_or ys t no_task).wait.kind ≡ (get_or ys u no_task).wait.kind) → SoundQueues ys cs ns es
  queues_of_lem waits alike = record {
    capacities# = k.capacities#;
    taken# = k.taken#;
    elements# = k.elements#;
    unused = k.unused;
    capacities = k.capacities;
    none = k.none;
    within = k.within;
    past = k.past;
    waited = λ q t low top e. (waits q t low top e).0;
    receives = λ q t low top e. (waits q t low top e).1;
    sends = λ q t low top e. (waits q t low top e).2;
    alike = alike;
  }

-- ---- other numbers of queue q
-- capacity c - 1 and n elements stored, in the places ps, fit those who wait on q
pub record QueueFits (xs : List Task) (q c n : ℕ) (ps : List ℕ) : Type 0 where
  pub capacity : c ≤ 17
  pub none : c ≡ 0 → n ≡ 0
  pub within : 1 ≤ c → n < c
  pub past : So (zeros (drop n ps))
  pub waits : (t : ℕ) → row_of (get_or xs t no_task) ≡ q + 20 → Unserved c n (get_or xs t no_task)

module _ {xs : List Task} {cs ns es : List ℕ} (k : SoundQueues xs cs ns es) (q : ℕ) (some : 1 ≤ q) (cs' ns' es' : List ℕ) where
  pub restocked : (length cs' ≡ 9) × (length ns' ≡ 9) × (length es' ≡ 144) → ((r : ℕ) → (r ≡ q → ⊥) → (at cs' r ≡ at cs r) × (at ns' r ≡ at ns r))
      → ((r : ℕ) → r ≤ 8 → (r ≡ q → ⊥) → places_of es' r ≡ places_of es r) → QueueFits xs q (at cs' q) (at ns' q) (places_of es' q) → SoundQueues xs cs' ns' es'
  restocked long others elsewhere fits = record {
    capacities# = long.0;
    taken# = long.1;
    elements# = long.2;
    unused = (others 0 (λ e. omega arith)).0 ∙ k.unused;
    capacities = by (λ r c n. c ≤ 17) fits.capacity k.capacities;
    none = by (λ r c n. c ≡ 0 → n ≡ 0) fits.none k.none;
    within = by (λ r c n. 1 ≤ c → n < c) fits.within k.within;
    past = λ r top. ⊎_elim
        (λ (e : r ≡ q). subst (λ i. So (zeros (drop (at ns' i) (places_of es' i)))) (sym e) fits.past)
        (λ (other : r ≡ q → ⊥). rw ((others r other).1, elsewhere r top other) (k.past r top))
        (same? r q);
    waited = λ r t low top e. (waits r t low top e).0;
    receives = λ r t low top e. (waits r t low top e).1;
    sends = λ r t low top e. (waits r t low top e).2;
    alike = k.alike;
  }
    where
      -- what holds of q's new numbers, and of the others', holds of each
      by : (P : ℕ → ℕ → ℕ → Type 0) → P q (at cs' q) (at ns' q) → ((r : ℕ) → P r (at cs r) (at ns r)) → (r : ℕ) → P r (at cs' r) (at ns' r)
      by P here else r = ⊎_elim
          (λ (e : r ≡ q). subst (λ i. P i (at cs' i) (at ns' i)) (sym e) here)
          (λ (other : r ≡ q → ⊥). rw ((others r other).0, (others r other).1) (else r))
          (same? r q)

      waits : (r t : ℕ) → 1 ≤ r → r ≤ 8 → row_of (get_or xs t no_task) ≡ r + 20 → Unserved (at cs' r) (at ns' r) (get_or xs t no_task)
      waits r t = by (λ i c n. 1 ≤ i → i ≤ 8 → row_of (get_or xs t no_task) ≡ i + 20 → Unserved c n (get_or xs t no_task)) (λ _ _. fits.waits t) (λ i. unserved k i t) r
