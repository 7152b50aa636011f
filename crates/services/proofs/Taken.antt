-- What the services take, place by place: the same at every number but a few, and nothing past the fourth field or past the table.
-- antt computes the tests over all numbers; which fields take a timeout is told in full.
use Prim.Native.Nat.{ℕ, zero, suc, ◌<◌, ◌≤◌}
use mathlib.Core.Path.{◌≡◌, refl}
use mathlib.Core.Bool.{Bool, true, false, ◌||◌}
use mathlib.Core.List.{List, [], ◌∷◌, ◌++◌}
use native.Mathlib.Omega.{arith}
use native.Mathlib.Decide.{dec_lt}
use lib.Dec.{T as So, leb, leb→le}
use lib.ListN.{length, get_or-eq_default}
use Rattle.model.specs.Services.{Field, services, service}
use Rattle.model.proofs.Words.{table}
use Rattle.services.specs.declared.takes.Takes.{Takes}
use Rattle.services.specs.declared.takes.Takes.TheVariants.{Blank, Plain, Timeout}
use Rattle.services.specs.Takes.{takes_in, takes_at}
use Rattle.services.specs.Calls.{how_many}
use Rattle.services.proofs.Numbers.{Rest, has, none_is, below, at_number}
use Rattle.services.proofs.Table.{table_size}

abbrev same : Takes → Takes → Bool
same Blank Blank = true
same Blank Plain = false
same Blank Timeout = false
same Plain Blank = false
same Plain Plain = true
same Plain Timeout = false
same Timeout Blank = false
same Timeout Plain = false
same Timeout Timeout = true

same_is : (x y : Takes) → So (same x y) → x ≡ y
same_is Blank Blank t = refl
same_is Blank Plain t = absurd t
same_is Blank Timeout t = absurd t
same_is Plain Blank t = absurd t
same_is Plain Plain t = refl
same_is Plain Timeout t = absurd t
same_is Timeout Blank t = absurd t
same_is Timeout Plain t = absurd t
same_is Timeout Timeout t = refl

-- ---- past the table, and past the fields
no_fields : (n : ℕ) → how_many < n → (service n).fields ≡ []
unfolding service
no_fields zero h = absurd (omega arith)
no_fields (suc k) h = rw (get_or-eq_default services _ {n = k} (rw table_size (omega arith)))

pub past_table : (n i : ℕ) → how_many < n → takes_at n i ≡ Blank
unfolding takes_at takes_in
past_table n i h = rw (no_fields n h)

past_fields : (xs : List Field) (i : ℕ) → length xs ≤ i → takes_in xs i ≡ Blank
unfolding takes_in
past_fields [] i h = refl
past_fields (x ∷ xs) zero h = absurd (omega arith)
past_fields (x ∷ xs) (suc i) h = past_fields xs i (omega arith)

four_at_most : So (below (suc how_many) (λ n. leb (length (service n).fields) 4))
unfolding below table
four_at_most = tt

pub past_d : (n i : ℕ) → 4 ≤ i → takes_at n i ≡ Blank
unfolding takes_at
past_d n i h = go (dec_lt n (suc how_many))
  where
    go : Dec (n < suc how_many) → takes_in (service n).fields i ≡ Blank
    go (yes g) = past_fields (service n).fields i (omega (arith, h, leb→le (length (service n).fields) 4 (at_number (suc how_many) (λ n. leb (length (service n).fields) 4) four_at_most n g)))
    go (no g) = past_fields (service n).fields i (rw (no_fields n (omega arith)) (omega arith))

-- ---- at every number of the table but those in ks
abbrev pub but_at : List ℕ → ℕ → Takes → Bool
but_at ks i x = below (suc how_many) (λ n. has ks n || same (takes_at n i) x)

pub others_take : (ks : List ℕ) (i : ℕ) (x : Takes) → So (but_at ks i x) → (n : ℕ) → Rest ks n Unit → n < suc how_many → takes_at n i ≡ x
others_take ks i x t n r h = go (has ks n) (λ u. none_is ks n Unit r n u refl) (at_number (suc how_many) (λ n. has ks n || same (takes_at n i) x) t n h)
  where
    go : (b : Bool) → (So b → ⊥) → So (b || same (takes_at n i) x) → takes_at n i ≡ x
    go true not u = absurd (not tt)
    go false not u = same_is (takes_at n i) x u

-- and past the table, where nothing is taken
pub others_blank : (ks : List ℕ) (i : ℕ) → So (but_at ks i Blank) → (n : ℕ) → Rest ks n Unit → takes_at n i ≡ Blank
others_blank ks i t n r = go (dec_lt n (suc how_many))
  where
    go : Dec (n < suc how_many) → takes_at n i ≡ Blank
    go (yes h) = others_take ks i Blank t n r h
    go (no h) = past_table n i (omega arith)

-- ---- the fields that take a timeout, each by its service's number and its place
abbrev if_timeout : Takes → ℕ × ℕ → List (ℕ × ℕ)
if_timeout Blank x = []
if_timeout Plain x = []
if_timeout Timeout x = x ∷ []

-- those among the first i of the service n, and of all services below n
pub timeouts_of : ℕ → ℕ → List (ℕ × ℕ)
timeouts_of n zero = []
timeouts_of n (suc i) = timeouts_of n i ++ if_timeout (takes_at n i) (n, i)

pub timeouts_below : ℕ → List (ℕ × ℕ)
timeouts_below zero = []
timeouts_below (suc n) = timeouts_below n ++ timeouts_of n 4

-- tn_task_sleep a, tn_sem_acquire b, tn_event_wait d, tn_queue_send c, tn_queue_receive b
pub these_take_timeouts : timeouts_below (suc how_many) ≡ (9, 0) ∷ (21, 1) ∷ (30, 3) ∷ (36, 2) ∷ (39, 1) ∷ []
unfolding timeouts_below timeouts_of takes_at takes_in table
these_take_timeouts = refl
