-- The table of services is right in itself: no two names fit the same line, and the call of each row is of the service of its number.
-- antt computes the tests over all rows.
use Prim.Native.Nat.{ℕ, zero, suc, ◌≤◌}
use mathlib.Core.Path.{◌≡◌, refl, ◌∙◌}
use mathlib.Core.Bool.{Bool, true, false, not, ◌&&◌}
use mathlib.Core.List.{List, [], ◌∷◌}
use native.Mathlib.Omega.{arith}
use lib.Dec.{T as So, leb}
use lib.ListN.{length}
use borrow.Author.Tests.{leb-true}
use Rattle.text.specs.Bytes.{begins}
use Rattle.model.specs.Plan.{within}
use Rattle.model.specs.Services.{Service, services, service, service_number}
use Rattle.model.proofs.Words.{table}
use Rattle.services.specs.Names.{label}
use Rattle.services.specs.Calls.{how_many, is_service}
use Rattle.services.proofs.Numbers.{fits, at_place}

-- neither name with its comma begins the other
pub apart : Service → List Service → Bool
apart x [] = true
apart x (y ∷ ys) = not (begins (label x) (label y)) && not (begins (label y) (label x)) && apart x ys

-- apart, and four numbers at most
pub right : List Service → Bool
right [] = true
right (x ∷ xs) = leb (length x.fields) 4 && apart x xs && right xs

pub table_right : right services ≡ true
unfolding right apart table label begins
table_right = refl

pub table_size : length services ≡ how_many
unfolding table
table_size = refl

-- the call of each row, from 1 on, is of the service of its number, whatever the numbers are
table_agrees : (a b c d : ℕ) → So (fits (λ (x : Service). service_number (x.call a b c d)) (λ k. k) 1 services)
unfolding fits table
table_agrees a b c d = tt

-- ---- what a range test of a number tells
pub service_low : (n : ℕ) → is_service n ≡ true → 1 ≤ n
unfolding within
service_low n h = go (leb 1 n) refl h
  where
    go : (b : Bool) → leb 1 n ≡ b → b && leb n how_many ≡ true → 1 ≤ n
    go true e h = leb-true 1 n e
    go false e h = let z : ◌≡◌ {A = ℕ} 0 1 = cc in omega arith

pub service_top : (n : ℕ) → is_service n ≡ true → n ≤ how_many
unfolding within
service_top n h = go (leb 1 n) h
  where
    go : (b : Bool) → b && leb n how_many ≡ true → n ≤ how_many
    go true h = leb-true n how_many h
    go false h = let z : ◌≡◌ {A = ℕ} 0 1 = cc in omega arith

-- table and calls agree: a service makes calls of its own number
pub number_of_call : (n a b c d : ℕ) → is_service n ≡ true → service_number ((service n).call a b c d) ≡ n
unfolding service
number_of_call zero a b c d h = absurd (omega (arith, service_low 0 h))
number_of_call (suc k) a b c d h =
    at_place (λ (x : Service). service_number (x.call a b c d)) (λ i. i) 1 services (table_agrees a b c d) _ k (rw table_size (omega (arith, service_top (suc k) h))) ∙ omega arith
