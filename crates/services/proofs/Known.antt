-- A name that is known has the number of a service, and such a number makes its call.
-- It rests on the table of services, through its size and its range of numbers.
use Prim.Native.Nat.{ℕ, suc, ◌+◌, ◌≤◌}
use mathlib.Core.Path.{◌≡◌, ◌∙◌}
use mathlib.Core.Bool.{true}
use mathlib.Core.List.{List, [], ◌∷◌}
use native.Mathlib.Omega.{arith}
use lib.ListN.{length}
use borrow.Author.Tests.{le-leb}
use Rattle.text.proofs.Reading.{cond_by}
use Rattle.model.specs.declared.Call.{Call}
use Rattle.model.specs.Plan.{within}
use Rattle.model.specs.Services.{Service, services, service}
use Rattle.services.specs.declared.names.Name.{Name}
use Rattle.std.specs.Prelude.{Option, Some, None, IfSome}
use Rattle.services.specs.Names.{label, begun, name_in, name_of}
use Rattle.services.specs.Calls.{how_many, is_service, asked}
use Rattle.services.proofs.Table.{table_size}

abbrev pub OfService : Option Name → Type 0
OfService o = IfSome o (λ x. is_service x.number ≡ true)

in_range : (k : ℕ) → 1 ≤ k → k ≤ how_many → is_service k ≡ true
unfolding within
in_range k h g = rw (le-leb 1 k h, le-leb k how_many g)

name_among : (xs : List Service) (k : ℕ) (s : List ℕ) → 1 ≤ k → k + length xs ≤ suc how_many → OfService (name_in xs k s)
unfolding name_in
name_among [] k s h g = tt
name_among (x ∷ xs) k s h g =
    cond_by OfService (begun s x) (Some (record { number = k; next = length (label x) })) (name_in xs (k + 1) s)
    (λ e. in_range k h (omega arith)) (name_among xs (k + 1) s (omega arith) (omega arith))

pub name_known : (s : List ℕ) → OfService (name_of s)
unfolding name_of
name_known s = name_among services 1 s (omega arith) (rw table_size (omega arith))

-- r is what was asked for
pub call_made : (n a b c d : ℕ) {r : Option Call} {q : Call} → is_service n ≡ true → r ≡ asked n a b c d → r ≡ Some q → q ≡ (service n).call a b c d
unfolding asked
call_made n a b c d {r} h e g =
    let f : r ≡ Some ((service n).call a b c d) = e ∙ rw h in
    cc

pub call_there : (n a b c d : ℕ) {r : Option Call} → is_service n ≡ true → r ≡ asked n a b c d → r ≡ None → ⊥
unfolding asked
call_there n a b c d {r} h e g =
    let f : r ≡ Some ((service n).call a b c d) = e ∙ rw h in
    let z : ◌≡◌ {A = ℕ} 0 1 = cc in
    omega arith
