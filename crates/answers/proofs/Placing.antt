-- Texts put into a buffer one after the other are one text put there. Rests on the stores of text.
use mathlib.Core.Path.{◌≡◌, sym, ap, ◌∙◌}
use mathlib.Core.List.{List, ◌++◌}
use Prim.Native.Nat.{ℕ, ◌+◌, ◌≤◌}
use native.Mathlib.Omega.{arith}
use lib.ListN.{length, length-append}
use lib.Seq.{sets, length-sets}
use Rattle.text.specs.Bytes.{put, place_after}
use Rattle.text.proofs.Stores.{sets_append, put_room, after_room}

-- the text t stands from `at` on, and i is the place after it
pub record Placed (b : List ℕ) (at : ℕ) (t : List ℕ) (i : ℕ) (b' : List ℕ) : Type 0 where
  pub place : i ≡ at + length t
  pub stores : b' ≡ sets b at t

pub placed : (b : List ℕ) (at : ℕ) (t : List ℕ) (i : ℕ) (b' : List ℕ) → at + length t ≤ length b → i ≡ place_after b at t → b' ≡ put b at t → Placed b at t i b'
placed b at t i b' h p q = record { place = p ∙ after_room b at t h; stores = q ∙ put_room b at t h }

-- the room for what follows
pub room_after : (b : List ℕ) (at : ℕ) (xs ys : List ℕ) (i : ℕ) (b' : List ℕ) → at + length (xs ++ ys) ≤ length b → Placed b at xs i b' → i + length ys ≤ length b'
room_after b at xs ys i b' h p =
    omega (arith, length-append xs ys, p.place, ap length p.stores, length-sets b at xs)

pub followed : (b : List ℕ) (at : ℕ) (xs ys : List ℕ) (i : ℕ) (b' : List ℕ) (j : ℕ) (b'' : List ℕ) → Placed b at xs i b' → Placed b' i ys j b'' → Placed b at (xs ++ ys) j b''
followed b at xs ys i b' j b'' p q = record {
  place = omega (arith, length-append xs ys, p.place, q.place);
  stores = q.stores ∙ rw (p.stores, p.place) (sym (sets_append b at xs ys));
}

-- the same, with the room for what follows seen to
pub then : (b : List ℕ) (at : ℕ) (xs ys : List ℕ) (i : ℕ) (b' : List ℕ) (j : ℕ) (b'' : List ℕ) → at + length (xs ++ ys) ≤ length b → i ≡ place_after b at xs → b' ≡ put b at xs
    → (i + length ys ≤ length b' → Placed b' i ys j b'') → Placed b at (xs ++ ys) j b''
then b at xs ys i b' j b'' h p q f =
    let a : Placed b at xs i b' = placed b at xs i b' (omega (arith, length-append xs ys)) p q in
    followed b at xs ys i b' j b'' a (f (room_after b at xs ys i b' h a))

-- what a callee says of a text it stored
pub stored : (b : List ℕ) (at : ℕ) (t : List ℕ) (i : ℕ) (b' : List ℕ) → (i ≡ at + length t) × (b' ≡ sets b at t) → Placed b at t i b'
stored b at t i b' e = record { place = e.0; stores = e.1 }

-- and what the caller is told of one that had room
pub whole : (b : List ℕ) (at : ℕ) (t : List ℕ) (i : ℕ) (b' : List ℕ) → at + length t ≤ length b → Placed b at t i b' → (i ≡ place_after b at t) × (b' ≡ put b at t)
whole b at t i b' h p = (p.place ∙ sym (after_room b at t h), p.stores ∙ sym (put_room b at t h))
