-- Runs of stores, and the text that a buffer takes where it has room.
-- It rests on lib.Seq's `sets`, whose laws hold past the end of the list too.
use Prim.Native.Nat.{ℕ, suc, ◌+◌, ◌≤◌}
use mathlib.Core.Path.{◌≡◌, refl, sym}
use mathlib.Core.Bool.{Bool, true, false, cond}
use mathlib.Core.List.{List, [], ◌∷◌, ◌++◌, append_assoc}
use native.Mathlib.Nat.{add-zero, add-suc, suc-add}
use native.Mathlib.Omega.{arith}
use lib.Dec.{leb}
use lib.ListN.{length, set, length-append}
use lib.Seq.{sets, set_comm, length-sets, drop-drop}
use borrow.Rule.Slice.PartMut.{put_mid}
use Rattle.std.proofs.lemmas.List.Edits.{sets-eq}
use borrow.Author.Tests.{leb-true, le-leb}
use Rattle.text.specs.Bytes.{put, place_after}

pub sets_append : (l : List ℕ) (i : ℕ) (xs ys : List ℕ) → sets l i (xs ++ ys) ≡ sets (sets l i xs) (i + length xs) ys
sets_append l i [] ys = rw (add-zero i)
sets_append l i (x ∷ xs) ys = rw (add-suc i (length xs), ← (suc-add i (length xs))) (sets_append (set l i x) (suc i) xs ys)

-- a store right after the run is the run's last
pub set_then : (l : List ℕ) (i : ℕ) (xs : List ℕ) (x : ℕ) (k : ℕ) → k ≡ i + length xs → sets (set l k x) i xs ≡ sets l i (xs ++ (x ∷ []))
set_then l i [] x k e = rw (e, add-zero i)
set_then l i (y ∷ xs) x k e =
    rw (set_comm l k i x y (λ q. omega arith)) (set_then (set l i y) (suc i) xs x k (omega arith))

-- what `copy_from_slice` leaves of the buffer
pub sets_copied : (l : List ℕ) (at n : ℕ) (t : List ℕ) → n ≡ length t → at + length t ≤ length l → put_mid at n l t ≡ sets l at t
sets_copied l at n t e h = rw (e, sets-eq t l at h) (simp (append_assoc, drop-drop))

-- r is what `has_room` answered
pub room : {r : Bool} (at n places : ℕ) → r ≡ leb (at + n) places → r ≡ true → at + n ≤ places
room at n places e h = leb-true (at + n) places (rw e at h)

-- a text with room for it is stored
module _ (buf : List ℕ) (at : ℕ) (t : List ℕ) where
  pub put_room : at + length t ≤ length buf → put buf at t ≡ sets buf at t
  unfolding put
  put_room h = rw (le-leb (at + length t) (length buf) h)

  pub after_room : at + length t ≤ length buf → place_after buf at t ≡ at + length t
  unfolding place_after
  after_room h = rw (le-leb (at + length t) (length buf) h)

  -- one without room leaves the buffer and the place
  pub put_none : {r : Bool} → r ≡ leb (at + length t) (length buf) → r ≡ false → buf ≡ put buf at t
  unfolding put
  put_none e h = rw (← e, h)

  pub after_none : {r : Bool} → r ≡ leb (at + length t) (length buf) → r ≡ false → at ≡ place_after buf at t
  unfolding place_after
  after_none e h = rw (← e, h)

  after_most : place_after buf at t ≤ at + length t
  unfolding place_after
  after_most = go (leb (at + length t) (length buf))
    where
      go : (b : Bool) → cond b (at + length t) at ≤ at + length t
      go true = omega arith
      go false = omega arith

  -- the buffer's length stays
  pub length-put : length (put buf at t) ≡ length buf
  unfolding put
  length-put = go (leb (at + length t) (length buf))
    where
      go : (b : Bool) → length (cond b (sets buf at t) buf) ≡ length buf
      go true = length-sets buf at t
      go false = refl

-- the place after, with room or without, is not far
pub after_near : (buf : List ℕ) (at : ℕ) (t : List ℕ) (r : ℕ) → r ≡ place_after buf at t → r ≤ at + length t
after_near buf at t r e = omega (arith, e, after_most buf at t)

-- where both have room, one text after another is the two as one
module _ (buf : List ℕ) (at : ℕ) (xs ys : List ℕ) (h : at + length (xs ++ ys) ≤ length buf) where
  both : at + length xs + length ys ≤ length buf
  both = omega (arith, length-append xs ys)

  first : at + length xs ≤ length buf
  first = omega (arith, both)

  second : at + length xs + length ys ≤ length (sets buf at xs)
  second = omega (arith, both, length-sets buf at xs)

  pub put_append : put (put buf at xs) (place_after buf at xs) ys ≡ put buf at (xs ++ ys)
  put_append = rw (after_room buf at xs first, put_room buf at xs first, put_room (sets buf at xs) (at + length xs) ys second, put_room buf at (xs ++ ys) h) (sym (sets_append buf at xs ys))

  pub after_append : place_after (put buf at xs) (place_after buf at xs) ys ≡ place_after buf at (xs ++ ys)
  after_append = rw (after_room buf at xs first, put_room buf at xs first, after_room (sets buf at xs) (at + length xs) ys second, after_room buf at (xs ++ ys) h) (omega (arith, length-append xs ys))
