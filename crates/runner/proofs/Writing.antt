-- The loop that writes the kept rows: what is left of them, put where it stands, gives the whole. It rests on the stores of text.
use Prim.Native.Nat.{ℕ, ◌+◌, ◌<◌, ◌≤◌}
use mathlib.Core.Path.{◌≡◌, ap, sym, ◌∙◌}
use mathlib.Core.List.{List, ◌++◌}
use native.Mathlib.Numerals.{add-one}
use native.Mathlib.Omega.{arith}
use lib.ListN.{length, get_or, drop, length-append, drop_of_length-le}
use lib.Seq.{sets, length-sets, drop-cons}
use Rattle.text.specs.Bytes.{bytes, put, place_after}
use Rattle.text.proofs.Stores.{sets_append, put_room, after_room}
use Rattle.answers.specs.Slots.{kept_text, slot_in, runs_in}
use Rattle.runner.specs.Kept.{kept_rows}

-- the rows from place i on
abbrev pub left : List ℕ → ℕ → List ℕ
left ks i = kept_rows (i + 1) (drop i ks)

module _ (ks : List ℕ) (i : ℕ) (h : i < length ks) (v run : ℕ) (ev : v ≡ slot_in (get_or ks i 0)) (er : run ≡ runs_in (get_or ks i 0)) where
  left_next : left ks i ≡ kept_text (i + 1) v run ++ left ks (i + 1)
  unfolding kept_rows
  left_next = rw (er, ev, add-one i, drop-cons ks i 0 h)

  -- there is room for the next row
  fits : (b : List ℕ) (out : ℕ) → out + length (left ks i) ≤ length b → out + length (kept_text (i + 1) v run) ≤ length b
  fits b out r = omega (arith, ap length left_next, length-append (kept_text (i + 1) v run) (left ks (i + 1)))

  -- and it is written
  module _ (b b' : List ℕ) (out out' : ℕ) (r : out + length (left ks i) ≤ length b) (e : out' ≡ place_after b out (kept_text (i + 1) v run)) (f : b' ≡ put b out (kept_text (i + 1) v run)) where
    place : out' ≡ out + length (kept_text (i + 1) v run)
    place = e ∙ after_room b out (kept_text (i + 1) v run) (fits b out r)

    stores : b' ≡ sets b out (kept_text (i + 1) v run)
    stores = f ∙ put_room b out (kept_text (i + 1) v run) (fits b out r)

    pub room : out' + length (left ks (i + 1)) ≤ length b'
    room =
        omega (arith, ap length left_next, length-append (kept_text (i + 1) v run) (left ks (i + 1)), place, ap length stores, length-sets b out (kept_text (i + 1) v run))

    pub goes : (w : List ℕ) → sets b out (left ks i) ≡ w → sets b' out' (left ks (i + 1)) ≡ w
    goes w g =
        let k : sets b out (kept_text (i + 1) v run ++ left ks (i + 1)) ≡ w = rw left_next at g in
        rw (stores, place) (sym (sets_append b out (kept_text (i + 1) v run) (left ks (i + 1))) ∙ k)

-- nothing is left
pub over : (ks b : List ℕ) (out i : ℕ) (w : List ℕ) → length ks ≤ i → sets b out (left ks i) ≡ w → b ≡ w
unfolding kept_rows
over ks b out i w h g = rw (drop_of_length-le ks {i = i} h) at g

-- the header first
pub headed : (b b₁ w rows : List ℕ) (out : ℕ) → 16 + length rows ≤ length b → out ≡ place_after b 0 (bytes "n,code,running\r\n") → b₁ ≡ put b 0 (bytes "n,code,running\r\n") → w ≡ sets b₁ out rows
    → w ≡ sets b 0 (bytes "n,code,running\r\n" ++ rows)
headed b b₁ w rows out h e f g =
    let t = bytes "n,code,running\r\n" in
    let o : out ≡ 16 = e ∙ after_room b 0 t (omega arith) in
    let s : b₁ ≡ sets b 0 t = f ∙ put_room b 0 t (omega arith) in
    g ∙ rw (o, s) (sym (sets_append b 0 t rows))

pub header_room : (b b₁ rows : List ℕ) (out : ℕ) → 16 + length rows ≤ length b → out ≡ place_after b 0 (bytes "n,code,running\r\n") → b₁ ≡ put b 0 (bytes "n,code,running\r\n") → out + length rows ≤ length b₁
header_room b b₁ rows out h e f =
    let t = bytes "n,code,running\r\n" in
    omega (arith, e ∙ after_room b 0 t (omega arith), ap length (f ∙ put_room b 0 t (omega arith)), length-sets b 0 t)
