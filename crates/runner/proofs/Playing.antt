-- What the runner keeps on its walk along a list: the rows so far, a number each, and the length of their text.
-- It rests on Walking in walk.
use Prim.Native.Nat.{ℕ, suc, ◌+◌, ◌*◌, ◌<◌, ◌≤◌}
use mathlib.Core.Path.{◌≡◌, refl, ap, sym, ◌∙◌}
use mathlib.Core.Bool.{Bool}
use Rattle.std.specs.Prelude.{Some, None, Ok, Err}
use mathlib.Core.List.{List, [], ◌∷◌, ◌++◌, map, append-nil}
use native.Mathlib.Numerals.{add-one}
use native.Mathlib.Nat.{add-zero, zero-add}
use native.Mathlib.Omega.{arith}
use lib.ListN.{length, set, take, drop, length-append, length-set}
use lib.Seq.{take-suc-set}
use Rattle.model.specs.declared.State.{State}
use Rattle.model.specs.State.{fresh}
use Rattle.model.specs.Call.{step_from}
use Rattle.step.specs.declared.Stepped.{Stepped}
use Rattle.step.specs.Answer.{answer_of}
use Rattle.lines.specs.declared.line.Line.{Line}
use Rattle.lines.specs.Lines.{line_of}
use Rattle.lines.proofs.Long.{extra, line_has}
use Rattle.walk.specs.Script.{script_in}
use Rattle.walk.specs.Rows.{Row, row_text, rows_text}
use Rattle.walk.proofs.Playing.{faulted, played, reaches}
use Rattle.walk.proofs.Walking as walking
use Rattle.walk.proofs.Walking.{Walk, answer_row}
use Rattle.runner.specs.declared.Played.{Played}
use Rattle.runner.specs.declared.Refusal.{Refusal}
use Rattle.runner.specs.declared.Refusal.TheVariants.{Unreadable}
use Rattle.answers.specs.Slots.{slot_of, kept_text, kept_of}
use Rattle.runner.specs.Kept.{keep, Plays as Keeps}
use Rattle.runner.proofs.Scripts.{row_kept}

pub record Left (wide : Bool) (file : List ℕ) (h : ℕ) (ks : List ℕ) (at n size run : ℕ) (s : State) : Type 0 where
  pub rows : List Row
  pub walk : Walk wide file h rows at n run s
  pub short : size ≤ 16 + 20 * n
  pub places : length ks ≡ 3639
  pub kept : take n ks ≡ map keep rows
  pub total : size ≡ 16 + length (rows_text 1 rows)

pub starts : (wide : Bool) (file : List ℕ) (h : ℕ) (ks : List ℕ) → (h < length file → 18 ≤ h) → h ≤ length file → length ks ≡ 3639
    → Left wide file h ks h 0 16 0 fresh
unfolding rows_text
starts wide file h ks p q a = record { rows = []; walk = walking.starts wide file h p q; short = omega arith; places = a; kept = refl; total = refl }

-- the text of one row more
length_snoc : (n : ℕ) (rows : List Row) (y : Row) → length (rows_text n (rows ++ (y ∷ []))) ≡ length (rows_text n rows) + length (row_text (n + length rows) y)
unfolding rows_text
length_snoc n [] y = rw (add-zero n, append-nil (row_text n y), zero-add)
length_snoc n (r ∷ rows) y =
    let e : n + 1 + length rows ≡ n + suc (length rows) = omega arith in
    simp length-append (omega (arith, length_snoc (n + 1) rows y, ap (λ (k : ℕ). length (row_text k y)) e))

map_snoc : {A : Type 0} (f : A → ℕ) (xs : List A) (y : A) → map f xs ++ (f y ∷ []) ≡ map f (xs ++ (y ∷ []))
map_snoc f [] y = refl
map_snoc f (x ∷ xs) y = ap (λ (r : List ℕ). f x ∷ r) (map_snoc f xs y)

module _ (wide : Bool) (file : List ℕ) (h : ℕ) (ks : List ℕ) (at n size run : ℕ) (s : State) (fits : length file ≤ 65536) (l : Left wide file h ks at n size run s) where
  -- the end of the file
  pub ends : (r : Played) → length file ≤ at → r.count ≡ n → r.total ≡ size → Keeps (Ok r) ks (script_in wide h file 2)
  ends r e g t =
      let z = walking.ends wide file h l.rows at n run s l.walk e in
      (l.places, record { none = z.0; count = rw (g, ← z.1) (sym l.walk.many); rows = rw (g, ← z.1) l.kept; total = rw (t, ← z.1) l.total })

  -- a line that can't be read
  pub stops : at < length file → line_of wide (drop at file) ≡ None → (e : Refusal) → e ≡ Unreadable (n + 2) → Keeps (Err e) ks (script_in wide h file 2)
  stops more g e f =
      let z = walking.stops wide file h l.rows at n run s l.walk more None s (faulted run at s (line_of wide (drop at file)) g) refl in
      (l.places, f ∙ ap Unreadable z, omega (arith, z))

  -- a line follows: few came before it
  pub few : at < length file → n ≤ 3639
  few more = omega (arith, l.walk.behind more)

  -- a line that can, and its step
  module _ (more : at < length file) (x : Line) (g : line_of wide (drop at file) ≡ Some x) where
    has : 17 + extra wide ≤ x.next
    has = rw g at (line_has wide (drop at file))

    -- it ends further on, and within the file
    pub within : (at < at + x.next) × (at + x.next ≤ length file)
    within = (omega (arith, has), reaches wide file at x (omega arith) g)

    -- so there is a place for its row
    pub room : n < 3639
    room = omega (arith, has, within.1, l.walk.behind more)

    module _ (r : Stepped) (s' : State) (i : answer_of r s' ≡ step_from run s x.context x.call) where
      onward : (at < at + x.next) × Walk wide file h (l.rows ++ (answer_row r ∷ [])) (at + x.next) (n + 1) r.running s'
      onward = walking.on wide file h l.rows at n run s l.walk more (Some (record { answer = r; next = at + x.next })) s' (played run at s (line_of wide (drop at file)) x r s' g i) r (at + x.next) refl

      pub turns : (v k j : ℕ) → v ≡ slot_of r.code → k ≡ kept_of r.code r.running → (j ≡ length (kept_text (n + 1) v r.running)) × (j ≤ 20)
          → Left wide file h (set ks n k) (at + x.next) (n + 1) (size + j) r.running s'
      turns v k j f q w =
          let e : 1 + length l.rows ≡ n + 1 = omega (arith, l.walk.many) in
          record {
            rows = l.rows ++ (answer_row r ∷ []);
            walk = onward.1;
            short = omega (arith, l.short, w.1);
            places = length-set ks n k ∙ l.places;
            kept = rw (add-one n, take-suc-set ks n k (omega (arith, l.places, room)), l.kept, q) (map_snoc keep l.rows (answer_row r));
            total = omega (arith, l.total, w.0, length_snoc 1 l.rows (answer_row r), ap (λ (i : ℕ). length (row_text i (answer_row r))) e, ap length (row_kept (n + 1) (answer_row r)), ap (λ (u : ℕ). length (kept_text (n + 1) u r.running)) f);
          }
