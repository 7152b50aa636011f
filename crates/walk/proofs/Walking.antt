-- A walk along a list: the rows so far and those of what is left are the rows of the whole, whoever walks it and whatever he keeps.
-- One law for each moment of the loop: before the first line, a line that reads, one that doesn't, the end. Rests on Scripts.
use Prim.Native.Nat.{ℕ, ◌+◌, ◌*◌, ◌<◌, ◌≤◌}
use mathlib.Core.Path.{◌≡◌, refl, ap, sym, ◌∙◌}
use mathlib.Core.Bool.{Bool}
use mathlib.Core.List.{List, [], ◌∷◌, ◌++◌, append-nil, append_assoc}
use Rattle.std.specs.Prelude.{Option, Some, None}
use native.Mathlib.Omega.{arith}
use lib.ListN.{length, drop, length-append, length-drop}
use Rattle.model.specs.declared.State.{State}
use Rattle.model.specs.Row.{row, best_from}
use Rattle.model.specs.State.{fresh}
use Rattle.model.specs.Call.{step_from, step}
use Rattle.step.specs.declared.Stepped.{Stepped}
use Rattle.step.proofs.Stepping.{step_from_lem, runs_on}
use Rattle.lines.specs.declared.line.Line.{Line}
use Rattle.lines.specs.Lines.{line_of}
use Rattle.lines.proofs.Within.{line_in}
use Rattle.lines.proofs.Long.{extra}
use Rattle.lines.proofs.Ended.{Before, line_ends}
use Rattle.walk.specs.declared.Turn.{Turn}
use Rattle.walk.specs.Script.{Script, done, next, script_in, fault_of}
use Rattle.walk.specs.Rows.{Row, rows_by}
use Rattle.walk.specs.Turn.{Turned, turn_in, stepped_of, turn_of}
use Rattle.walk.proofs.Scripts.{script_drop, script_end, script_fault, script_next}

-- the script from `at` on, where n calls were worked
abbrev rest : Bool → List ℕ → ℕ → ℕ → Script
rest wide file at n = script_in wide 0 (drop at file) (n + 2)

abbrev pub whole : Bool → List ℕ → ℕ → Script
whole wide file h = script_in wide h file 2

abbrev pub answer_row : Stepped → Row
answer_row r = record { code = r.code; running = r.running }

-- n lines of a list whose header has h bytes were walked; the next begins at `at`, the state is s, and `run` runs
pub record Walk (wide : Bool) (file : List ℕ) (h : ℕ) (rows : List Row) (at n run : ℕ) (s : State) : Type 0 where
  pub inside : at ≤ length file
  -- where a line follows, each line before it took 18 bytes at least, and the header too
  pub behind : at < length file → n * 18 + 18 ≤ at
  pub many : length rows ≡ n
  pub runs : run ≡ best_from 30 1 s.levels
  pub faults : fault_of (rest wide file at n) ≡ fault_of (whole wide file h)
  pub all : rows ++ rows_by step s (rest wide file at n) ≡ rows_by step fresh (whole wide file h)

-- for a loop that keeps nothing of the rows
pub record Walked (wide : Bool) (file : List ℕ) (h at n run : ℕ) (s : State) : Type 0 where
  pub rows : List Row
  pub walk : Walk wide file h rows at n run s

-- before the first line nobody runs
idle : 0 ≡ best_from 30 1 fresh.levels
unfolding best_from row
idle = refl

pub starts : (wide : Bool) (file : List ℕ) (h : ℕ) → (h < length file → 18 ≤ h) → h ≤ length file → Walk wide file h [] h 0 0 fresh
starts wide file h p q =
    let d : script_in wide 0 (drop h file) 2 ≡ script_in wide h file 2 = sym (script_drop wide h file 2) in
    record { inside = q; behind = p; many = refl; runs = idle; faults = rw d; all = rw d }

module _ (wide : Bool) (file : List ℕ) (h : ℕ) (rows : List Row) (at n run : ℕ) (s : State) (w : Walk wide file h rows at n run s) where
  -- at the end the rows are all
  pub ends : length file ≤ at → (fault_of (whole wide file h) ≡ 0) × (rows ≡ rows_by step fresh (whole wide file h))
  unfolding fault_of rows_by
  ends e =
      let d : rest wide file at n ≡ done = script_end wide file at (n + 2) e in
      (sym (rw d at w.faults), sym (append-nil (rows)) ∙ (rw d at w.all))

  module _ (more : at < length file) (t : Option Turn) (s' : State) (e : turn_in t s' ≡ turn_of run at s (line_of wide (drop at file))) where
    -- a line that can't be read
    pub stops : t ≡ None → n + 2 ≡ fault_of (whole wide file h)
    unfolding fault_of turn_of
    stops f = go (line_of wide (drop at file)) refl
      where
        go : (l : Option Line) → line_of wide (drop at file) ≡ l → n + 2 ≡ fault_of (whole wide file h)
        go None g = rw (script_fault wide file at (n + 2) more g) at w.faults
        go (Some x) g =
            let r = step_from run s x.context x.call in
            let p : ◌≡◌ {A = Option Turn} None (Some (record { answer = stepped_of r; next = at + x.next })) = sym f ∙ ap (λ (u : Turned). u.turn) (rw g at e) in
            let z : ◌≡◌ {A = ℕ} 0 1 = cc in absurd (omega arith)

    -- a line that can: one row more
    onward : (x : Line) → line_of wide (drop at file) ≡ Some x
        → (at < at + x.next) × Walk wide file h (rows ++ (answer_row (stepped_of (step_from run s x.context x.call)) ∷ [])) (at + x.next) (n + 1) (step_from run s x.context x.call).running (step_from run s x.context x.call).state
    unfolding fault_of rows_by
    onward x g =
        let m = x.next in
        let a = step_from run s x.context x.call in
        let ends : Before m (length (drop at file)) (18 + extra wide) = rw g at (line_ends wide (drop at file)) in
        let k : (0 < m) × (m ≤ length (drop at file)) = rw g at (line_in wide (drop at file)) in
        let o : n + 2 + 1 ≡ n + 1 + 2 = omega arith in
        let d : rest wide file at n ≡ next x.context x.call (rest wide file (at + m) (n + 1)) = script_next wide file at (n + 2) x more k.0 g ∙ rw o in
        let p : a ≡ step s x.context x.call = step_from_lem s run x.context x.call w.runs in
        let y : Row = record { code = a.code; running = a.running } in
        let z : rows_by step s (rest wide file at n) ≡ y ∷ rows_by step a.state (rest wide file (at + m) (n + 1)) = rw (d, ← p) in (
          omega arith,
          record {
            inside = omega (arith, length-drop at file, k.1);
            behind = λ h. omega (arith, w.behind more, ends (omega (arith, length-drop at file)));
            many = simp length-append (omega (arith, w.many));
            runs = runs_on a run s x.context x.call refl;
            faults = (rw d at w.faults);
            all = append_assoc (rows) (y ∷ []) (rows_by step a.state (rest wide file (at + m) (n + 1))) ∙ (rw z at w.all);
          },
        )

    pub on : (r : Stepped) (to : ℕ) → t ≡ Some (record { answer = r; next = to }) → (at < to) × Walk wide file h (rows ++ (answer_row r ∷ [])) to (n + 1) r.running s'
    unfolding turn_of
    on r to f = go (line_of wide (drop at file)) refl
      where
        go : (l : Option Line) → line_of wide (drop at file) ≡ l → (at < to) × Walk wide file h (rows ++ (answer_row r ∷ [])) to (n + 1) r.running s'
        go None g =
            let p : ◌≡◌ {A = Option Turn} (Some (record { answer = r; next = to })) None = sym f ∙ ap (λ (u : Turned). u.turn) (rw g at e) in
            let z : ◌≡◌ {A = ℕ} 0 1 = cc in absurd (omega arith)
        go (Some x) g =
            let a = step_from run s x.context x.call in
            let p : ◌≡◌ {A = Option Turn} (Some (record { answer = r; next = to })) (Some (record { answer = stepped_of a; next = at + x.next })) = sym f ∙ ap (λ (u : Turned). u.turn) (rw g at e) in
            let q : s' ≡ a.state = ap (λ (u : Turned). u.state) (rw g at e) in
            let u : ◌≡◌ {A = Turn} (record { answer = r; next = to }) (record { answer = stepped_of a; next = at + x.next }) = cc in
            let b : r ≡ stepped_of a = ap (λ (y : Turn). y.answer) u in
            let d : to ≡ at + x.next = ap (λ (y : Turn). y.next) u in
            rw (d, q, b) (onward x g)
