-- The theorems of specs/Statement: a file holds few calls, so that its answer is short, and no buffer of that length is too short for it.
-- They rest on the laws of lines for the lines, and on Rows for the text.
use mathlib.Core.Path.{◌≡◌, refl}
use mathlib.Core.Bool.{Bool, true, false, cond}
use mathlib.Core.List.{List, [], ◌∷◌}
use Rattle.std.specs.Prelude.{Option, Some, None, Result, Ok, Err}
use Prim.Native.Nat.{ℕ, zero, suc, ◌+◌, ◌-◌, ◌*◌, ◌≤◌, ◌<◌}
use native.Mathlib.Omega.{arith}
use native.Mathlib.Decide.{dec_lt}
use lib.Dec.{eqb, ltb}
use lib.ListN.{length, length-append}
use borrow.Author.Tests.{ltb-true, ltb-false}
use Rattle.text.specs.Bytes.{bytes}
use Rattle.text.proofs.Reading.{cond_by}
use Rattle.model.specs.declared.State.{State}
use Rattle.model.specs.declared.Answer.{Answer}
use Rattle.model.specs.declared.Context.{Context}
use Rattle.model.specs.declared.Call.{Call}
use Rattle.model.specs.State.{fresh}
use Rattle.model.specs.Call as Calls
use Rattle.lines.specs.declared.line.Line.{Line}
use Rattle.lines.specs.declared.line.Header.{Header}
use Rattle.lines.specs.Lines.{line_of, header_of}
use Rattle.lines.proofs.Within.{LineIn, line_in}
use Rattle.lines.proofs.Long.{extra, LineHas, line_has, header_has}
use Rattle.runner.specs.declared.Refusal.{Refusal}
use Rattle.runner.specs.declared.Refusal.TheVariants.{TooLong, Unreadable, Short}
use Rattle.walk.specs.Script.{next, line_then, script_in, header_then, script_of, fault_of}
use Rattle.walk.specs.Rows.{rows_by, rows_of, rows_text, text_of}
use Rattle.runner.specs.Outcome.{judged, ran_of}
use Rattle.longest.specs.Statement.{FewCalls, FewWideCalls, ShortAnswer, RoomEnough, NeverShort}
use Rattle.lines.proofs.Ended.{LineEnds, line_ends, header_ends}
use Rattle.longest.proofs.Rows.{digits_grow, digits_all, all_most}

-- ---- few calls
-- a line takes 18 bytes, the last one 17; a wide one takes one more
abbrev size : Bool → ℕ
size wide = 18 + extra wide

extra_most : (wide : Bool) → extra wide ≤ 1
extra_most true = omega arith
extra_most false = omega arith

-- a line of n bytes before the rows of what follows it
one_more : (wide : Bool) (rows n l : ℕ) → Dec (n < l) → 17 + extra wide ≤ n → n ≤ l → (n < l → size wide ≤ n) → size wide * rows ≤ l - n + 1 → size wide * suc rows ≤ l + 1
one_more true rows n l (yes h) has inside ends ih = omega (arith, ends h)
one_more true rows n l (no h) has inside ends ih = omega arith
one_more false rows n l (yes h) has inside ends ih = omega (arith, ends h)
one_more false rows n l (no h) has inside ends ih = omega arith

in_few : (by : State → Context → Call → Answer) (wide : Bool) (s : List ℕ) (k l : ℕ) (from : State) → size wide * length (rows_by by from (script_in wide k s l)) ≤ length s - k + 1
unfolding script_in rows_by
in_few by wide [] k l from = omega arith
in_few by wide (b ∷ s) (suc k) l from = omega (arith, in_few by wide s k l from)
in_few by wide (b ∷ s) zero l from =
    omega (arith, go (line_of wide (b ∷ s)) (line_has wide (b ∷ s)) (line_in wide (b ∷ s)) (line_ends wide (b ∷ s)) (λ n to. in_few by wide s n (l + 1) to))
  where
    go : (t : Option Line) → LineHas wide t → LineIn t (length (b ∷ s)) → LineEnds wide t (length (b ∷ s))
        → ((n : ℕ) (to : State) → size wide * length (rows_by by to (script_in wide n s (l + 1))) ≤ length s - n + 1)
        → size wide * length (rows_by by from (line_then t l (λ x c n. next x c (script_in wide (n - 1) s (l + 1))))) ≤ suc (length s) + 1
    go (Some x) has inside ends ih =
        let n = x.next in
        let to = (by from x.context x.call).state in
        one_more wide (length (rows_by by to (script_in wide (n - 1) s (l + 1)))) n (suc (length s)) (dec_lt n (suc (length s))) has inside.1 ends (omega (arith, ih (n - 1) to))
    go None has inside ends ih = omega arith

-- the bytes that are left for them after the header
after_header : (file : List ℕ) → length file ≤ 65536 → (wide : Bool) (h : ℕ) → header_of file ≡ Some (record { wide = wide; next = h }) → size wide * length (rows_of (script_in wide h file 2)) ≤ 65519 - 2 * extra wide
after_header file fits wide h e = more (dec_lt h (length file))
  where
    has : 17 + 2 * extra wide ≤ h
    has = rw e at (header_has file)

    ends : h < length file → 18 + 2 * extra wide ≤ h
    ends = rw e at (header_ends file)

    more : Dec (h < length file) → size wide * length (rows_of (script_in wide h file 2)) ≤ 65519 - 2 * extra wide
    more (yes p) = omega (arith, ends p, extra_most wide, in_few Calls.call wide file h 2 fresh)
    more (no p) = omega (arith, has, extra_most wide, in_few Calls.call wide file h 2 fresh)

pub few_wide_calls : FewWideCalls
unfolding script_of
few_wide_calls file h fits e = rw e (omega (arith, after_header file fits true h e))

pub few_calls : FewCalls
unfolding script_of rows_by
few_calls file fits = go (header_of file) refl
  where
    each : (wide : Bool) (h : ℕ) → header_of file ≡ Some (record { wide = wide; next = h }) → length (rows_of (script_in wide h file 2)) ≤ 3639
    each true h e = omega (arith, after_header file fits true h e)
    each false h e = omega (arith, after_header file fits false h e)

    go : (t : Option Header) → header_of file ≡ t → length (rows_of (header_then t (λ wide h. script_in wide h file 2))) ≤ 3639
    go (Some x) e = each x.wide x.next e
    go None e = omega arith

-- ---- a short answer
pub short_answer : ShortAnswer
unfolding text_of
short_answer file fits =
    let rows = rows_of (script_of file) in
    let few : length rows ≤ 3639 = few_calls file fits in
    omega (arith, length-append (bytes "n,code,running\r\n") (rows_text 1 rows), all_most (script_of file), digits_all, digits_grow (length rows) 3639 1 few)

-- ---- never short
abbrev Enough : Result ℕ Refusal → Type 0
Enough r = r ≡ Err Short → ⊥

pub room_enough : RoomEnough
unfolding ran_of judged
room_enough file room h = go (ltb 65536 (length file)) refl
  where
    text : ℕ
    text = length (text_of (script_of file))

    written : length file ≤ 65536 → (b : Bool) → ltb room text ≡ b → Enough (cond b (Err Short) (Ok text))
    written fits true e q = omega (arith, ltb-true room text e, short_answer file fits)
    written fits false e q = let z : ◌≡◌ {A = ℕ} 0 1 = cc in omega arith

    go : (b : Bool) → ltb 65536 (length file) ≡ b → Enough (cond b (Err TooLong) (judged (script_of file) room))
    go true e = λ q. let z : ◌≡◌ {A = ℕ} 0 1 = cc in omega arith
    go false e =
        cond_by Enough (eqb (fault_of (script_of file)) 0) (cond (ltb room text) (Err Short) (Ok text)) (Err (Unreadable (fault_of (script_of file))))
        (λ _. written (ltb-false 65536 (length file) e) (ltb room text) refl)
        (λ q. let z : ◌≡◌ {A = ℕ} 0 1 = cc in omega arith)

pub never_short : NeverShort
never_short file = room_enough file 65536 (omega arith)
