-- The bounds are reached: a file whose first call starts task 10 and whose other calls are refused has 3,639 calls and an answer of 42,576 bytes,
-- and one of refused calls of six fields has 3,448 calls.
-- It rests on Rows, and goes line by line.
use mathlib.Core.Path.{◌≡◌, refl, ap, ◌∙◌}
use mathlib.Core.Bool.{Bool, true, false}
use mathlib.Core.List.{List, [], ◌∷◌, ◌++◌}
use Rattle.std.specs.Prelude.{Some, Ok}
use Prim.Native.Nat.{ℕ, zero, suc, ◌+◌, ◌*◌, ◌≤◌}
use native.Mathlib.Omega.{arith}
use lib.ListN.{length, length-append}
use borrow.Author.Tests.{ne_eqb, le-ltb}
use Rattle.text.specs.Bytes.{bytes, begins}
use Rattle.text.specs.Decimal.{decimal, decimal_in}
use Rattle.model.specs.declared.State.{State}
use Rattle.model.specs.declared.Context.TheVariants.{T, I}
use Rattle.model.specs.declared.Call.TheVariants.{TaskCreate, TaskExit}
use Rattle.model.specs.declared.Code.TheVariants.{NoErr, WContext}
use Rattle.model.specs.Row.{place, joined, row, with_row, left_row, joined_row, relisted, best_from}
use Rattle.model.specs.Task.{level_of, row_of}
use Rattle.model.specs.State.{fresh, running, moved}
use Rattle.model.specs.Code.{number}
use Rattle.model.specs.Plan.{within}
use Rattle.model.specs.Service.{create, exit}
use Rattle.model.specs.Effect.{carried}
use Rattle.model.specs.Call.{plan, planned, step, call}
use Rattle.model.specs.Sound.{Sound}
use Rattle.soundness.proofs.Soundness.{fresh_is_sound, sound_stays_sound}
use Rattle.lines.specs.declared.line.Line.{Line}
use Rattle.model.specs.Services.{is_mine}
use Rattle.model.proofs.Words.{table}
use Rattle.lines.specs.Fields.{end_of}
use Rattle.lines.specs.Lines.{line_of, headed, header_of}
use Rattle.lines.proofs.Vectors.{reader}
use Rattle.walk.specs.Script.{Script, done, next, script_in, script_of, fault_of}
use Rattle.walk.specs.Rows.{Row, rows_by, rows_of, signed, rows_text, text_of}
use Rattle.runner.specs.Outcome.{judged, ran_of}
use Rattle.walk.proofs.Scripts.{script_drop, script_end, script_next}
use Rattle.longest.specs.Statement.{refusal, refusals, longest, Reached, longest_wide, WideReached}
use Rattle.longest.proofs.Rows.{digits_from, digits_all, row_text_lem, next_rows}

-- ---- the script
feed : (rest : List ℕ) → end_of (10 ∷ rest) ≡ Some 1
unfolding end_of begins
feed rest = rw (ne_eqb (suc (length rest)) 0 (λ e. omega arith))

abbrev size : Bool → ℕ
size false = 17
size true = 18

-- a line of n bytes that is such a call
abbrev exits_in : ℕ → Line
exits_in n = record { context = I; call = TaskExit; next = n }

exit_line : (wide : Bool) (rest : List ℕ) → line_of wide (refusal wide ++ (10 ∷ rest)) ≡ Some (exits_in (suc (size wide)))
unfolding reader
exit_line false rest = simp (feed rest)
exit_line true rest = simp (feed rest)

last_line : (wide : Bool) → line_of wide (refusal wide) ≡ Some (exits_in (size wide))
unfolding reader end_of
last_line false = refl
last_line true = refl

create_line : (rest : List ℕ) → line_of false (bytes "T,tn_task_create,10,1,1\n" ++ rest) ≡ Some (record { context = T; call = TaskCreate 10 1 1; next = 24 })
unfolding reader
create_line rest = simp (feed rest)

header_line : (rest : List ℕ) → header_of (bytes "ctx,service,a,b,c\n" ++ rest) ≡ Some (record { wide = false; next = 18 })
unfolding header_of headed begins
header_line rest = simp (feed rest)

unfoldable exits : ℕ → Script
exits zero = done
exits (suc n) = next I TaskExit (exits n)

script_exits : (wide : Bool) (n l : ℕ) → script_in wide 0 (refusals wide n) l ≡ exits (suc n)
unfolding refusals exits
script_exits false zero l = script_next false (refusal false) 0 l (exits_in 17) (omega arith) (omega arith) (last_line false) ∙ ap (next I TaskExit) (script_end false [] 0 (l + 1) (omega arith))
script_exits true zero l = script_next true (refusal true) 0 l (exits_in 18) (omega arith) (omega arith) (last_line true) ∙ ap (next I TaskExit) (script_end true [] 0 (l + 1) (omega arith))
script_exits false (suc n) l = script_next false (refusal false ++ (10 ∷ refusals false n)) 0 l (exits_in 18) (omega arith) (omega arith) (exit_line false (refusals false n)) ∙ ap (next I TaskExit) (script_exits false n (l + 1))
script_exits true (suc n) l = script_next true (refusal true ++ (10 ∷ refusals true n)) 0 l (exits_in 19) (omega arith) (omega arith) (exit_line true (refusals true n)) ∙ ap (next I TaskExit) (script_exits true n (l + 1))

module _ (rest : List ℕ) where
  abbrev starts : List ℕ
  starts = bytes "ctx,service,a,b,c\n" ++ (bytes "T,tn_task_create,10,1,1\n" ++ rest)

  starts_script : script_of starts ≡ next T (TaskCreate 10 1 1) (script_in false 0 rest 3)
  unfolding script_of
  starts_script =
      rw (header_line (bytes "T,tn_task_create,10,1,1\n" ++ rest))
      (script_drop false 18 starts 2
      ∙ script_next false (bytes "T,tn_task_create,10,1,1\n" ++ rest) 0 2 (record { context = T; call = TaskCreate 10 1 1; next = 24 }) (omega arith) (omega arith) (create_line rest))

script : script_of longest ≡ next T (TaskCreate 10 1 1) (exits 3638)
unfolding longest
script = starts_script (refusals false 3637) ∙ ap (next T (TaskCreate 10 1 1)) (script_exits false 3637 3)

exits_read : (n : ℕ) → fault_of (exits n) ≡ 0
unfolding fault_of exits
exits_read zero = refl
exits_read (suc n) = exits_read n

-- ---- its rows
abbrev made : State
made = (step fresh T (TaskCreate 10 1 1)).state

made_sound : Sound made
made_sound = sound_stays_sound fresh T (TaskCreate 10 1 1) fresh_is_sound

made_answer : ((step fresh T (TaskCreate 10 1 1)).code ≡ NoErr) × ((step fresh T (TaskCreate 10 1 1)).running ≡ 10)
unfolding step planned is_mine table plan create within carried moved running best_from relisted left_row joined_row with_row row joined place level_of row_of
made_answer = (refl, refl)

made_runs : running made ≡ 10
unfolding step
made_runs = made_answer.1

exit_answer : (s : State) → step s I TaskExit ≡ record { code = WContext; running = running s; value = 0; state = s }
unfolding step planned is_mine table plan exit carried
exit_answer s = refl

width_ten : length (decimal 10) ≡ 2
unfolding decimal decimal_in
width_ten = refl

width_done : length (signed (number NoErr)) ≡ 1
unfolding decimal decimal_in
width_done = refl

width_refusal : length (signed (number WContext)) ≡ 2
unfolding decimal decimal_in
width_refusal = refl

-- a state in which task r runs stays, through any number of refused exits
module _ (s : State) (k : Sound s) (r : ℕ) (runs : running s ≡ r) where
  abbrev again : Row
  again = record { code = WContext; running = r }

  exits_rows : (m : ℕ) → rows_by call s (exits (suc m)) ≡ again ∷ rows_by call s (exits m)
  unfolding exits
  exits_rows m = next_rows s I TaskExit (exits m) k ∙ rw (exit_answer s, runs)

  exits_count : (m : ℕ) → length (rows_by call s (exits m)) ≡ m
  unfolding exits rows_by
  exits_count zero = refl
  exits_count (suc m) = ap length (exits_rows m) ∙ ap suc (exits_count m)

  exits_text : length (decimal r) ≡ 2 → (m n : ℕ) → length (rows_text n (rows_by call s (exits m))) ≡ digits_from n m + 8 * m
  unfolding exits rows_by rows_text digits_from
  exits_text two zero n = omega arith
  exits_text two (suc m) n =
      ap (λ (rows : List Row). length (rows_text n rows)) (exits_rows m)
      ∙ omega (arith, row_text_lem n again (rows_by call s (exits m)), two, width_refusal, exits_text two m (n + 1))

made_rows : (m : ℕ) → rows_of (next T (TaskCreate 10 1 1) (exits m)) ≡ record { code = NoErr; running = 10 } ∷ rows_by call made (exits m)
made_rows m = next_rows fresh T (TaskCreate 10 1 1) (exits m) fresh_is_sound ∙ rw (made_answer.0, made_answer.1)

made_count : (m : ℕ) → length (rows_of (next T (TaskCreate 10 1 1) (exits m))) ≡ suc m
made_count m = ap length (made_rows m) ∙ ap suc (exits_count made made_sound 10 made_runs m)

made_text : (m : ℕ) → length (text_of (next T (TaskCreate 10 1 1) (exits m))) ≡ 23 + digits_from 1 (suc m) + 8 * m
unfolding text_of digits_from
made_text m =
    let first : Row = record { code = NoErr; running = 10 } in
    let more = rows_by call made (exits m) in
    length-append (bytes "n,code,running\r\n") (rows_text 1 (rows_of (next T (TaskCreate 10 1 1) (exits m))))
    ∙ ap (λ (rows : List Row). 16 + length (rows_text 1 rows)) (made_rows m)
    ∙ omega (arith, row_text_lem 1 first more, width_ten, width_done, exits_text made made_sound 10 made_runs width_ten m 2)

-- ---- the outcome
refusals-length : (wide : Bool) (n : ℕ) → length (refusals wide n) ≡ suc (size wide) * n + size wide
unfolding refusals
refusals-length false zero = refl
refusals-length true zero = refl
refusals-length false (suc n) = omega (arith, length-append (refusal false) (10 ∷ refusals false n), refusals-length false n)
refusals-length true (suc n) = omega (arith, length-append (refusal true) (10 ∷ refusals true n), refusals-length true n)

longest_fits : length longest ≤ 65536
unfolding longest
longest_fits =
    omega (arith, length-append (bytes "ctx,service,a,b,c\n") (bytes "T,tn_task_create,10,1,1\n" ++ refusals false 3637), length-append (bytes "T,tn_task_create,10,1,1\n") (refusals false 3637), refusals-length false 3637)

longest_reads : fault_of (script_of longest) ≡ 0
unfolding fault_of
longest_reads = ap fault_of script ∙ exits_read 3638

longest_text : length (text_of (script_of longest)) ≡ 42576
longest_text = ap (λ (p : Script). length (text_of p)) script ∙ made_text 3638 ∙ ap (λ (d : ℕ). 23 + d + 8 * 3638) digits_all

wrote : (file : List ℕ) (n room : ℕ) → length file ≤ 65536 → fault_of (script_of file) ≡ 0 → length (text_of (script_of file)) ≡ n → n ≤ room → ran_of file room ≡ Ok n
unfolding ran_of judged
wrote file n room fits reads size enough = rw (le-ltb 65536 (length file) fits, reads, size, le-ltb room n enough)

pub reached : Reached
reached = (ap (λ (p : Script). length (rows_of p)) script ∙ made_count 3638, wrote longest 42576 42576 longest_fits longest_reads longest_text (omega arith))

-- ---- six fields
wide_header : (rest : List ℕ) → header_of (bytes "ctx,service,a,b,c,d\n" ++ rest) ≡ Some (record { wide = true; next = 20 })
unfolding header_of headed begins end_of
wide_header rest = simp (feed rest)

wide_script : script_of longest_wide ≡ exits 3448
unfolding script_of longest_wide
wide_script = rw (wide_header (refusals true 3447)) (script_drop true 20 longest_wide 2 ∙ script_exits true 3447 2)

pub wide_reached : WideReached
unfolding longest_wide
wide_reached = (
  omega (arith, length-append (bytes "ctx,service,a,b,c,d\n") (refusals true 3447), refusals-length true 3447),
  wide_header (refusals true 3447),
  ap (λ (p : Script). length (rows_of p)) wide_script ∙ exits_count fresh fresh_is_sound (running fresh) refl 3448,
)
