-- Lines with what they read to: document 01's worked list, then each rule of its section on lists, kept and broken.
-- antt computes the definitions on every row.
use Prim.Native.Nat.{ℕ}
use Prim.Native.String.{String}
use mathlib.Core.Path.{◌≡◌, refl}
use mathlib.Core.Bool.{Bool, true, false}
use mathlib.Core.List.{List, [], ◌∷◌}
use Rattle.text.specs.Bytes.{bytes, begins}
use Rattle.text.specs.Number.{is_digit, digits, value_after, numeral, number_of}
use Rattle.std.specs.Prelude.{Option, Some, None}
use Rattle.model.specs.declared.Context.{Context}
use Rattle.model.specs.declared.Context.TheVariants.{T, I}
use Rattle.model.specs.declared.Call.{Call}
use Rattle.model.specs.declared.Call.TheVariants.{TaskCreate, TaskExit, TaskSleep, TickIntProcessing, SemCreate, SemSignal, SemIsignal, SemAcquire, SemPolling, OnFlag}
use Rattle.model.specs.declared.FlagService.TheVariants.{Create, Wait, WaitPolling, Iwait}
use Rattle.model.proofs.Words.{table}
use Rattle.services.specs.Names.{label, name_in, name_of}
use Rattle.services.specs.Takes.{takes_in, takes_at}
use Rattle.lines.specs.declared.line.Line.{Line}
use Rattle.lines.specs.declared.line.Header.{Header}
use Rattle.lines.specs.Fields.{said_of, field_of, comma_field, end_of, last_field, narrow_tail, wide_tail, tail_of, fields_of}
use Rattle.lines.specs.Lines.{letter_of, line_of, headed, header_of}

-- the whole reader of a line but for its line end: a proof that computes a line names this
unfoldable pub reader : ℕ
unfolding line_of letter_of name_of name_in label table fields_of tail_of narrow_tail wide_tail takes_at takes_in field_of said_of comma_field last_field number_of numeral value_after digits is_digit begins
reader = 0

infix 20 ◌reads◌
pub data Row : Type 0 where
  ◌reads◌ : String → Option Line → Row

-- a call in a context, with the length of its line; a header of five fields or six, with its length
abbrev pub line : Context → Call → ℕ → Option Line
line x c n = Some (record { context = x; call = c; next = n })

abbrev pub header : Bool → ℕ → Option Header
header wide n = Some (record { wide = wide; next = n })

abbrev pub given : Bool → List Row → List (Option Line)
given wide [] = []
given wide ((t reads l) ∷ rows) = line_of wide (bytes t) ∷ given wide rows

abbrev pub wanted : List Row → List (Option Line)
wanted [] = []
wanted ((t reads l) ∷ rows) = l ∷ wanted rows

pub rows : List Row
rows =
    ("T,tn_sem_create,1,0,1\n" reads line T (SemCreate 1 0 1) 22)
    ∷ ("T,tn_task_create,1,5,1\n" reads line T (TaskCreate 1 5 1) 23)
    ∷ ("T,tn_task_create,2,5,1\n" reads line T (TaskCreate 2 5 1) 23)
    ∷ ("T,tn_sem_acquire,1,2,\n" reads line T (SemAcquire 1 2) 22)
    ∷ ("I,tn_tick_int_processing,,,\n" reads line I TickIntProcessing 28)
    ∷ ("I,tn_sem_isignal,1,,\n" reads line I (SemIsignal 1) 21)
    ∷ ("T,tn_sem_signal,1,,\n" reads line T (SemSignal 1) 20)
    ∷ ("T,tn_task_exit,,,\n" reads line T TaskExit 18)
    ∷ ("T,tn_sem_polling,1,,\n" reads line T (SemPolling 1) 21)
    -- the line ends: CRLF, none, and what follows a line is another's
    ∷ ("T,tn_task_exit,,,\r\n" reads line T TaskExit 19)
    ∷ ("T,tn_task_exit,,," reads line T TaskExit 17)
    ∷ ("T,tn_task_exit,,,\nT" reads line T TaskExit 18)
    ∷ ("T,tn_task_exit,,,\r" reads None)
    ∷ ("T,tn_task_exit,,,\r\r\n" reads None)
    ∷ ("T,tn_task\r_exit,,,\n" reads None)
    ∷ ("\n" reads None)
    ∷ ("" reads None)
    -- the numbers
    ∷ ("T,tn_task_sleep,0,,\n" reads line T (TaskSleep 0) 20)
    ∷ ("T,tn_task_sleep,4294967295,,\n" reads line T (TaskSleep 4294967295) 29)
    ∷ ("T,tn_task_sleep,4294967296,,\n" reads None)
    ∷ ("T,tn_task_sleep,10000000000,,\n" reads None)
    ∷ ("T,tn_task_sleep,00,,\n" reads None)
    ∷ ("T,tn_task_sleep,01,,\n" reads None)
    ∷ ("T,tn_task_sleep,+1,,\n" reads None)
    ∷ ("T,tn_task_sleep,1 ,,\n" reads None)
    -- the fields: unused ones blank, used ones not, always five
    ∷ ("T,tn_task_exit,0,,\n" reads None)
    ∷ ("T,tn_sem_acquire,1,2,0\n" reads None)
    ∷ ("T,tn_sem_acquire,1,,\n" reads None)
    ∷ ("T,tn_sem_acquire,1,2\n" reads None)
    ∷ ("T,tn_sem_acquire,1,2,,\n" reads None)
    -- the context and the service
    ∷ ("t,tn_task_exit,,,\n" reads None)
    ∷ ("I,tn_task_exit,,,\n" reads line I TaskExit 18)
    ∷ ("T,tn_task_isuspend,1,,\n" reads None)
    ∷ ("T,tn_task_exi,,,\n" reads None)
    -- a call of the library, in no list
    ∷ ("T,ready_ticks,1,,\n" reads None)
    ∷ ("T,tn_ready_ticks,1,,\n" reads None)
    -- the flags: all but the wait, whose timeout has no field
    ∷ ("T,tn_event_create,8,3,0\n" reads line T (OnFlag 8 (Create 3 0)) 24)
    ∷ ("T,tn_event_wait_polling,1,1,0\n" reads line T (OnFlag 1 (WaitPolling 1 0)) 30)
    ∷ ("I,tn_event_iwait,1,1,0\n" reads line I (OnFlag 1 (Iwait 1 0)) 23)
    ∷ ("T,tn_event_wait,1,1,0\n" reads None)
    ∷ ("T,tn_event_wait,1,1,0,4294967295\n" reads None)
    ∷ ("T,tn_event_wate,1,1,0\n" reads None)
    ∷ ("T,tn_event_wait_pollinh,1,1,0\n" reads None)
    ∷ []

-- under the header of six fields
pub wide_rows : List Row
wide_rows =
    ("T,tn_event_wait,1,1,0,4294967295\n" reads line T (OnFlag 1 (Wait 1 0 4294967295)) 33)
    ∷ ("T,tn_task_exit,,,,\n" reads line T TaskExit 19)
    ∷ ("T,tn_sem_acquire,1,2,,\r\n" reads line T (SemAcquire 1 2) 24)
    ∷ ("T,tn_event_wait_polling,1,1,0," reads line T (OnFlag 1 (WaitPolling 1 0)) 30)
    ∷ ("T,tn_task_exit,,,\n" reads None)
    ∷ ("T,tn_event_wait,1,1,0\n" reads None)
    ∷ ("T,tn_event_wait,1,1,0,\n" reads None)
    ∷ ("T,tn_event_wait,1,1,0,4294967296\n" reads None)
    ∷ ("T,tn_event_wait,1,1,0,5,\n" reads None)
    ∷ ("T,tn_event_wait_polling,1,1,0,0\n" reads None)
    ∷ ("T,ready_ticks,1,,,\n" reads None)
    ∷ []

pub lines_read : given false rows ≡ wanted rows
unfolding rows reader end_of
lines_read = refl

pub wide_lines_read : given true wide_rows ≡ wanted wide_rows
unfolding wide_rows reader end_of
wide_lines_read = refl

abbrev pub headers : List (Option Header)
headers =
    header_of (bytes "ctx,service,a,b,c\n")
    ∷ header_of (bytes "ctx,service,a,b,c\r\nT")
    ∷ header_of (bytes "ctx,service,a,b,c")
    ∷ header_of (bytes "ctx,service,a,b,c,d\n")
    ∷ header_of (bytes "ctx,service,a,b,c,d")
    ∷ header_of (bytes "ctx,service,a,b,c,\n")
    ∷ header_of (bytes "ctx,service,a,b,c,d,\n")
    ∷ header_of (bytes "ctx,service,a,b,c\r")
    ∷ header_of (bytes "\n")
    ∷ header_of (bytes "")
    ∷ []

pub headers_read : headers ≡ header false 18 ∷ header false 19 ∷ header false 17 ∷ header true 20 ∷ header true 19 ∷ None ∷ None ∷ None ∷ None ∷ None ∷ []
unfolding header_of headed end_of begins
headers_read = refl
