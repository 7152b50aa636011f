-- The theorem at lists that antt computes: a word in every timeout's field, under both headers, some of them written in digits; and that a list
-- must read for it, since a word in another field is refused where digits are not. It rests on the definitions and on Same.
use Prim.Native.Nat.{ℕ}
use mathlib.Core.Path.{◌≡◌, refl, sym, ap, ◌∙◌}
use mathlib.Core.List.{List, [], ◌∷◌, ◌++◌}
use native.Mathlib.Omega.{arith}
use Rattle.text.specs.Bytes.{bytes}
use Rattle.model.specs.declared.Context.TheVariants.{T}
use Rattle.model.specs.declared.Call.TheVariants.{TaskSleep, SemAcquire, OnFlag, OnQueue}
use Rattle.model.specs.declared.FlagService.TheVariants.{Wait}
use Rattle.model.specs.declared.QueueService.TheVariants.{Send, Receive}
use Rattle.lines.specs.Fields.{end_of}
use Rattle.lines.specs.Lines.{headed, header_of}
use Rattle.lines.proofs.Vectors.{reader}
use Rattle.walk.specs.Script.{Script, done as over, next, script_in, script_of, fault_of}
use Rattle.spelling.specs.Statement.{Spelled, done, same, word}
use Rattle.spelling.proofs.Same.{same_calls}

alike : {s t : List ℕ} (u : List ℕ) → Spelled s t → Spelled (u ++ s) (u ++ t)
alike [] p = p
alike (b ∷ u) p = same b (alike u p)

-- ---- five fields: all words in digits
abbrev sleeps : List ℕ
sleeps = bytes "ctx,service,a,b,c\r\nT,tn_task_sleep,forever,,\r\nT,tn_sem_acquire,1,forever,\r\nT,tn_queue_send,1,0,forever\r\nT,tn_queue_receive,1,forever,"

abbrev sleeps_in_digits : List ℕ
sleeps_in_digits = bytes "ctx,service,a,b,c\r\nT,tn_task_sleep,4294967295,,\r\nT,tn_sem_acquire,1,4294967295,\r\nT,tn_queue_send,1,0,4294967295\r\nT,tn_queue_receive,1,4294967295,"

abbrev sleeps_calls : Script
sleeps_calls = next T (TaskSleep 4294967295) (next T (SemAcquire 1 4294967295) (next T (OnQueue 1 (Send 0 4294967295)) (next T (OnQueue 1 (Receive 4294967295)) over)))

sleeps_spelled : Spelled sleeps sleeps_in_digits
sleeps_spelled =
    alike (bytes "ctx,service,a,b,c\r\nT,tn_task_sleep,") (word (alike (bytes ",,\r\nT,tn_sem_acquire,1,") (word
    (alike (bytes ",\r\nT,tn_queue_send,1,0,") (word (alike (bytes "\r\nT,tn_queue_receive,1,") (word (alike (bytes ",") done))))))))

sleeps_read : script_of sleeps ≡ sleeps_calls
unfolding script_of script_in header_of headed reader end_of
sleeps_read = refl

pub digits_sleep : script_of sleeps_in_digits ≡ sleeps_calls
unfolding fault_of
digits_sleep = same_calls sleeps sleeps_in_digits sleeps_spelled (rw sleeps_read) ∙ sleeps_read

-- ---- six fields: the second word alone in digits
abbrev holds : List ℕ
holds = bytes "ctx,service,a,b,c,d\nT,tn_event_wait,1,1,0,forever\nT,tn_event_wait,2,1,0,forever\n"

abbrev one_in_digits : List ℕ
one_in_digits = bytes "ctx,service,a,b,c,d\nT,tn_event_wait,1,1,0,forever\nT,tn_event_wait,2,1,0,4294967295\n"

holds_spelled : Spelled holds one_in_digits
holds_spelled = alike (bytes "ctx,service,a,b,c,d\nT,tn_event_wait,1,1,0,forever\nT,tn_event_wait,2,1,0,") (word (alike (bytes "\n") done))

holds_read : script_of holds ≡ next T (OnFlag 1 (Wait 1 0 4294967295)) (next T (OnFlag 2 (Wait 1 0 4294967295)) over)
unfolding script_of script_in header_of headed reader end_of
holds_read = refl

pub one_holds : script_of one_in_digits ≡ next T (OnFlag 1 (Wait 1 0 4294967295)) (next T (OnFlag 2 (Wait 1 0 4294967295)) over)
unfolding fault_of
one_holds = same_calls holds one_in_digits holds_spelled (rw holds_read) ∙ holds_read

-- ---- a list that does not read: the word as a priority, where the digits are a number that the kernel refuses
abbrev priority : List ℕ
priority = bytes "ctx,service,a,b,c\nT,tn_task_create,1,forever,1\n"

abbrev priority_in_digits : List ℕ
priority_in_digits = bytes "ctx,service,a,b,c\nT,tn_task_create,1,4294967295,1\n"

word_refused : fault_of (script_of priority) ≡ 2
unfolding script_of script_in header_of headed reader end_of fault_of
word_refused = refl

digits_read : fault_of (script_of priority_in_digits) ≡ 0
unfolding script_of script_in header_of headed reader end_of fault_of
digits_read = refl

abbrev pub SameUnread : Type 0
SameUnread = (s t : List ℕ) → Spelled s t → script_of t ≡ script_of s

pub must_read : SameUnread → ⊥
must_read f =
    let p : Spelled priority priority_in_digits = alike (bytes "ctx,service,a,b,c\nT,tn_task_create,1,") (word (alike (bytes ",1\n") done)) in
    omega (arith, sym digits_read ∙ ap fault_of (f priority priority_in_digits p) ∙ word_refused)
