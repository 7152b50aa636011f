-- Lines with the word `forever`: read in a timeout's field, under both headers, and in no other, nor spelled in any other way.
-- antt computes the definitions on every row.
use mathlib.Core.Path.{◌≡◌, refl}
use mathlib.Core.Bool.{true, false}
use mathlib.Core.List.{List, [], ◌∷◌}
use Rattle.model.specs.declared.Context.TheVariants.{T, I}
use Rattle.model.specs.declared.Call.TheVariants.{TaskSleep, SemAcquire, OnFlag}
use Rattle.model.specs.declared.FlagService.TheVariants.{Wait}
use Rattle.std.specs.Prelude.{None}
use Rattle.lines.specs.Fields.{end_of}
use Rattle.lines.proofs.Vectors.{Row, ◌reads◌, line, given, wanted, reader}

-- in a timeout's field, and in every other kind of field
pub words : List Row
words =
    -- as a timeout it means 4,294,967,295, and so do the digits
    ("T,tn_task_sleep,forever,,\n" reads line T (TaskSleep 4294967295) 26)
    ∷ ("T,tn_task_sleep,forever,,\r\n" reads line T (TaskSleep 4294967295) 27)
    ∷ ("T,tn_task_sleep,forever,," reads line T (TaskSleep 4294967295) 25)
    ∷ ("T,tn_sem_acquire,12,forever,\n" reads line T (SemAcquire 12 4294967295) 29)
    ∷ ("T,tn_sem_acquire,12,4294967295,\n" reads line T (SemAcquire 12 4294967295) 32)
    ∷ ("I,tn_sem_acquire,1,forever," reads line I (SemAcquire 1 4294967295) 27)
    -- as a task, a priority, an option, a level, a slice
    ∷ ("T,tn_task_wakeup,forever,,\n" reads None)
    ∷ ("T,tn_task_create,forever,5,1\n" reads None)
    ∷ ("T,tn_task_create,1,forever,1\n" reads None)
    ∷ ("T,tn_task_change_priority,1,forever,\n" reads None)
    ∷ ("T,tn_task_create,1,5,forever\n" reads None)
    ∷ ("T,tn_sys_tslice_ticks,forever,2,\n" reads None)
    ∷ ("T,tn_sys_tslice_ticks,6,forever,\n" reads None)
    -- as a semaphore, a start, a maximum
    ∷ ("T,tn_sem_acquire,forever,2,\n" reads None)
    ∷ ("T,tn_sem_create,1,forever,1\n" reads None)
    ∷ ("T,tn_sem_create,1,0,forever\n" reads None)
    -- as a flag, attributes, bits, a pattern, a mode
    ∷ ("T,tn_event_delete,forever,,\n" reads None)
    ∷ ("T,tn_event_create,1,forever,0\n" reads None)
    ∷ ("T,tn_event_create,1,3,forever\n" reads None)
    ∷ ("T,tn_event_set,1,forever,\n" reads None)
    ∷ ("T,tn_event_wait_polling,1,1,forever\n" reads None)
    -- in a field that is not taken
    ∷ ("T,tn_task_exit,forever,,\n" reads None)
    ∷ ("T,tn_task_sleep,5,forever,\n" reads None)
    ∷ ("T,tn_task_sleep,forever,forever,\n" reads None)
    ∷ ("T,tn_sem_acquire,1,2,forever\n" reads None)
    ∷ ("I,tn_tick_int_processing,,,forever\n" reads None)
    ∷ []

-- exactly these bytes
pub near_misses : List Row
near_misses =
    ("T,tn_task_sleep,Forever,,\n" reads None)
    ∷ ("T,tn_task_sleep,FOREVER,,\n" reads None)
    ∷ ("T,tn_task_sleep,foreveR,,\n" reads None)
    ∷ ("T,tn_task_sleep,foreve,,\n" reads None)
    ∷ ("T,tn_task_sleep,forev,,\n" reads None)
    ∷ ("T,tn_task_sleep,f,,\n" reads None)
    ∷ ("T,tn_task_sleep,forever1,,\n" reads None)
    ∷ ("T,tn_task_sleep,1forever,,\n" reads None)
    ∷ ("T,tn_task_sleep,foreverr,,\n" reads None)
    ∷ ("T,tn_task_sleep,forever ,,\n" reads None)
    ∷ ("T,tn_task_sleep, forever,,\n" reads None)
    ∷ ("T,tn_task_sleep,forever\t,,\n" reads None)
    ∷ ("T,tn_task_sleep,forever\r,,\n" reads None)
    ∷ ("T,tn_task_sleep,\"forever\",,\n" reads None)
    ∷ ("T,tn_task_sleep,forever0,,\n" reads None)
    ∷ ("T,tn_task_sleep,forever4294967295,,\n" reads None)
    ∷ ("T,tn_task_sleep,4294967295forever,,\n" reads None)
    ∷ ("T,tn_task_sleep,forevex,,\n" reads None)
    ∷ ("T,tn_task_sleep,for ever,,\n" reads None)
    ∷ ("T,tn_task_sleep,endless,,\n" reads None)
    ∷ ("T,tn_task_sleep,-1,,\n" reads None)
    -- a line has its commas all the same
    ∷ ("T,tn_sem_acquire,1,forever" reads None)
    ∷ ("T,tn_sem_acquire,1,forever\n" reads None)
    ∷ ("T,tn_task_sleep,forever" reads None)
    ∷ []

-- under the header of six fields
pub wide_words : List Row
wide_words =
    ("T,tn_event_wait,1,1,0,forever\n" reads line T (OnFlag 1 (Wait 1 0 4294967295)) 30)
    ∷ ("T,tn_event_wait,8,6,1,forever\r\n" reads line T (OnFlag 8 (Wait 6 1 4294967295)) 31)
    ∷ ("T,tn_event_wait,1,1,0,forever" reads line T (OnFlag 1 (Wait 1 0 4294967295)) 29)
    ∷ ("T,tn_task_sleep,forever,,,\n" reads line T (TaskSleep 4294967295) 27)
    ∷ ("T,tn_sem_acquire,12,forever,,\n" reads line T (SemAcquire 12 4294967295) 30)
    ∷ ("T,tn_event_wait,forever,1,0,5\n" reads None)
    ∷ ("T,tn_event_wait,1,forever,0,5\n" reads None)
    ∷ ("T,tn_event_wait,1,1,forever,5\n" reads None)
    ∷ ("T,tn_event_wait_polling,1,1,0,forever\n" reads None)
    ∷ ("T,tn_task_sleep,5,,,forever\n" reads None)
    ∷ ("T,tn_sem_acquire,1,2,,forever\n" reads None)
    ∷ ("T,tn_task_create,1,forever,1,\n" reads None)
    ∷ ("T,tn_task_exit,,,,forever\n" reads None)
    ∷ ("T,tn_event_wait,1,1,0,Forever\n" reads None)
    ∷ ("T,tn_event_wait,1,1,0,FOREVER\n" reads None)
    ∷ ("T,tn_event_wait,1,1,0,forever1\n" reads None)
    ∷ ("T,tn_event_wait,1,1,0,forever \n" reads None)
    ∷ ("T,tn_event_wait,1,1,0,foreve\n" reads None)
    ∷ ("T,tn_event_wait,1,1,0,forever,\n" reads None)
    ∷ ("T,tn_event_wait,1,1,0,forever\r" reads None)
    ∷ []

pub words_read : given false words ≡ wanted words
unfolding words reader end_of
words_read = refl

pub near_misses_read : given false near_misses ≡ wanted near_misses
unfolding near_misses reader end_of
near_misses_read = refl

pub wide_words_read : given true wide_words ≡ wanted wide_words
unfolding wide_words reader end_of
wide_words_read = refl
