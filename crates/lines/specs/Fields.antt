-- The fields after a service's name, by what the service takes in each, and the line end.
-- It rests on the numbers and words of text, and on the table of services for what is taken.
use Rattle.std.specs.Prelude.{ℕ, ◌+◌, Bool, cond, Option, Some, None, List, eqb, length, get_or, drop}
use Rattle.text.specs.declared.number.Number.{Number}
use Rattle.text.specs.Number.{number_of}
use Rattle.text.specs.Bytes.{bytes, begins}
use Rattle.model.specs.Task.{endless}
use Rattle.services.specs.declared.takes.Takes.{Takes}
use Rattle.services.specs.declared.takes.Takes.TheVariants.{Blank, Plain, Timeout}
use Rattle.services.specs.Takes.{takes_at}
use Rattle.lines.specs.declared.fields.Said.{Said}
use Rattle.lines.specs.declared.fields.Said.TheVariants.{Says, Forever}
use Rattle.lines.specs.declared.fields.Tail.{Tail}
use Rattle.lines.specs.declared.fields.Fields.{Fields}

-- what is made of a value that is there; nothing, where none is
abbrev pub and_then : {A B : Type 0} → Option A → (A → Option B) → Option B
and_then None f = None
and_then (Some x) f = f x

-- the word for the endless wait: exactly these seven bytes
abbrev pub word : List ℕ
word = bytes "forever"

abbrev pub number_or : Option Number → Option Said → Option Said
number_or (Some x) t = Some (Says x.value x.next)
number_or None t = t

-- what begins s: a number, or the word
unfoldable pub said_of : List ℕ → Option Said
said_of s = number_or (number_of s) (cond (begins s word) (Some (Forever (length word))) None)

-- the endless wait as a number: 4,294,967,295 where a timeout is taken, and none elsewhere
abbrev pub endless_in : Takes → ℕ → Option Number
endless_in Blank n = None
endless_in Plain n = None
endless_in Timeout n = Some (record { value = endless; next = n })

-- the number that each case means
abbrev pub meant : Said → Takes → Option Number
meant (Says v n) takes = Some (record { value = v; next = n })
meant (Forever n) takes = endless_in takes n

-- the number of a field, by what is taken there
unfoldable pub field_of : Takes → List ℕ → Option Number
field_of Blank s = Some (record { value = 0; next = 0 })
field_of Plain s = and_then (said_of s) (λ t. meant t Plain)
field_of Timeout s = and_then (said_of s) (λ t. meant t Timeout)

-- a field and the comma (44) after it
unfoldable pub comma_field : Takes → List ℕ → Option Number
comma_field takes s = and_then (field_of takes s) (λ x. cond (eqb (get_or s x.next 0) 44) (Some (record { value = x.value; next = x.next + 1 })) None)

-- the end of the file, LF or CRLF; a CR elsewhere ends no line
unfoldable pub end_of : List ℕ → Option ℕ
end_of s =
    cond (eqb (length s) 0) (Some 0)
    (cond (begins s (bytes "\n")) (Some 1)
    (cond (begins s (bytes "\r\n")) (Some 2) None))

-- the last field and the line end
unfoldable pub last_field : Takes → List ℕ → Option Number
last_field takes s =
    and_then (field_of takes s) (λ x.
    and_then (end_of (drop x.next s)) (λ k.
    Some (record { value = x.value; next = x.next + k })))

abbrev pub zero_if_blank : Takes → Option Number
zero_if_blank Blank = Some (record { value = 0; next = 0 })
zero_if_blank Plain = None
zero_if_blank Timeout = None

-- a service that takes a d has no room on a line of five fields, where d stands for 0
unfoldable pub narrow_tail : ℕ → List ℕ → Option Tail
narrow_tail n s =
    and_then (zero_if_blank (takes_at n 3)) (λ d.
    and_then (last_field (takes_at n 2) s) (λ c.
    Some (record { c = c.value; d = d.value; next = c.next })))

unfoldable pub wide_tail : ℕ → List ℕ → Option Tail
wide_tail n s =
    and_then (comma_field (takes_at n 2) s) (λ c.
    and_then (last_field (takes_at n 3) (drop c.next s)) (λ d.
    Some (record { c = c.value; d = d.value; next = c.next + d.next })))

-- what follows the field b: c and the line end, or on a line of six fields c, d and the line end
unfoldable pub tail_of : Bool → ℕ → List ℕ → Option Tail
tail_of wide n s = cond wide (wide_tail n s) (narrow_tail n s)

-- how the two begin: c and its comma, or nothing, if no d is taken
unfoldable pub middle_of : Bool → ℕ → List ℕ → Option Number
middle_of wide n s = cond wide (comma_field (takes_at n 2) s) (zero_if_blank (takes_at n 3))

-- the fields a, b, c and d of the service n, each read in the part that begins at its first byte
unfoldable pub fields_of : Bool → ℕ → List ℕ → Option Fields
fields_of wide n s =
    and_then (comma_field (takes_at n 0) s) (λ a.
    and_then (comma_field (takes_at n 1) (drop a.next s)) (λ b.
    and_then (tail_of wide n (drop (a.next + b.next) s)) (λ t.
    Some (record { a = a.value; b = b.value; c = t.c; d = t.d; next = a.next + b.next + t.next }))))
