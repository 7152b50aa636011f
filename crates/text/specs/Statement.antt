-- What putting a text into a buffer does, byte by byte: the text's own places hold it, and every other byte stays.
-- They speak of `put` and `decimal`, and are proved in proofs/Printed.
use Rattle.std.specs.Prelude.{ℕ, ◌+◌, ◌<◌, ◌≤◌, ◌^◌, ◌≡◌, ◌⊎◌, List, [], ◌∷◌, ◌++◌, length, get_or, replicate}
use Rattle.text.specs.Bytes.{put}
use Rattle.text.specs.Decimal.{decimal}

-- a place of the buffer that is none of the text's n places from `at` on
abbrev pub Outside : ℕ → ℕ → ℕ → Type 0
Outside at n i = (i < at) ⊎ (at + n ≤ i)

abbrev pub OthersStay : Type 0
OthersStay = (buf : List ℕ) (at : ℕ) (t : List ℕ) (i : ℕ) → Outside at (length t) i → get_or (put buf at t) i 0 ≡ get_or buf i 0

abbrev pub TextStands : Type 0
TextStands = (buf : List ℕ) (at : ℕ) (t : List ℕ) (i : ℕ) → at + length t ≤ length buf → i < length t → get_or (put buf at t) (at + i) 0 ≡ get_or t i 0

abbrev pub LengthStays : Type 0
LengthStays = (buf : List ℕ) (at : ℕ) (t : List ℕ) → length (put buf at t) ≡ length buf

-- a number's places: one to ten, and none of them a scratch
abbrev pub FewPlaces : Type 0
FewPlaces = (n : ℕ) → n < 2 ^ 32 → (1 ≤ length (decimal n)) × (length (decimal n) ≤ 10)

-- ---- so a number that is printed changes its own places alone
-- a printer: the buffer after a number was put at a place
abbrev pub Printer : Type 0
Printer = List ℕ → ℕ → ℕ → List ℕ

abbrev pub Alone : Printer → Type 0
Alone f = (buf : List ℕ) (at n i : ℕ) → Outside at (length (decimal n)) i → get_or (f buf at n) i 0 ≡ get_or buf i 0

abbrev pub ours : Printer
ours buf at n = put buf at (decimal n)

abbrev pub NumberAlone : Type 0
NumberAlone = Alone ours

-- not so one that has its scratch in the buffer, ten places that it fills first, nor one that ends a number with a 0 as C does
abbrev pub filling : Printer
filling buf at n = put (put buf at (replicate 10 48)) at (decimal n)

abbrev pub ending : Printer
ending buf at n = put buf at (decimal n ++ (0 ∷ []))

abbrev pub FillingRefuted : Type 0
FillingRefuted = Alone filling → ⊥

abbrev pub EndingRefuted : Type 0
EndingRefuted = Alone ending → ⊥
