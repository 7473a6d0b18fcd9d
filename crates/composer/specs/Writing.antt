-- The bytes of a message, and the steps by which a writer makes them.
use Rattle.std.specs.Prelude.{ℕ, zero, suc, ◌+◌, ◌*◌, ◌/◌, ◌%◌, ◌^◌, Bool, true, false, cond, not, ◌&&◌, ◌||◌, List, [], ◌∷◌, ◌++◌, length, take, drop, Ok, Err, Result, ◌==◌, nat_le, nat_lt}
use Rattle.elements.specs.declared.fault.ElementFault.{ElementFault}
use Rattle.elements.specs.declared.fault.ElementFault.TheVariants.{Length, Character}
use Rattle.elements.specs.declared.fault.MessageFault.{MessageFault}
use Rattle.elements.specs.declared.fault.MessageFault.TheVariants.{Mti, Unknown, Order, Room}
use Rattle.elements.specs.declared.table.Row.{Row}
use Rattle.elements.specs.Fields.{spelled, field}
use Rattle.elements.specs.Table.{table, known, admits, fits}
use Rattle.iso8583.specs.Bitmap.{marked, first}
use Rattle.iso8583.specs.Reading.{after, unless, lifted, wrong}

-- the bits that an element sets: its own, and bit 1 if it is above 64
abbrev pub sets : ℕ → ℕ → Bool
sets e k = cond (k == 1) (nat_lt 64 e) (e == k)

-- the bits that a set of elements sets
abbrev pub marks : List ℕ → ℕ → Bool
marks [] k = false
marks (e ∷ es) k = sets e k || marks es k

abbrev pub bit : Bool → ℕ
bit true = 1
bit false = 0

-- n bits as a number, bit 1 the highest
abbrev pub bits_from : (ℕ → Bool) → ℕ → ℕ
bits_from mark zero = 0
bits_from mark (suc n) = bits_from mark n * 2 + bit (mark (suc n))

-- the element is in the list
abbrev pub listed : List ℕ → ℕ → Bool
listed [] k = false
listed (e ∷ es) k = e == k || listed es k

-- the element is asked for, and the table does not have it
abbrev pub outside : List ℕ → ℕ → Bool
outside es k = listed es k && not (known table k)

-- the bitmap that announces a set of elements, if the table has them all
abbrev pub announced : List ℕ → Result ℕ MessageFault
announced es = unless (first (outside es) 0 256) (λ k. Unknown k 0) (bits_from (marks es) 128)

-- the type, the first bitmap, and the second if bit 1 is set
unfoldable pub head : ℕ → ℕ → List ℕ
head mti bits =
    spelled 10 4 mti ++ (spelled 16 16 (bits / 2 ^ 64) ++ cond (marked bits 1) (spelled 16 16 (bits % 2 ^ 64)) [])

-- a buffer with new bytes from a place on; the others are as they were
abbrev pub laid : List ℕ → ℕ → List ℕ → List ℕ
laid out at new = take at out ++ (new ++ drop (at + length new) out)

-- the rows of the elements that a bitmap marks
abbrev pub chosen : List Row → ℕ → List Row
chosen [] bits = []
chosen (r ∷ rs) bits = cond (marked bits r.element) (r ∷ chosen rs bits) (chosen rs bits)

-- a writer under way: the buffer, how much of it is written, and the elements that are still to come
pub record State : Type 0 where
  pub out : List ℕ
  pub used : ℕ
  pub rest : List Row

-- new bytes behind those that are written
abbrev pub grown : List ℕ → ℕ → List ℕ → List Row → State
grown out used new rest = record { out = laid out used new; used = used + length new; rest = rest }

abbrev pub begun : List ℕ → ℕ → ℕ → Result State MessageFault
begun out mti bits =
    cond (nat_le (length (head mti bits)) (length out)) (Ok (grown out 0 (head mti bits) (chosen table bits))) (Err (Room 0))

-- the start: the type is four digits, the table has the elements, and type and bitmaps fit the buffer
abbrev pub starting : List ℕ → ℕ → List ℕ → Result State MessageFault
starting out mti es = cond (nat_le mti 9999) (after (announced es) (begun out mti)) (Err (Mti 0))

-- the element fits the buffer
abbrev pub placing : List ℕ → ℕ → Row → List Row → List ℕ → Result State MessageFault
placing out used row rest cs =
    cond (nat_le (used + length (field row.length cs)) (length out)) (Ok (grown out used (field row.length cs) rest)) (Err (Room row.element))

-- its length and its characters are those of the table
abbrev pub checked : Row → List ℕ → Result (Unit {0}) ElementFault
checked row cs =
    cond (admits row.length (length cs))
    (unless (wrong (fits row.format) (length cs) 0 cs) (λ i. Character row.element 0) tt)
    (Err (Length row.element 0))

abbrev pub filling : List ℕ → ℕ → Row → List Row → List ℕ → Result State MessageFault
filling out used row rest cs = after (lifted (checked row cs)) (λ _. placing out used row rest cs)

-- an element: it is the next one announced
abbrev pub next_is : List ℕ → ℕ → List Row → ℕ → List ℕ → Result State MessageFault
next_is out used [] k cs = Err (Order 0)
next_is out used (row ∷ rest) k cs = cond (row.element == k) (filling out used row rest cs) (Err (Order row.element))

abbrev pub putting : State → ℕ → List ℕ → Result State MessageFault
putting s k cs = next_is s.out s.used s.rest k cs

-- the end: no element is still to come; the answer is the message's length
abbrev pub ending : ℕ → List Row → Result ℕ MessageFault
ending used [] = Ok used
ending used (row ∷ rest) = Err (Order row.element)
