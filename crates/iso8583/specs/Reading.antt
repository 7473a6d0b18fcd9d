-- The format of a message: what a reader finds in its bytes, or the fault that it refuses them for.
use Rattle.std.specs.Prelude.{ℕ, ◌+◌, ◌-◌, ◌*◌, ◌/◌, ◌%◌, ◌^◌, Bool, cond, ◌&&◌, List, [], ◌∷◌, length, take, drop, Some, None, Ok, Err, Option, Result, ◌==◌, nat_le}
use Rattle.std.specs.Str.Parse.{digits_value}
use Rattle.elements.specs.declared.fault.ElementFault.{ElementFault}
use Rattle.elements.specs.declared.fault.ElementFault.TheVariants.{Truncated, Length, Character}
use Rattle.elements.specs.declared.fault.MessageFault.{MessageFault}
use Rattle.elements.specs.declared.fault.MessageFault.TheVariants.{Mti, Bitmap, Unknown, Empty, Element, Trailing}
use Rattle.iso8583.specs.declared.found.Found.{Found}
use Rattle.elements.specs.declared.table.Length.{Length as Lengths}
use Rattle.elements.specs.declared.table.Length.TheVariants.{Fixed, UpTo}
use Rattle.elements.specs.declared.table.Row.{Row}
use Rattle.iso8583.specs.Bitmap.{marked, joined, first, strange}
pub use Rattle.elements.specs.Numbers.{unless, wrong}
use Rattle.elements.specs.Table.{table, decimal, hexadecimal, fits, admits}

-- what comes after a step that may refuse
abbrev pub after : {A B F : Type 0} → Result A F → (A → Result B F) → Result B F
after (Ok a) next = next a
after (Err f) next = Err f

-- the type: four digits (3)
abbrev pub mti_of : List ℕ → Result ℕ MessageFault
mti_of bs = unless (wrong decimal 4 0 bs) (λ i. Mti i) (digits_value 10 (take 4 bs))

-- one bitmap: 16 hexadecimal characters from a place on (4)
abbrev pub half : ℕ → List ℕ → Result ℕ MessageFault
half at cs = unless (wrong hexadecimal 16 at cs) (λ i. Bitmap i) (digits_value 16 (take 16 cs))

-- the second bitmap, if the first says that there is one
abbrev pub with_second : ℕ → List ℕ → Result ℕ MessageFault
with_second high bs =
    cond (marked (joined high 0) 1)
    (after (half 20 (drop 20 bs)) (λ low. Ok (joined high low)))
    (Ok (joined high 0))

-- both bitmaps
abbrev pub bits_of : List ℕ → Result ℕ MessageFault
bits_of bs = after (half 4 (drop 4 bs)) (λ high. with_second high bs)

-- the bitmap character that marks an element
abbrev pub marked_at : ℕ → ℕ
marked_at k = 4 + (k - 1) / 4

-- a second bitmap is announced, and marks nothing
abbrev pub second_empty : ℕ → Bool
second_empty bits = marked bits 1 && bits % 2 ^ 64 == 0

-- only elements of the table are marked (5), and a second bitmap marks at least one (5)
abbrev pub marks_of : ℕ → Result ℕ MessageFault
marks_of bits =
    after (unless (first (strange bits) 2 127) (λ k. Unknown k (marked_at k)) bits)
    (λ _. cond (second_empty bits) (Err Empty) (Ok bits))

-- where the first element starts
abbrev pub body : ℕ → ℕ
body bits = cond (marked bits 1) 36 20

-- the number that two length digits write
abbrev pub two_digits : ℕ → ℕ → Option ℕ
two_digits a b = cond (decimal a && decimal b) (Some ((a - 48) * 10 + (b - 48))) None

-- n characters of an element, from place `start` on (6, then 8); the element with its length starts at `at`
abbrev pub characters : Row → ℕ → ℕ → ℕ → List ℕ → Result Found ElementFault
characters row at start n cs =
    cond (nat_le n (length cs))
    (unless (wrong (fits row.format) n start cs) (λ i. Character row.element i)
    (record { element = row.element; start = start; end = start + n }))
    (Err (Truncated row.element at))

-- a length that the element may have (7), and then so many characters
abbrev pub measured : Option ℕ → ℕ → Row → ℕ → List ℕ → Result Found ElementFault
measured None limit row at cs = Err (Length row.element at)
measured (Some n) limit row at cs = cond (admits (UpTo limit) n) (characters row at (at + 2) n cs) (Err (Length row.element at))

-- an element: its characters, after two length digits where its length varies (6)
abbrev pub sized : Lengths → Row → ℕ → List ℕ → Result Found ElementFault
sized (Fixed n) row at cs = characters row at at n cs
sized (UpTo limit) row at [] = Err (Truncated row.element at)
sized (UpTo limit) row at (a ∷ []) = Err (Truncated row.element at)
sized (UpTo limit) row at (a ∷ b ∷ cs) = measured (two_digits a b) limit row at cs

-- an element's fault is a fault of its message
abbrev pub lifted : {A : Type 0} → Result A ElementFault → Result A MessageFault
lifted (Ok a) = Ok a
lifted (Err f) = Err (Element f)

abbrev pub element_at : Row → ℕ → List ℕ → Result Found MessageFault
element_at row at cs = lifted (sized row.length row at cs)

abbrev pub before : {A F : Type 0} → A → Result (List A) F → Result (List A) F
before x (Ok xs) = Ok (x ∷ xs)
before x (Err f) = Err f

-- the marked elements in rising order, without gap, up to the last byte (9); cs is what stands from place `at` on
abbrev pub elements : List Row → ℕ → ℕ → List ℕ → Result (List Found) MessageFault
elements [] bits at [] = Ok []
elements [] bits at (c ∷ cs) = Err (Trailing at)
elements (row ∷ rows) bits at cs =
    cond (marked bits row.element)
    (after (element_at row at cs) (λ e. before e (elements rows bits e.end (drop (e.end - at) cs))))
    (elements rows bits at cs)

-- what a message is taken apart into
pub record Parts : Type 0 where
  pub mti : ℕ
  pub bits : ℕ
  pub elements : List Found

abbrev pub parts : ℕ → ℕ → List Found → Parts
parts mti bits es = record { mti = mti; bits = bits; elements = es }

-- type, bitmaps, marks and elements, in this order
abbrev pub reading : List ℕ → Result Parts MessageFault
reading bs =
    after (mti_of bs) (λ mti.
    after (bits_of bs) (λ bits.
    after (marks_of bits) (λ _.
    after (elements table bits (body bits) (drop (body bits) bs)) (λ es. Ok (parts mti bits es)))))
