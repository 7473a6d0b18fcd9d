-- The reply to a message: what it says, and its bytes.
use Rattle.std.specs.Prelude.{◌≡◌, ℕ, ◌+◌, ◌*◌, ◌/◌, ◌%◌, cond, List, [], ◌∷◌, ◌++◌, is_some, Some, None, Ok, Err, Option, Result, ◌==◌}
use Rattle.elements.specs.declared.fault.MessageFault.{MessageFault}
use Rattle.elements.specs.declared.table.Length.{Length}
use Rattle.elements.specs.declared.table.Row.{Row}
use Rattle.elements.specs.Fields.{field}
use Rattle.elements.specs.Table.{table}
use Rattle.iso8583.specs.declared.message.Message.{Message}
use Rattle.composer.specs.Contents.{Item, Content, content, content_of}
use Rattle.composer.specs.Writing.{bits_from, head, listed}

-- the bytes that a message was read from
abbrev pub bytes_of : Message → List ℕ
bytes_of m = m.bytes.now

-- the type of a message, and 0 of bytes that are none
abbrev pub type_in : Result Content MessageFault → ℕ
type_in (Ok c) = c.mti
type_in (Err f) = 0

unfoldable pub type_of : List ℕ → ℕ
type_of bs = type_in (content_of bs)

-- the characters of an element, if it is there
abbrev pub chars_of : List Item → ℕ → Option (List ℕ)
chars_of [] k = None
chars_of (i ∷ is) k = cond (i.number == k) (Some i.chars) (chars_of is k)

abbrev pub chars_in : Result Content MessageFault → ℕ → Option (List ℕ)
chars_in (Ok c) k = chars_of c.items k
chars_in (Err f) k = None

-- the characters with which an element came in a message
unfoldable pub came : List ℕ → ℕ → Option (List ℕ)
came bs k = chars_in (content_of bs) k

-- the type of the reply: the third digit, which is below 9 in every type that is answered, is raised by one, and the last is 0
abbrev pub reply_type : ℕ → ℕ
reply_type mti = (mti / 10 + 1) * 10

-- the elements that a reply may have: those that it repeats, and 39
abbrev pub replied : List ℕ
replied = 3 ∷ 4 ∷ 7 ∷ 11 ∷ 32 ∷ 37 ∷ 39 ∷ 41 ∷ 49 ∷ []

-- a response code, 00 to 99, in two digits
abbrev pub code_digits : ℕ → List ℕ
code_digits code = (48 + code / 10) ∷ (48 + code % 10) ∷ []

-- 39 is the response code; any other is as it came
abbrev pub told : List ℕ → ℕ → ℕ → Option (List ℕ)
told bs code k = cond (k == 39) (Some (code_digits code)) (came bs k)

-- what the reply to a message says of element k: its characters, if it has it
abbrev pub said : List ℕ → ℕ → ℕ → Option (List ℕ)
said bs code k = cond (listed replied k) (told bs code k) None

-- the bitmap that marks the elements that are there; none above 64 is, so bit 1 is not set
unfoldable pub bitmap : (ℕ → Option (List ℕ)) → ℕ
bitmap says = bits_from (λ k. is_some (says k)) 128

-- an element that is there, after its length digits where its length varies
abbrev pub part : Length → Option (List ℕ) → List ℕ
part size None = []
part size (Some cs) = field size cs

-- the elements that are there, in the rising order of the table
abbrev pub fields : List Row → (ℕ → Option (List ℕ)) → List ℕ
fields [] says = []
fields (row ∷ rows) says = part row.length (says row.element) ++ fields rows says

-- the bytes of the reply to a message, with a response code
unfoldable pub answer : List ℕ → ℕ → List ℕ
answer bs code = head (reply_type (type_of bs)) (bitmap (said bs code)) ++ fields table (said bs code)

-- what a reader finds in the reply: a message of the reply's type that says of each element what the reply has to say
pub record Reads (bs : List ℕ) (code : ℕ) (reply : List ℕ) : Type 0 where
  pub items : List Item
  pub read : content_of reply ≡ Ok (content (reply_type (type_of bs)) items)
  pub says : (k : ℕ) → chars_of items k ≡ said bs code k
