-- What a message that was read says.
use Rattle.std.specs.Prelude.{◌≡◌, ℕ, ◌≤◌, Bool, ◌&&◌, List, length, take, Some, None, Ok, Err, Option, Result, ◌==◌}
use Rattle.std.specs.List.{between, find}
use Rattle.elements.specs.declared.fault.MessageFault.{MessageFault}
use Rattle.iso8583.specs.declared.found.Found.{Found}
use Rattle.iso8583.specs.declared.message.Element.{Element}
use Rattle.iso8583.specs.declared.message.Layout.{Layout}
use Rattle.iso8583.specs.declared.message.Message.{Message}
use Rattle.iso8583.specs.Bitmap.{marked}
use Rattle.iso8583.specs.Reading.{Parts, parts, reading}
use Rattle.elements.specs.Table.{within}

abbrev pub layout_parts : Layout → Parts
layout_parts l = parts l.mti l.bitmap (take l.count l.found)

-- the layout is what the format finds in the bytes
pub record LiesIn (bs : List ℕ) (l : Layout) : Type 0 where
  pub few : l.count ≤ length l.found
  pub found : reading bs ≡ Ok (layout_parts l)

-- the bytes are a message that is laid out so, or the format refuses them
abbrev pub LaidOut : List ℕ → Result Layout MessageFault → Type 0
LaidOut bs (Ok l) = LiesIn bs l
LaidOut bs (Err f) = reading bs ≡ Err f

abbrev pub layout_of : Message → Layout
layout_of m = m.layout

abbrev pub parts_of : Message → Parts
parts_of m = layout_parts m.layout

-- the message is over these bytes, and what the format finds in them
pub record Lies (bs : List ℕ) (m : Message) : Type 0 where
  pub bytes : m.bytes.now ≡ bs
  pub found : reading bs ≡ Ok (parts_of m)

-- the bytes are a message that lies so, or the format refuses them
abbrev pub Read : List ℕ → Result Message MessageFault → Type 0
Read bs (Ok m) = Lies bs m
Read bs (Err f) = reading bs ≡ Err f

-- element k is marked; bit 1 marks no element
abbrev pub present : Message → ℕ → Bool
present m k = within 2 128 k && marked m.layout.bitmap k

-- the element with a number, if there is one
abbrev pub found_of : List Found → ℕ → Option Found
found_of es k = find (λ e. e.element == k) es

pub record Lent (m : Message) (k : ℕ) (e : Element) : Type 0 where
  pub found : Found
  pub here : found_of (parts_of m).elements k ≡ Some found
  pub number : e.number ≡ k
  pub offset : e.offset ≡ found.start
  pub chars : e.chars.now ≡ between found.start found.end m.bytes.now

-- an element handed out is that part of the message's bytes, at that offset; one that was not found is absent
abbrev pub Handed : Message → ℕ → Option Element → Type 0
Handed m k None = found_of (parts_of m).elements k ≡ None
Handed m k (Some e) = Lent m k e
