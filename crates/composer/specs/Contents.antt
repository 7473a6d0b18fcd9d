-- What a message says, and the writing of a whole one.
use Rattle.std.specs.Prelude.{ℕ, List, [], ◌∷◌, map, Ok, Err, Result}
use Rattle.std.specs.List.{between}
use Rattle.elements.specs.declared.fault.MessageFault.{MessageFault}
use Rattle.iso8583.specs.declared.found.Found.{Found}
use Rattle.iso8583.specs.declared.message.Element.{Element}
use Rattle.iso8583.specs.Reading.{after, reading}
use Rattle.composer.specs.Writing.{State, starting, putting, ending}

-- an element by its number and its characters
pub record Item : Type 0 where
  pub number : ℕ
  pub chars : List ℕ

-- a message by its type and its elements
pub record Content : Type 0 where
  pub mti : ℕ
  pub items : List Item

abbrev pub content : ℕ → List Item → Content
content mti items = record { mti = mti; items = items }

-- an element that was found in bytes
abbrev pub item_of : List ℕ → Found → Item
item_of bs e = record { number = e.element; chars = between e.start e.end bs }

-- what bytes say, if they are a message
abbrev pub content_of : List ℕ → Result Content MessageFault
content_of bs = after (reading bs) (λ p. Ok (content p.mti (map (item_of bs) p.elements)))

-- elements as a caller hands them over
abbrev pub item : Element → Item
item e = record { number = e.number; chars = e.chars.now }

-- how a message was composed: the answer, and the buffer after it
pub record Composed : Type 0 where
  pub answer : Result ℕ MessageFault
  pub out : List ℕ

-- a step that is refused ends it, with the buffer as it was before that step
abbrev pub on : Result State MessageFault → List ℕ → (State → Composed) → Composed
on (Ok s) out next = next s
on (Err f) out next = record { answer = Err f; out = out }

-- each element, then the end
abbrev pub all_put : State → List Item → Composed
all_put s [] = record { answer = ending s.used s.rest; out = s.out }
all_put s (i ∷ is) = on (putting s i.number i.chars) s.out (λ t. all_put t is)

-- the start, each element, the end
abbrev pub composed : List ℕ → ℕ → List Item → Composed
composed out mti is = on (starting out mti (map (λ i. i.number) is)) out (λ s. all_put s is)
