-- What the parts of composing a message answer and leave.
use Rattle.std.specs.Prelude.{◌≡◌, ℕ, List, map, Result}
use Rattle.elements.specs.declared.fault.MessageFault.{MessageFault}
use Rattle.iso8583.specs.declared.message.Element.{Element}
use Rattle.composer.specs.declared.writer.Writer.{Writer}
use Rattle.composer.specs.Contents.{Item, item, Composed, all_put}
use Rattle.composer.specs.Writers.{state_of}

abbrev pub items : List Element → List Item
items es = map item es

-- the answer and the buffer are those of the steps
abbrev pub Steps : Composed → Result ℕ MessageFault → List ℕ → Type 0
Steps c r out' = (r ≡ c.answer) × (out' ≡ c.out)

abbrev pub Puts : List ℕ → Writer → List Item → Result ℕ MessageFault → List ℕ → Type 0
Puts out w is r out' = Steps (all_put (state_of out w) is) r out'
