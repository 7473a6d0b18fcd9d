-- The elements of a reply, as the writer is handed them.
use Rattle.std.specs.Prelude.{◌≡◌, ℕ, List, [], ◌∷◌, map, Some, None, Ok, Option, Result}
use Rattle.elements.specs.declared.fault.MessageFault.{MessageFault}
use Rattle.composer.specs.declared.writer.Writer.{Writer}
use Rattle.composer.specs.Contents.{Item}
use Rattle.composer.specs.Writers.{Put}
use Rattle.replies.specs.declared.reply.Response.{Response}
use Rattle.replies.specs.Replies.{bytes_of, told, replied}

-- an element, before others, if it is there
abbrev pub pick : ℕ → Option (List ℕ) → List Item → List Item
pick k None is = is
pick k (Some cs) is = record { number = k; chars = cs } ∷ is

-- of some elements, those that are there
abbrev pub picked : List ℕ → (ℕ → Option (List ℕ)) → List Item
picked [] says = []
picked (k ∷ ks) says = pick k (says k) (picked ks says)

abbrev pub numbers_of : List Item → List ℕ
numbers_of is = map (λ i. i.number) is

-- what is said of an element by the reply to a message
abbrev pub told_by : Response → ℕ → Option (List ℕ)
told_by r = told (bytes_of r.message.now) r.code

-- all that a reply has
unfoldable pub items_for : List ℕ → ℕ → List Item
items_for bs code = picked replied (told bs code)

abbrev pub items_of : Response → List Item
items_of r = items_for (bytes_of r.message.now) r.code

-- what is told of an element is put; where nothing is, writer and buffer stay as they were
abbrev pub PutTold : List ℕ → Writer → ℕ → Option (List ℕ) → Result (Unit {0}) MessageFault → List ℕ → Writer → Type 0
PutTold out w k None r out' w' = (r ≡ Ok tt) × (out' ≡ out) × (w' ≡ w)
PutTold out w k (Some cs) r out' w' = Put out w k cs r out' w'
