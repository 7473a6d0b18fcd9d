-- What a walk over the elements of a message answers.
use Rattle.std.specs.Prelude.{◌≡◌, ℕ, ◌≤◌, List, length, take, drop, Ok, Err, Result}
use Rattle.elements.specs.declared.fault.MessageFault.{MessageFault}
use Rattle.iso8583.specs.declared.found.Found.{Found}
use Rattle.iso8583.specs.Reading.{body, elements}
use Rattle.elements.specs.Table.{table}

-- the places of the elements stand at the front of the array, and the rest of it does not count
abbrev pub Walked : List ℕ → ℕ → List Found → Result ℕ MessageFault → Type 0
Walked bs bits found (Ok count) = (count ≤ length found) × (elements table bits (body bits) (drop (body bits) bs) ≡ Ok (take count found))
Walked bs bits found (Err f) = elements table bits (body bits) (drop (body bits) bs) ≡ Err f
