-- Reading and writing undo each other.
use Rattle.std.specs.Prelude.{◌≡◌, ℕ, ◌≤◌, List, length, take, Ok, Err, Result}
use Rattle.elements.specs.declared.fault.MessageFault.{MessageFault}
use Rattle.composer.specs.Contents.{Item, content, content_of}
use Rattle.composer.specs.Writing.{laid}

-- what was written, the reader takes: the same type and the same elements
abbrev pub ReadAgain : ℕ → List Item → Result ℕ MessageFault → List ℕ → Type 0
ReadAgain mti is (Ok n) out' = content_of (take n out') ≡ Ok (content mti is)
ReadAgain mti is (Err f) out' = Unit {0}

-- type and elements of a message that was read give that message again, byte for byte, wherever it fits
abbrev pub YieldedAgain : List ℕ → ℕ → List Item → Result ℕ MessageFault → List ℕ → Type 0
YieldedAgain out mti is r out' =
    (bs : List ℕ) → content_of bs ≡ Ok (content mti is) → length bs ≤ length out → (r ≡ Ok (length bs)) × (out' ≡ laid out 0 bs)
