-- A set of elements, told one by one.
use Rattle.std.specs.Prelude.{ℕ, List, Result}
use Rattle.iso8583.specs.Bitmap.{first}
use Rattle.iso8583.specs.Reading.{unless}
use Rattle.composer.specs.Writing.{bits_from, marks, outside}

-- the bits of all, or the lowest that the table does not have
abbrev pub gathered : List ℕ → Result ℕ ℕ
gathered es = unless (first (outside es) 0 256) (λ k. k) (bits_from (marks es) 128)
