-- The elements that a message may have: format and length of each.
use Rattle.std.specs.Prelude.{ℕ, Bool, false, ◌&&◌, ◌||◌, List, [], ◌∷◌, ◌==◌, nat_le}
use Rattle.elements.specs.declared.table.Format.{Format}
use Rattle.elements.specs.declared.table.Format.TheVariants.{Numeric, Alphanumeric, Printable}
use Rattle.elements.specs.declared.table.Length.{Length}
use Rattle.elements.specs.declared.table.Length.TheVariants.{Fixed, UpTo}
use Rattle.elements.specs.declared.table.Row.{Row}

abbrev pub row : ℕ → Format → Length → Row
row k f l = record { element = k; format = f; length = l }

-- in rising order
unfoldable pub table : List Row
table =
    row 2 Numeric (UpTo 19) ∷
    row 3 Numeric (Fixed 6) ∷
    row 4 Numeric (Fixed 12) ∷
    row 7 Numeric (Fixed 10) ∷
    row 11 Numeric (Fixed 6) ∷
    row 12 Numeric (Fixed 6) ∷
    row 13 Numeric (Fixed 4) ∷
    row 32 Numeric (UpTo 11) ∷
    row 33 Numeric (UpTo 11) ∷
    row 37 Alphanumeric (Fixed 12) ∷
    row 39 Alphanumeric (Fixed 2) ∷
    row 41 Printable (Fixed 8) ∷
    row 49 Numeric (Fixed 3) ∷
    row 90 Numeric (Fixed 42) ∷ []

-- no row of the table
abbrev pub blank : Row
blank = row 0 Numeric (Fixed 0)

-- the table has a row for the element
abbrev pub known : List Row → ℕ → Bool
known [] k = false
known (r ∷ rs) k = r.element == k || known rs k

abbrev pub within : ℕ → ℕ → ℕ → Bool
within low high c = nat_le low c && nat_le c high

-- 0 to 9
abbrev pub decimal : ℕ → Bool
decimal c = within 48 57 c

-- 0 to 9 and capital A to F
abbrev pub hexadecimal : ℕ → Bool
hexadecimal c = within 48 57 c || within 65 70 c

-- n is 0 to 9; an is 0 to 9, A to Z and a to z; ans is 32 to 126
abbrev pub fits : Format → ℕ → Bool
fits Numeric c = decimal c
fits Alphanumeric c = decimal c || within 65 90 c || within 97 122 c
fits Printable c = within 32 126 c

-- the length itself, or 1 up to the limit
abbrev pub admits : Length → ℕ → Bool
admits (Fixed length) n = n == length
admits (UpTo limit) n = within 1 limit n

-- how many length digits stand before an element
abbrev pub lead : Length → ℕ
lead (Fixed n) = 0
lead (UpTo limit) = 2
