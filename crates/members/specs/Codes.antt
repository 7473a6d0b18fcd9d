-- The banks of a switch, as a list of their codes.
use Rattle.std.specs.Prelude.{ℕ, Bool, not, ◌&&◌, List, length, is_some, Option, ◌==◌, nat_le, slice_get, position}
use Rattle.members.specs.Each.{each}

-- the place of a code; banks count from 0
abbrev pub place_in : List ℕ → ℕ → Option ℕ
place_in cs code = position (λ c. c == code) cs

-- the code at a place
abbrev pub code_at : List ℕ → ℕ → Option ℕ
code_at cs i = slice_get cs i

abbrev pub known : List ℕ → ℕ → Bool
known cs code = is_some (place_in cs code)

-- a bank may have this code, beside those that come after it
abbrev pub proper_code : ℕ → List ℕ → Bool
proper_code c later = nat_le 1 c && nat_le c 99999999999 && not (known later c)

-- what a switch can be opened with: 1 to 16 proper codes, none twice
abbrev pub sound_banks : List ℕ → Bool
sound_banks cs = nat_le 1 (length cs) && nat_le (length cs) 16 && each proper_code cs
