-- The number that digits write.
use Rattle.std.specs.Prelude.{ℕ, zero, suc, ◌+◌, Bool, true, cond, ◌&&◌, List, [], ◌∷◌, length, take, drop, Some, None, Ok, Err, Option, Result}
use Rattle.std.specs.Char.{digit_value}
use Rattle.std.specs.Str.Parse.{digits_value}
use Rattle.elements.specs.declared.number.Base.{Base}
use Rattle.elements.specs.declared.number.Base.TheVariants.{Decimal, Hexadecimal}
use Rattle.elements.specs.Table.{within, decimal, hexadecimal}

abbrev pub radix : Base → ℕ
radix Decimal = 10
radix Hexadecimal = 16

abbrev pub is_digit : Base → ℕ → Bool
is_digit Decimal c = decimal c
is_digit Hexadecimal c = hexadecimal c

abbrev pub digit_of : Base → ℕ → Option ℕ
digit_of base c = cond (is_digit base c) (Some (digit_value c)) None

-- the digit that characters start with, if they do
abbrev pub digit_in : Base → List ℕ → Option ℕ
digit_in base [] = None
digit_in base (c ∷ cs) = digit_of base c

-- an answer, unless something is wrong, at a place or with an element
abbrev pub unless : {A F : Type 0} → Option ℕ → (ℕ → F) → A → Result A F
unless None fault a = Ok a
unless (Some i) fault a = Err (fault i)

-- of n characters from place i on, the place of the first that is missing or does not pass a test
abbrev pub wrong : (ℕ → Bool) → ℕ → ℕ → List ℕ → Option ℕ
wrong good zero i cs = None
wrong good (suc n) i [] = Some i
wrong good (suc n) i (c ∷ cs) = cond (good c) (wrong good n (i + 1) cs) (Some i)

-- the number that n digits write from a place on, or the place of the first that is wrong
abbrev pub numeral : Base → List ℕ → ℕ → ℕ → Result ℕ ℕ
numeral base bs at n = unless (wrong (is_digit base) n at (drop at bs)) (λ i. i) (digits_value (radix base) (take n (drop at bs)))

-- every byte is 0 to 9
abbrev pub all_decimal : List ℕ → Bool
all_decimal [] = true
all_decimal (c ∷ cs) = decimal c && all_decimal cs

-- 1 to 19 digits: every number of 19 digits is below 2 ^ 64
abbrev pub number_of : List ℕ → Option ℕ
number_of ds = cond (within 1 19 (length ds) && all_decimal ds) (Some (digits_value 10 ds)) None
