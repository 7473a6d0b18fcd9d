-- How the text of a deck is cut and read: blanks, words, hexadecimal digits and numbers.
use Rattle.std.specs.Prelude.{ℕ, Bool, cond, not, ◌||◌, List, length, drop, None, filter, Option, ◌==◌, nat_le}
use Rattle.std.specs.List.{prefix_len, position_or_len, before_first, after_first}
use Rattle.std.specs.Result.{result_ok}
use Rattle.hex.specs.Hex.{decode_of}
use Rattle.elements.specs.Numbers.{number_of}

-- space, tab and carriage return
abbrev pub blank : ℕ → Bool
blank c = c == 32 || c == 9 || c == 13

-- the bytes before the first one that is `stop`, and those behind it: all and none where there is no such byte
abbrev pub before : ℕ → List ℕ → List ℕ
before stop text = before_first (λ c. c == stop) text

abbrev pub behind : ℕ → List ℕ → List ℕ
behind stop text = after_first (λ c. c == stop) text

-- the bytes from the first that is no blank on
abbrev pub from_word : List ℕ → List ℕ
from_word text = drop (prefix_len blank text) text

-- the first word, and what follows it
abbrev pub first_word : List ℕ → List ℕ
first_word text = before_first blank (from_word text)

abbrev pub after_word : List ℕ → List ℕ
after_word text = drop (position_or_len blank (from_word text)) (from_word text)

abbrev pub without_blanks : List ℕ → List ℕ
without_blanks text = filter (λ c. not (blank c)) text

-- the bytes that pairs of digits of either case write: none where a digit is wrong, or one is left over
abbrev pub hex_bytes : List ℕ → Option (List ℕ)
hex_bytes digits = result_ok (decode_of digits)

-- a number is 1 to 18 digits
abbrev pub number_in : List ℕ → Option ℕ
number_in cs = cond (nat_le (length cs) 18) (number_of cs) None
