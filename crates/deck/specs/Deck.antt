-- What the lines of a deck ask for.
use Rattle.std.specs.Prelude.{ℕ, ◌+◌, cond, List, [], ◌∷◌, ◌++◌, length, Some, None, Ok, Err, vec_items, codes, Option, Result, ◌==◌}
use Rattle.std.specs.Option.{option_map}
use Rattle.std.specs.List.{onto_first}
use Rattle.std.specs.Str.{bytes_eq}
use Rattle.deck.specs.declared.Keyword.{Keyword}
use Rattle.deck.specs.declared.Keyword.TheVariants as keyword
use Rattle.deck.specs.declared.Command.{Command}
use Rattle.deck.specs.declared.Command.TheVariants.{Message, Show, Room}
use Rattle.deck.specs.declared.LineFault.{LineFault}
use Rattle.deck.specs.declared.LineFault.TheVariants as fault
use Rattle.hex.specs.declared.error.FromHexError.{FromHexError}
use Rattle.hex.specs.declared.error.FromHexError.TheVariants.{OutOfMemory}
use Rattle.deck.specs.Text.{before, first_word, after_word, without_blanks, hex_bytes, number_in}

-- a command, with what stands behind its keyword
pub data Asked : Type 0 where
  message : List ℕ → Asked
  show : List ℕ → Asked
  room : ℕ → Asked

abbrev pub meant : Command → Asked
meant (Message bytes) = message (vec_items bytes)
meant (Show bytes) = show (vec_items bytes)
meant (Room n) = room n

abbrev pub keyword_of : List ℕ → Option Keyword
keyword_of word =
    cond (bytes_eq word (codes "message")) (Some keyword.Message)
    (cond (bytes_eq word (codes "hex")) (Some keyword.Hex)
    (cond (bytes_eq word (codes "show")) (Some keyword.Show)
    (cond (bytes_eq word (codes "room")) (Some keyword.Room)
    None)))

-- a number with nothing but blanks around it
abbrev pub number_alone : List ℕ → Option ℕ
number_alone text = cond (length (first_word (after_word text)) == 0) (number_in (first_word text)) None

-- what a keyword asks for with the text behind it: none where the text does not fit
abbrev pub asked_by : Keyword → List ℕ → Option Asked
asked_by keyword.Message text = Some (message (without_blanks text))
asked_by keyword.Hex text = option_map message (hex_bytes (without_blanks text))
asked_by keyword.Show text = Some (show (without_blanks text))
asked_by keyword.Room text = option_map room (number_alone text)

abbrev pub asked_with : Option Keyword → List ℕ → Option (Option Asked)
asked_with None text = None
asked_with (Some k) text = option_map Some (asked_by k text)

-- a line without a word asks for nothing
abbrev pub asked_of : List ℕ → List ℕ → Option (Option Asked)
asked_of [] text = Some None
asked_of (c ∷ cs) text = asked_with (keyword_of (c ∷ cs)) text

-- what a line asks for, its comment left out: none where it is no command
abbrev pub asked : List ℕ → Option (Option Asked)
asked line = asked_of (first_word (before 35 line)) (after_word (before 35 line))

-- what is asked for with one line more
abbrev pub with_line : List Asked → Option (Option Asked) → Option (List Asked)
with_line sofar None = None
with_line sofar (Some None) = Some sofar
with_line sofar (Some (Some a)) = Some (sofar ++ a ∷ [])

-- a fault says that there is no command, or that memory failed
abbrev pub Blames : LineFault → Type 0 → Type 0
Blames fault.Command P = P
Blames fault.Digits P = P
Blames fault.Number P = P
Blames fault.Memory P = Unit {0}

-- the fault of a line whose digits could not be decoded
abbrev pub hex_fault : FromHexError → LineFault
hex_fault OutOfMemory = fault.Memory
hex_fault e = fault.Digits

-- the lines of a text: each ends at a line feed, the last one perhaps at the end
abbrev pub lines : List ℕ → List (List ℕ)
lines [] = []
lines (c ∷ cs) = cond (c == 10) ([] ∷ lines cs) (onto_first c (lines cs))

abbrev pub and_then : Option (Option Asked) → ℕ → Result (List Asked) ℕ → Result (List Asked) ℕ
and_then None n more = Err n
and_then (Some None) n more = more
and_then (Some (Some a)) n (Ok others) = Ok (a ∷ others)
and_then (Some (Some a)) n (Err k) = Err k

-- what lines ask for, the first of them numbered n: or the number of the first that is no command
abbrev pub asked_from : ℕ → List (List ℕ) → Result (List Asked) ℕ
asked_from n [] = Ok []
asked_from n (l ∷ ls) = and_then (asked l) n (asked_from (n + 1) ls)
