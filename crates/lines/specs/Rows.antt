-- A table of lines: which line it shows for an issuer and a number, and how many of its places are free.
use Rattle.std.specs.Prelude.{◌≡◌, ℕ, ◌+◌, Bool, true, false, cond, not, ◌&&◌, List, [], ◌∷◌, Some, None, Option, ◌==◌, is_some, position}
use Rattle.host.specs.declared.line.Key.{Key}
use Rattle.host.specs.declared.line.Line.{Line}
use Rattle.host.specs.declared.line.Line.TheVariants.{Absent}
use Rattle.lines.specs.Answers.{present, places_left}
use Rattle.lines.specs.declared.table.Row.{Row}

-- a place that has the row of an issuer and a number
abbrev pub taken_by : Option Row → ℕ → ℕ → Bool
taken_by None issuer number = false
taken_by (Some r) issuer number = r.key.issuer == issuer && r.key.number == number

-- the line at a place, or else what another place has
abbrev pub line_at : Option Row → Line → Line
line_at None l = l
line_at (Some r) l = r.line

-- the line of an issuer and a number: absent where no place has it
abbrev pub shown : List (Option Row) → ℕ → ℕ → Line
shown [] issuer number = Absent
shown (p ∷ ps) issuer number = cond (taken_by p issuer number) (line_at p Absent) (shown ps issuer number)

abbrev pub one_free : Option Row → ℕ
one_free None = 1
one_free (Some r) = 0

-- how many places are free
abbrev pub free : List (Option Row) → ℕ
free [] = 0
free (p ∷ ps) = one_free p + free ps

-- the first place that has a key
abbrev pub place_of : List (Option Row) → Key → Option ℕ
place_of ps key = position (λ p. taken_by p key.issuer key.number) ps

-- the lowest place that is free
abbrev pub lowest_free : List (Option Row) → Option ℕ
lowest_free ps = position (λ p. not (is_some p)) ps

-- what a place holds is a line, and no later place has one for its key
abbrev pub alone : Option Row → List (Option Row) → Bool
alone None ps = true
alone (Some r) ps = present r.line && not (present (shown ps r.key.issuer r.key.number))

abbrev pub distinct : List (Option Row) → Bool
distinct [] = true
distinct (p ∷ ps) = alone p ps && distinct ps

-- all lines but that of a key are as they were
abbrev pub Others : List (Option Row) → Key → List (Option Row) → Type 0
Others ps key qs = (i k : ℕ) → ((i ≡ key.issuer) × (k ≡ key.number) → ⊥) → shown qs i k ≡ shown ps i k

-- a change leaves this line for a key, and all other lines as they were
pub record Leaves (ps : List (Option Row)) (key : Key) (l : Line) (qs : List (Option Row)) : Type 0 where
  pub here : shown qs key.issuer key.number ≡ l
  pub others : Others ps key qs
  pub left : free qs ≡ places_left (shown ps key.issuer key.number) l (free ps)

-- as many places are free as the line that a key has now leaves, in the stead of the one that it had
abbrev pub PlacesKept : List (Option Row) → Key → List (Option Row) → Type 0
PlacesKept ps key qs = free qs ≡ places_left (shown ps key.issuer key.number) (shown qs key.issuer key.number) (free ps)
