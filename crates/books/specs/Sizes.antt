-- How large the numbers in an entry are.
use Rattle.std.specs.Prelude.{◌*◌, ◌^◌, Bool, true, ◌&&◌, [], ◌∷◌, Some, None, Option, nat_lt}
use Rattle.journal.specs.Places.{Places}
use Rattle.journal.specs.declared.entry.Entry.{Entry}

-- banks count to 15 at most, amounts have 12 digits at most, and response codes two
abbrev pub small : Entry → Bool
small e = nat_lt e.number (16 * 10 ^ 16) && nat_lt e.issuer 16 && nat_lt e.code 100 && nat_lt e.terms.amount (10 ^ 12)

abbrev pub small_at : Option Entry → Bool
small_at None = true
small_at (Some e) = small e

abbrev pub all_small : Places → Bool
all_small [] = true
all_small (p ∷ ps) = small_at p && all_small ps
