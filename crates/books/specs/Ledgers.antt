-- What the books say, and how a message or a forwarding changes that.
use Rattle.std.specs.Prelude.{ℕ, ◌+◌, ◌%◌, replicate, Some, None, Option, slice_set}
use Rattle.journal.specs.Entries.{side_of, owing}
use Rattle.journal.specs.Numbers.{acquirer}
use Rattle.journal.specs.Places.{Places}
use Rattle.journal.specs.declared.entry.Entry.{Entry}
use Rattle.journal.specs.declared.entry.State.{State}
use Rattle.journal.specs.declared.entry.State.TheVariants.{Waiting, Completed, Declined, Owed, Reversed, Barred}
use Rattle.sums.specs.Days.{sums_of}
use Rattle.sums.specs.Sums.{Sums, no_sums, with_approval, with_reversal}
use Rattle.sums.specs.declared.day.Day.{Day}
use Rattle.books.specs.declared.books.Books.{Books}

pub record Ledger : Type 0 where
  pub places : Places
  pub mark : ℕ
  pub horizon : ℕ
  pub last : ℕ
  pub today : Sums
  pub closed : Option Sums

abbrev pub closed_sums : Option Day → Option Sums
closed_sums None = None
closed_sums (Some d) = Some (sums_of d)

abbrev pub ledger : Books → Ledger
ledger b =
    record {
      places = b.journal.places;
      mark = b.mark;
      horizon = b.horizon;
      last = b.last;
      today = sums_of b.today;
      closed = closed_sums b.closed;
    }

-- nothing in the journal, the mark at place 0, the horizon 0, no sums, and nothing closed
abbrev pub fresh : Ledger
fresh = record { places = replicate 512 None; mark = 0; horizon = 0; last = 0; today = no_sums; closed = None }

-- a transaction counts for its acquirer and its issuer, by its side and its amount
abbrev pub approved : Sums → Entry → Sums
approved s e = with_approval s (acquirer e.number) e.issuer (side_of e.terms.processing) e.terms.amount

abbrev pub reversed : Sums → Entry → Sums
reversed s e = with_reversal s (acquirer e.number) e.issuer (side_of e.terms.processing) e.terms.amount

-- an entry that a message makes counts if it is completed or waiting
abbrev pub counted : State → Sums → Entry → Sums
counted Waiting s e = approved s e
counted Completed s e = approved s e
counted Declined s e = s
counted Owed s e = s
counted Reversed s e = s
counted Barred s e = s

abbrev pub with_entry : Ledger → ℕ → Entry → Sums → Ledger
with_entry l i e today =
    record { places = slice_set l.places i (Some e); mark = l.mark; horizon = l.horizon; last = l.last; today = today; closed = l.closed }

-- a new entry at a place
abbrev pub taken_in : Ledger → ℕ → Entry → Ledger
taken_in l i e = with_entry l i e (counted e.state l.today e)

-- an entry that was completed or waiting becomes owed, and its reversal counts
abbrev pub taken_back : Ledger → ℕ → Entry → Ledger
taken_back l i e = with_entry l i (owing e) (reversed l.today e)

-- an entry after its host was asked; the mark moves one past its place
abbrev pub forwarded : Ledger → ℕ → Entry → Ledger
forwarded l i e =
    record { places = slice_set l.places i (Some e); mark = (i + 1) % 512; horizon = l.horizon; last = l.last; today = l.today; closed = l.closed }
