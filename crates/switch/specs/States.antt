-- What a switch is, as its calls see it.
use Rattle.std.specs.Prelude.{ℕ, List}
use Rattle.host.specs.Meaning.{Meaning}
use Rattle.journal.specs.declared.entry.Entry.{Entry}
use Rattle.members.specs.Members.{codes_of, routes_of}
use Rattle.members.specs.declared.routes.Way.{Way}
use Rattle.books.specs.Ledgers.{Ledger, ledger, fresh, taken_in}
use Rattle.switch.specs.declared.switch.Switch.{Switch}

-- the banks by their codes, the routes, the books, and what the host means
pub record State : Type 0 where
  pub banks : List ℕ
  pub routes : List Way
  pub books : Ledger
  pub host : Meaning

abbrev pub view : {H : Type 0} → (H → Meaning) → Switch H → State
view meaning s =
    record { banks = codes_of s.banks; routes = routes_of s.routes; books = ledger s.books; host = meaning s.host }

-- a switch that was just opened
abbrev pub opened : List ℕ → List Way → Meaning → State
opened banks routes host = record { banks = banks; routes = routes; books = fresh; host = host }

-- other books, and a host that may have been asked
abbrev pub with : State → Ledger → Meaning → State
with s books host = record { banks = s.banks; routes = s.routes; books = books; host = host }

-- a new entry at a place
abbrev pub entering : State → ℕ → Entry → Meaning → State
entering s place e host = with s (taken_in s.books place e) host
