-- Balances: what a card has, and what a booking makes of it.
use Rattle.std.specs.Prelude.{ℕ, Bool, true, cond, ◌&&◌, List, [], ◌∷◌, find, ℤ, pos, ◌+ℤ◌, ◌-ℤ◌, neg_ℤ, Some, None, Option, ◌==◌, int_le}
use Rattle.std.specs.Option.{option_map}
use Rattle.host.specs.declared.line.Card.{Card}
use Rattle.host.specs.declared.line.Details.{Details}
use Rattle.host.specs.declared.line.Side.{Side}
use Rattle.host.specs.declared.line.Side.TheVariants.{Debit, Credit}
use Rattle.accounts.specs.declared.accounts.Account.{Account}

-- the same digits, and as many
abbrev pub same_card : Card → Card → Bool
same_card a b = a.digits == b.digits && a.count == b.count

-- the balance of a card, if it has an account
abbrev pub balance_of : List Account → Card → Option ℤ
balance_of xs c = option_map (λ a. a.balance) (find (λ a. same_card a.card c) xs)

-- a debit is taken from the balance, a credit given to it
abbrev pub booked : Side → ℕ → ℤ → ℤ
booked Debit amount balance = balance -ℤ pos amount
booked Credit amount balance = balance +ℤ pos amount

-- no balance leaves ±10^17
abbrev pub bounded : ℤ → Bool
bounded balance = int_le (neg_ℤ (pos 100000000000000000)) balance && int_le balance (pos 100000000000000000)

-- a booking would not make a balance leave its bounds; where there is no account, there is none to leave them
abbrev pub stays : Option ℤ → Details → Bool
stays None d = true
stays (Some balance) d = bounded (booked d.side d.amount balance)

abbrev pub booked_on : Account → Details → Account
booked_on a d = record { card = a.card; balance = booked d.side d.amount a.balance }

-- the accounts after a booking on a card
abbrev pub with_booking : List Account → Details → List Account
with_booking [] d = []
with_booking (a ∷ xs) d = cond (same_card a.card d.card) (booked_on a d ∷ xs) (a ∷ with_booking xs d)

-- booking back goes the other way
abbrev pub opposite : Side → Side
opposite Debit = Credit
opposite Credit = Debit

-- what takes a booking back
abbrev pub undoing : Details → Details
undoing d = record { card = d.card; side = opposite d.side; amount = d.amount }
