-- Which accounts a book may be opened with.
use Rattle.std.specs.Prelude.{ℕ, ◌-◌, ◌^◌, Bool, true, not, ◌&&◌, List, [], ◌∷◌, length, replicate, pos, int_le, nat_le, nat_lt}
use Rattle.std.specs.List.{list_any}
use Rattle.host.specs.declared.line.Card.{Card}
use Rattle.accounts.specs.Balances.{same_card}
use Rattle.accounts.specs.declared.accounts.Account.{Account}

-- 1 to 19 digits
abbrev pub is_card : Card → Bool
is_card c = nat_le 1 c.count && nat_le c.count 19 && nat_lt c.digits (10 ^ c.count)

-- a card, and a balance of 0 to 10^15
abbrev pub good : Account → Bool
good a = is_card a.card && int_le (pos 0) a.balance && int_le a.balance (pos 1000000000000000)

-- what lies at a place that has no account
abbrev pub no_account : Account
no_account = record { card = record { digits = 0; count = 0 }; balance = pos 0 }

-- the places that have no account, behind n that have one
unfoldable pub blank_from : ℕ → List Account
blank_from n = replicate (256 - n) no_account

-- the card has an account in the list
abbrev pub listed : List Account → Card → Bool
listed xs c = list_any (λ a. same_card a.card c) xs

-- every account is good, and no card is there twice
abbrev pub single : List Account → Bool
single [] = true
single (a ∷ xs) = good a && not (listed xs a.card) && single xs

-- at most 256 of them
abbrev pub sound : List Account → Bool
sound xs = nat_le (length xs) 256 && single xs
