-- Prefixes of card numbers. The first k digits of a number of n digits are the number divided by 10 ^ (n - k).
use Rattle.std.specs.Prelude.{◌≡◌, ℕ, ◌-◌, ◌/◌, ◌^◌, ◌≤◌, Bool, ◌&&◌, List, length, take, Decides, ◌==◌, nat_le, nat_lt}
use Rattle.std.specs.Int.Digits.{number_from_digits, AllBelowBase}
use Rattle.host.specs.declared.line.Card.{Card}
use Rattle.members.specs.declared.prefix.Prefix.{Prefix}

-- 1 to 8 digits
abbrev pub formed : Prefix → Bool
formed p = nat_le 1 p.count && nat_le p.count 8 && nat_lt p.digits (10 ^ p.count)

-- the same digits, leading zeros too
abbrev pub same_prefix : Prefix → Prefix → Bool
same_prefix p q = p.digits == q.digits && p.count == q.count

-- a card begins with a prefix: it is at least as long, and its first digits are those of the prefix.
-- More than 19 digits are no card, and no prefix fits them.
abbrev pub fits : Prefix → Card → Bool
fits p c = nat_le p.count c.count && nat_le c.count 19 && c.digits / 10 ^ (c.count - p.count) == p.digits

-- the prefix and the card that digits from 0 to 9 write
abbrev pub prefix_of : List ℕ → Prefix
prefix_of ds = record { digits = number_from_digits 10 ds; count = length ds }

abbrev pub card_of : List ℕ → Card
card_of ds = record { digits = number_from_digits 10 ds; count = length ds }

-- that a card begins with a prefix is told digit by digit: the first digits of the card are those of the prefix
abbrev pub Digitwise : Prefix → Card → Bool → Type 0
Digitwise p c r =
    (ps cs : List ℕ) → AllBelowBase 10 ps → AllBelowBase 10 cs → length cs ≤ 19 → p ≡ prefix_of ps → c ≡ card_of cs → Decides r (take (length ps) cs ≡ ps)
