-- What banks owe one another by the sums of a day.
use Rattle.std.specs.Prelude.{ℕ, zero, suc, ℤ, pos, ◌+ℤ◌, ◌-ℤ◌}
use Rattle.host.specs.declared.line.Side.TheVariants.{Debit, Credit}
use Rattle.sums.specs.Sums.{Sums, approvals, reversals, amount_of}

-- debits less debit reversals less credits plus credit reversals, of an acquirer p and an issuer q
abbrev pub net : Sums → ℕ → ℕ → ℤ
net s p q =
    pos (s (approvals (amount_of Debit)) p q) -ℤ pos (s (reversals (amount_of Debit)) p q) -ℤ pos (s (approvals (amount_of Credit)) p q) +ℤ pos (s (reversals (amount_of Credit)) p q)

-- the values of f below n, added up
unfoldable pub summed : (ℕ → ℤ) → ℕ → ℤ
summed f zero = pos 0
summed f (suc n) = summed f n +ℤ f n

-- what the first n banks owe bank i as their acquirer less what it owes them as their issuer
unfoldable pub balance : Sums → ℕ → ℕ → ℤ
balance s n i = summed (λ q. net s i q) n -ℤ summed (λ p. net s p i) n

-- the net position of bank i among the sixteen
abbrev pub position : Sums → ℕ → ℤ
position s i = balance s 16 i
