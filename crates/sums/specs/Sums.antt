-- The sums of a day: eight figures for each acquirer and issuer, and how an approval or a reversal changes them.
use Rattle.std.specs.Prelude.{ℕ, ◌+◌, ◌*◌, ◌≤◌, cond, ◌&&◌, ◌==◌}
use Rattle.host.specs.declared.line.Side.{Side}
use Rattle.host.specs.declared.line.Side.TheVariants.{Debit, Credit}

-- what is measured of the transactions of one side: how many they are, or what they amount to
pub data Measure : Type 0 where
  number_of : Side → Measure
  amount_of : Side → Measure

-- a figure is a measure of what was approved, or of what was reversed
pub data Figure : Type 0 where
  approvals : Measure → Figure
  reversals : Measure → Figure

-- each figure, by acquirer and issuer
abbrev pub Sums : Type 0
Sums = Figure → ℕ → ℕ → ℕ

-- a value for a transaction of the side that is measured, and nothing for one of the other side
abbrev pub on_side : Side → Side → ℕ → ℕ
on_side Debit Debit n = n
on_side Debit Credit n = 0
on_side Credit Debit n = 0
on_side Credit Credit n = n

-- what a transaction of a side and an amount comes to in a measure
abbrev pub worth : Measure → Side → ℕ → ℕ
worth (number_of measured) side amount = on_side measured side 1
worth (amount_of measured) side amount = on_side measured side amount

-- it counts for its own acquirer p and issuer q, and for no others
abbrev pub share : Measure → ℕ → ℕ → Side → ℕ → ℕ → ℕ → ℕ
share m acquirer issuer side amount p q = cond (p == acquirer && q == issuer) (worth m side amount) 0

-- a day without transactions
abbrev pub no_sums : Sums
no_sums f p q = 0

-- an approval adds to what was approved, and leaves what was reversed
abbrev pub with_approval : Sums → ℕ → ℕ → Side → ℕ → Sums
with_approval s acquirer issuer side amount (approvals m) p q = s (approvals m) p q + share m acquirer issuer side amount p q
with_approval s acquirer issuer side amount (reversals m) p q = s (reversals m) p q

-- a reversal adds to what was reversed, and leaves what was approved
abbrev pub with_reversal : Sums → ℕ → ℕ → Side → ℕ → Sums
with_reversal s acquirer issuer side amount (approvals m) p q = s (approvals m) p q
with_reversal s acquirer issuer side amount (reversals m) p q = s (reversals m) p q + share m acquirer issuer side amount p q

-- the most that n transactions can come to, of at most 10^12 each
abbrev pub most : Measure → ℕ → ℕ
most (number_of measured) n = n
most (amount_of measured) n = n * 1000000000000

-- no figure of what was approved is more than n transactions can make it
abbrev pub ApprovedWithin : ℕ → Sums → Type 0
ApprovedWithin n s = (m : Measure) (p q : ℕ) → s (approvals m) p q ≤ most m n

-- the same of what was reversed
abbrev pub ReversedWithin : ℕ → Sums → Type 0
ReversedWithin n s = (m : Measure) (p q : ℕ) → s (reversals m) p q ≤ most m n
