-- What a count does, and its steps.
use Rattle.std.specs.Prelude.{ℕ, ◌+◌, ◌*◌, ◌≤◌, ℤ, pos, ◌+ℤ◌, ◌-ℤ◌, neg_ℤ, ◌≤ℤ◌}
use Rattle.host.specs.declared.line.Side.{Side}
use Rattle.host.specs.declared.line.Side.TheVariants.{Debit, Credit}
use Rattle.sums.specs.Sums.{Sums, with_approval, with_reversal, ApprovedWithin, ReversedWithin}
use Rattle.sums.specs.Tables.{approved, reversed}
use Rattle.sums.specs.declared.figures.Kind.{Kind}
use Rattle.sums.specs.declared.figures.Kind.TheVariants.{Approval, Reversal}
use Rattle.sums.specs.declared.figures.Tally.{Tally}
use Rattle.sums.specs.declared.figures.Figures.{Figures}
use Rattle.sums.specs.declared.payment.Payment.{Payment}

-- no more than n transactions
pub record Holds (n : ℕ) (t : Tally) : Type 0 where
  pub number : t.number ≤ n
  pub amount : t.amount ≤ n * 1000000000000

-- no figure is more than a day allows
pub record Counted (x : Figures) : Type 0 where
  pub credits : Holds 512 x.credits
  pub credit_reversals : Holds 512 x.credit_reversals
  pub debits : Holds 512 x.debits
  pub debit_reversals : Holds 512 x.debit_reversals

-- the net that figures make
abbrev pub net_in : Figures → ℤ
net_in x = pos x.debits.amount -ℤ pos x.debit_reversals.amount -ℤ pos x.credits.amount +ℤ pos x.credit_reversals.amount

-- at most n, owed or owing
abbrev pub Between : ℕ → ℤ → Type 0
Between n z = (neg_ℤ (pos n) ≤ℤ z) × (z ≤ℤ pos n)

-- the tally in which a transaction counts
abbrev pub tally_in : Figures → Kind → Side → Tally
tally_in x Approval side = approved x side
tally_in x Reversal side = reversed x side

-- one more transaction
abbrev pub one_more : Tally → ℕ → Tally
one_more t amount = record { number = t.number + 1; amount = t.amount + amount }

-- the figures with one more
abbrev pub counting : Figures → Kind → Side → ℕ → Figures
counting x Approval Credit amount =
    record { credits = one_more x.credits amount; credit_reversals = x.credit_reversals; debits = x.debits; debit_reversals = x.debit_reversals }
counting x Approval Debit amount =
    record { credits = x.credits; credit_reversals = x.credit_reversals; debits = one_more x.debits amount; debit_reversals = x.debit_reversals }
counting x Reversal Credit amount =
    record { credits = x.credits; credit_reversals = one_more x.credit_reversals amount; debits = x.debits; debit_reversals = x.debit_reversals }
counting x Reversal Debit amount =
    record { credits = x.credits; credit_reversals = x.credit_reversals; debits = x.debits; debit_reversals = one_more x.debit_reversals amount }

-- the sums with one more
abbrev pub with_one : Kind → Sums → Payment → Sums
with_one Approval s x = with_approval s x.acquirer x.issuer x.side x.amount
with_one Reversal s x = with_reversal s x.acquirer x.issuer x.side x.amount

-- room for one more
abbrev pub Room : Kind → Sums → Type 0
Room Approval s = ApprovedWithin 511 s
Room Reversal s = ReversedWithin 511 s
