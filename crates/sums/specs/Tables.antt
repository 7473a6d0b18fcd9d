-- The sums that a table of figures stands for.
use Rattle.std.specs.Prelude.{◌≡◌, ℕ, ◌<◌, List, [], length, slice_index_or}
use Rattle.host.specs.declared.line.Side.{Side}
use Rattle.host.specs.declared.line.Side.TheVariants.{Debit, Credit}
use Rattle.sums.specs.Sums.{Measure, number_of, amount_of, Figure, approvals, reversals, Sums}
use Rattle.sums.specs.declared.figures.Tally.{Tally}
use Rattle.sums.specs.declared.figures.Figures.{Figures}

-- what was approved of a side, and what was reversed
abbrev pub approved : Figures → Side → Tally
approved x Debit = x.debits
approved x Credit = x.credits

abbrev pub reversed : Figures → Side → Tally
reversed x Debit = x.debit_reversals
reversed x Credit = x.credit_reversals

-- number or amount of a side's tally
abbrev pub measure_in : (Side → Tally) → Measure → ℕ
measure_in tally (number_of side) = (tally side).number
measure_in tally (amount_of side) = (tally side).amount

-- which of the eight numbers a figure is
abbrev pub figure_in : Figures → Figure → ℕ
figure_in x (approvals m) = measure_in (approved x) m
figure_in x (reversals m) = measure_in (reversed x) m

abbrev pub no_tally : Tally
no_tally = record { number = 0; amount = 0 }

abbrev pub no_figures : Figures
no_figures = record { credits = no_tally; credit_reversals = no_tally; debits = no_tally; debit_reversals = no_tally }

-- rows by acquirer, and in each row a place for each issuer; outside the table every figure is 0
abbrev pub figures_at : List (List Figures) → ℕ → ℕ → Figures
figures_at t p q = slice_index_or (slice_index_or t p []) q no_figures

abbrev pub table_sums : List (List Figures) → Sums
table_sums t f p q = figure_in (figures_at t p q) f

-- a place for each of sixteen acquirers and issuers
abbrev pub Square : List (List Figures) → Type 0
Square t = (p : ℕ) → p < 16 → length (slice_index_or t p []) ≡ 16
