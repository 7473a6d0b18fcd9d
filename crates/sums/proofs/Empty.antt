-- A table without transactions.
use Rattle.std.proofs.Common.{◌≡◌, ℕ, zero, suc, arith, List, [], length, get_or, replicate, refl, ap, ◌∙◌}
use mathlib.Core.Path.{fun_ext}
use lib.ListN.{length-replicate, get_or-replicate}
use Rattle.sums.specs.Sums.{Figure, no_sums}
use Rattle.sums.specs.Tables.{figures_at, figure_in, no_tally, no_figures, table_sums, Square}
use Rattle.sums.specs.declared.figures.Figures.{Figures}
use Rattle.sums.specs.declared.figures.Tally.{Tally}

-- tallies that are zero are no figures
abbrev Zero : Tally → Type 0
Zero t = (t.number ≡ 0) × (t.amount ≡ 0)

zero_tally : (t : Tally) → Zero t → t ≡ no_tally
zero_tally t h = λ i. record { number = h.0 i; amount = h.1 i }

pub zero_figures : (x : Figures) → Zero x.credits × (Zero x.credit_reversals × (Zero x.debits × Zero x.debit_reversals)) → x ≡ no_figures
zero_figures x h =
    λ i. record { credits = zero_tally x.credits h.0 i; credit_reversals = zero_tally x.credit_reversals h.1.0 i; debits = zero_tally x.debits h.1.1.0 i; debit_reversals = zero_tally x.debit_reversals h.1.1.1 i }

-- everywhere the same figures
abbrev pub even : Figures → List (List Figures)
even x = replicate 16 (replicate 16 x)

pub even_square : (x : Figures) → Square (even x)
even_square x p h = ap length (get_or-replicate 16 p (replicate 16 x) [] h) ∙ length-replicate 16 x

in_row : (k j : ℕ) → get_or (replicate k no_figures) j no_figures ≡ no_figures
in_row zero j = refl
in_row (suc k) zero = refl
in_row (suc k) (suc j) = in_row k j

in_table : (n k i j : ℕ) → figures_at (replicate n (replicate k no_figures)) i j ≡ no_figures
in_table zero k i j = refl
in_table (suc n) k zero j = in_row k j
in_table (suc n) k (suc i) j = in_table n k i j

no_measure : (f : Figure) → figure_in no_figures f ≡ 0
no_measure f = grind arith

pub even_sums : (x : Figures) → x ≡ no_figures → table_sums (even x) ≡ no_sums
even_sums x e = ap (λ (y : Figures). table_sums (even y)) e ∙ fun_ext (λ f. fun_ext (λ i. fun_ext (λ j. ap (λ (y : Figures). figure_in y f) (in_table 16 16 i j) ∙ no_measure f)))
