-- What other figures at one place of a table make of its sums.
use Rattle.std.proofs.Common.{◌≡◌, ℕ, ◌+◌, ◌<◌, ◌≤◌, cond, ◌&&◌, eqb, ◌⊎◌, List, [], length, get_or, set, ◌∙◌, arith, length-set}
use Rattle.std.proofs.lemmas.Grind.{common_steps}
use Rattle.sums.specs.Sums.{Figure}
use Rattle.sums.specs.Tables.{figures_at, figure_in, no_figures, table_sums, Square}
use Rattle.sums.specs.declared.figures.Figures.{Figures}

-- a table with other figures at a place
abbrev pub placed : List (List Figures) → ℕ → ℕ → Figures → List (List Figures)
placed t p q x = set t p (set (get_or t p []) q x)

-- a bank has a row, and in each row a place
pub in_rows : (t : List (List Figures)) (p : ℕ) → length t ≡ 16 → p < 16 → p < length t
in_rows t p full h = omega arith

pub in_columns : (t : List (List Figures)) (p q : ℕ) → Square t → p < 16 → q < 16 → q < length (get_or t p [])
in_columns t p q square h l = let e = square p h in omega arith

-- no other has a place
pub outside : (t : List (List Figures)) (p q : ℕ) → length t ≡ 16 → Square t → ((p < 16) × (16 ≤ q)) ⊎ (16 ≤ p) → figures_at t p q ≡ no_figures
outside t p q full square out = let e = square p in grind (arith, common_steps)

pub full_placed : (t : List (List Figures)) (p q : ℕ) (x : Figures) → length t ≡ 16 → length (placed t p q x) ≡ 16
full_placed t p q x full = length-set t p _ ∙ full

pub square_placed : (t : List (List Figures)) (p q : ℕ) (x : Figures) → length t ≡ 16 → Square t → p < 16 → Square (placed t p q x)
square_placed t p q x full square h i l = let e = square i l in grind (arith, common_steps)

-- if the figures at a place have grown, so have the sums of its acquirer and issuer, and no others
pub grows : (t : List (List Figures)) (p q : ℕ) (x : Figures) (grown : Figure → ℕ) → p < length t → q < length (get_or t p []) → ((f : Figure) → figure_in x f ≡ figure_in (figures_at t p q) f + grown f) → (f : Figure) (i j : ℕ) → table_sums (placed t p q x) f i j ≡ table_sums t f i j + cond (eqb i p && eqb j q) (grown f) 0
grows t p q x grown row column more f i j = let same = more f in grind (arith, common_steps)
