-- Elements that the table has made of digits.
use Rattle.std.proofs.Common.{◌≡◌, ℕ, ◌^◌, ◌<◌, ◌≤◌, true, false, eqb, leb, List, [], ◌∷◌, length, Some, sym, refl, ◌∙◌, subst, ⊎_elim, arith, lit<}
use native.Mathlib.Nat.{pow-le-pow_right}
use Rattle.std.specs.Str.Parse.{digits_value}
use Rattle.std.proofs.lemmas.Bool.{and_parts, and_from, le-leb, leb-true, eqb-true, eq-eqb, cond-true, cond-false, cases_Bool, both_ways}
use Rattle.elements.specs.Numbers.{all_decimal, number_of}
use Rattle.elements.specs.Originals.{parts, original_of}
use Rattle.elements.specs.declared.table.Format.{Format}
use Rattle.elements.specs.declared.table.Format.TheVariants.{Numeric, Alphanumeric, Printable}
use Rattle.elements.specs.declared.table.Length.{Length}
use Rattle.elements.specs.declared.table.Length.TheVariants.{Fixed, UpTo}
use Rattle.elements.specs.declared.table.Row.{Row}
use Rattle.elements.specs.Table.{table, within, decimal, fits, admits}
use Rattle.intake.specs.Conforms.{every, conforms, most, numeric, is_figure, figures, row_of}

-- 1 to 19 digits are a number
pub digits_number : (ds : List ℕ) → 1 ≤ length ds → length ds ≤ 19 → all_decimal ds ≡ true → number_of ds ≡ Some (digits_value 10 ds)
digits_number ds low high d =
    cond-true _ _ _ (and_from (within 1 19 (length ds)) (all_decimal ds) (and_from _ _ (le-leb 1 (length ds) low) (le-leb (length ds) 19 high)) d)

-- what the table says of an element of digits
pub record Figured (n : ℕ) (cs : List ℕ) : Type 0 where
  pub some : 1 ≤ length cs
  pub most : length cs ≤ n
  pub near : n ≤ 19
  pub decimals : all_decimal cs ≡ true

every_decimal : (cs : List ℕ) → every (fits Numeric) cs ≡ true → all_decimal cs ≡ true
every_decimal [] h = refl
every_decimal (c ∷ cs) h = let p = and_parts (decimal c) (every (fits Numeric) cs) h in and_from _ _ p.0 (every_decimal cs p.1)

numeric_decimal : (f : Format) (cs : List ℕ) → numeric f ≡ true → every (fits f) cs ≡ true → all_decimal cs ≡ true
numeric_decimal Numeric cs t h = every_decimal cs h
numeric_decimal Alphanumeric cs t h = absurd (both_ways false refl t)
numeric_decimal Printable cs t h = absurd (both_ways false refl t)

admitted_size : (l : Length) (n : ℕ) → within 1 19 (most l) ≡ true → admits l n ≡ true → (1 ≤ n) × (n ≤ most l)
admitted_size (Fixed m) n t a =
    let p = and_parts (leb 1 m) (leb m 19) t in (omega (arith, leb-true 1 m p.0, eqb-true n m a), omega (arith, eqb-true n m a))
admitted_size (UpTo m) n t a = let p = and_parts (leb 1 n) (leb n m) a in (leb-true 1 n p.0, leb-true n m p.1)

figured : (r : Row) (cs : List ℕ) → is_figure r ≡ true → conforms r cs ≡ true → Figured (most r.length) cs
figured r cs t h =
    let p = and_parts (numeric r.format) (within 1 19 (most r.length)) t in
    let q = and_parts (admits r.length (length cs)) (every (fits r.format) cs) h in
    let s = admitted_size r.length (length cs) p.1 q.0 in
    record { some = s.0; most = s.1; near = leb-true (most r.length) 19 (and_parts _ _ p.1).1; decimals = numeric_decimal r.format cs p.0 q.1 }

pub figured_small : (n : ℕ) (cs : List ℕ) (v : ℕ) → Figured n cs → v < 10 ^ length cs → v < 10 ^ n
figured_small n cs v f h = let m = f.most in let p : 10 ^ length cs ≤ 10 ^ n = pow-le-pow_right (lit< tt) m in omega arith

-- the table has so many digits for these elements
as_in_table : (k : ℕ) → 1 ≤ figures k → (is_figure (row_of table k) ≡ true) × (most (row_of table k).length ≡ figures k)
unfolding table
as_in_table k h =
    let P : ℕ → Type 0 = λ n. (is_figure (row_of table n) ≡ true) × (most (row_of table n).length ≡ figures n) in
    ⊎_elim (λ t. subst P (sym (eqb-true k 2 t)) (refl, refl)) (λ f2.
    ⊎_elim (λ t. subst P (sym (eqb-true k 3 t)) (refl, refl)) (λ f3.
    ⊎_elim (λ t. subst P (sym (eqb-true k 4 t)) (refl, refl)) (λ f4.
    ⊎_elim (λ t. subst P (sym (eqb-true k 11 t)) (refl, refl)) (λ f11.
    ⊎_elim (λ t. subst P (sym (eqb-true k 32 t)) (refl, refl)) (λ f32.
    absurd (let z : figures k ≡ 0 = cond-false _ _ _ f2 ∙ cond-false _ _ _ f3 ∙ cond-false _ _ _ f4 ∙ cond-false _ _ _ f11 ∙ cond-false _ _ _ f32 in omega arith))
    (cases_Bool (eqb k 32))) (cases_Bool (eqb k 11))) (cases_Bool (eqb k 4))) (cases_Bool (eqb k 3))) (cases_Bool (eqb k 2))

pub figured_at : (k : ℕ) (cs : List ℕ) → 1 ≤ figures k → conforms (row_of table k) cs ≡ true → Figured (figures k) cs
figured_at k cs h t = let e = as_in_table k h in subst (λ n. Figured n cs) e.1 (figured (row_of table k) cs e.0 t)

-- element 90
pub original_digits : (cs : List ℕ) → conforms (row_of table 90) cs ≡ true → (length cs ≡ 42) × (all_decimal cs ≡ true)
unfolding table
original_digits cs h = let p = and_parts (eqb (length cs) 42) (every (fits Numeric) cs) h in (eqb-true (length cs) 42 p.0, every_decimal cs p.1)

pub original_there : (cs : List ℕ) → length cs ≡ 42 → all_decimal cs ≡ true → original_of cs ≡ Some (parts cs)
original_there cs l d = cond-true _ _ _ (and_from _ _ (eq-eqb (length cs) 42 l) d)
