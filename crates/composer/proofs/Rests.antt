-- The elements that are still to come: the first of them, and the others.
use Rattle.std.proofs.lemmas.Bool.Decides.{nat_tests}
use Rattle.std.proofs.Common.{◌≡◌, ℕ, ◌-◌, ◌^◌, ◌<◌, ◌≤◌, true, false, cond, not, ◌&&◌, eqb, List, [], ◌∷◌, Some, None, Option, Bor, find, option_copied, drop, MatchOption, sym, refl, ap, ◌∙◌, subst, ⊎_elim, arith}
use lib.Bits.{bit_and}
use Rattle.std.proofs.lemmas.Bool.{cases_Bool, cond-true, cond-false, eq-eqb, and_left, and_right}
use Rattle.elements.specs.declared.table.Row.{Row}
use Rattle.elements.specs.Table.{table}
use Rattle.elements.proofs.Rows.{proper, proper_first}
use Rattle.iso8583.specs.Bitmap.{marked}
use Rattle.iso8583.proofs.Bits.{marked_and, marked_flip, marked_bit}
use Rattle.composer.specs.Writing.{chosen}

-- the first row that is marked
first_chosen : (bits : ℕ) (rows : List Row) → MatchOption (find (λ row. marked bits row.element) rows) (chosen rows bits ≡ []) (λ row. chosen rows bits ≡ row ∷ drop 1 (chosen rows bits))
first_chosen bits [] = refl
first_chosen bits (row ∷ rows) =
    elim (marked bits row.element) as (λ b. MatchOption (cond b (Some row) (find (λ r. marked bits r.element) rows)) (cond b (row ∷ chosen rows bits) (chosen rows bits) ≡ []) (λ r. cond b (row ∷ chosen rows bits) (chosen rows bits) ≡ r ∷ drop 1 (cond b (row ∷ chosen rows bits) (chosen rows bits)))) [
      | true ↦ refl
      | false ↦ first_chosen bits rows
    ]

pub none_left : (bits : ℕ) (rows : List Row) → None ≡ find (λ row. marked bits row.element) rows → chosen rows bits ≡ []
none_left bits rows h = subst (λ o. MatchOption o (chosen rows bits ≡ []) (λ row. chosen rows bits ≡ row ∷ drop 1 (chosen rows bits))) (sym h) (first_chosen bits rows)

pub next_left : (bits : ℕ) (rows : List Row) (row : Row) → Some row ≡ find (λ r. marked bits r.element) rows → chosen rows bits ≡ row ∷ drop 1 (chosen rows bits)
next_left bits rows row h = subst (λ o. MatchOption o (chosen rows bits ≡ []) (λ r. chosen rows bits ≡ r ∷ drop 1 (chosen rows bits))) (sym h) (first_chosen bits rows)

pub row_left : (bits : ℕ) {o : Option (Bor Row)} {row : Bor Row} → option_copied o ≡ find (λ r. marked bits r.element) table → o ≡ Some row → chosen table bits ≡ row.now ∷ drop 1 (chosen table bits)
row_left bits {row = row} h e = next_left bits table row.now (sym (ap option_copied e) ∙ h)

-- marks of which one is taken away
pub record Without (e bits less : ℕ) : Type 0 where
  pub marks : (k : ℕ) → 1 < k → k ≤ 128 → marked less k ≡ (marked bits k && not (eqb e k))

module _ (e bits less : ℕ) (w : Without e bits less) where
  gone : (k : ℕ) → 1 < k → k ≤ 128 → e ≡ k → marked less k ≡ false
  gone k l h s = w.marks k l h ∙ and_right _ _ (ap not (eq-eqb e k s))

  stays : (k : ℕ) → 1 < k → k ≤ 128 → e < k → marked less k ≡ marked bits k
  stays k l h s = grind (arith, nat_tests)

  -- in the rows after it nothing changes
  same_after : (rows : List Row) (low : ℕ) → proper low rows ≡ true → 1 ≤ low → e ≤ low → chosen rows less ≡ chosen rows bits
  same_after [] low p o l = refl
  same_after (row ∷ rows) low p o l =
      let q = proper_first low row rows p in
      let here = stays row.element (omega (arith, q.above)) q.inside (omega (arith, q.above)) in
      let on = same_after rows row.element q.others (omega (arith, q.above)) (omega (arith, q.above)) in
      λ i. cond (here i) (row ∷ on i) (on i)

pub cleared : (e bits b : ℕ) → 1 ≤ e → e ≤ 128 → b ≡ 2 ^ (128 - e) → b < 2 ^ 128 → Without e bits (bit_and bits (2 ^ 128 - 1 - b))
cleared e bits b l h s small = record {
  marks = λ k low high.
      marked_and bits (2 ^ 128 - 1 - b) k
      ∙ ap (λ m. marked bits k && m) (marked_flip b k (omega arith) high small ∙ ap (λ n. not (marked n k)) s ∙ ap not (marked_bit e k l h (omega arith) high));
}

-- the first row is taken away
pub record Taken (low bits : ℕ) (rows : List Row) (row : Row) (rest : List Row) : Type 0 where
  pub above : low < row.element
  pub inside : row.element ≤ 128
  pub others : (less : ℕ) → Without row.element bits less → chosen rows less ≡ rest

pub taken : (rows : List Row) (low bits : ℕ) (row : Row) (rest : List Row) → proper low rows ≡ true → 1 ≤ low → chosen rows bits ≡ row ∷ rest → Taken low bits rows row rest
taken [] low bits row rest p o h = absurd (let z : ◌≡◌ {A = ℕ} 0 1 = cc in omega arith)
taken (r ∷ rs) low bits row rest p o h =
    let q = proper_first low r rs p in
    let k : 1 < r.element = omega (arith, q.above) in
    ⊎_elim
    (λ m.
    let all : r ∷ chosen rs bits ≡ row ∷ rest = sym (cond-true _ _ _ m) ∙ h in
    let same : r ≡ row = cc in
    let left : chosen rs bits ≡ rest = cc in
    record {
      above = subst (λ x. low < x.element) same q.above;
      inside = subst (λ x. x.element ≤ 128) same q.inside;
      others = λ less w.
          cond-false _ _ _ (gone row.element bits less w r.element k q.inside (ap (λ x. x.element) (sym same)))
          ∙ same_after row.element bits less w rs r.element q.others (omega arith) (omega (arith, ap (λ x. x.element) same)) ∙ left;
    })
    (λ m.
    let t = taken rs r.element bits row rest q.others (omega arith) (sym (cond-false _ _ _ m) ∙ h) in
    record {
      above = omega (arith, q.above, t.above);
      inside = t.inside;
      others = λ less w. cond-false _ _ _ (w.marks r.element k q.inside ∙ and_left _ _ m) ∙ t.others less w;
    })
    (cases_Bool (marked bits r.element))
