-- Which elements a bitmap marks that the table does not have.
use Rattle.std.proofs.Common.{◌≡◌, ℕ, ◌+◌, ◌-◌, ◌%◌, ◌^◌, ◌<◌, ◌≤◌, true, false, cond, not, ◌&&◌, ◌||◌, eqb, Some, None, Ok, Err, Option, Result, sym, refl, ap, ◌∙◌, ⊎_elim, arith}
use native.Mathlib.Nat.{zero-div}
use lib.Bits.{bit_and, and_lt}
use lib.Count.{count_leading_zeros}
use Rattle.elements.specs.declared.fault.MessageFault.{MessageFault}
use Rattle.elements.specs.declared.fault.MessageFault.TheVariants.{Unknown, Empty}
use Rattle.iso8583.specs.Reading.{after, unless, marked_at, second_empty, marks_of}
use Rattle.std.proofs.lemmas.Bool.{ne_eqb, cases_eq, both_ways, and_right, cond-true, cond-false}
use Rattle.iso8583.specs.Bitmap.{marked, first, strange}
use Rattle.elements.specs.Table.{table, known}
use Rattle.iso8583.proofs.Bits.{marked_and, marked_flip, top}
use Rattle.iso8583.proofs.Firsts.{first_finds, first_fails}

abbrev pub Knows : ℕ → Type 0
Knows ks = (k : ℕ) → 1 ≤ k → k ≤ 128 → marked ks k ≡ (eqb 1 k || known table k)

module _ (bits ks : ℕ) (fits : bits < 2 ^ 128) (small : ks < 2 ^ 128) (knows : Knows ks) where
  -- what is marked and not known
  abbrev pub odd_ones : ℕ
  odd_ones = bit_and bits (2 ^ 128 - 1 - ks)

  odd_at : (k : ℕ) → 1 ≤ k → k ≤ 128 → marked odd_ones k ≡ (marked bits k && not (eqb 1 k || known table k))
  odd_at k l h =
      marked_and bits (2 ^ 128 - 1 - ks) k
      ∙ ap (λ b. marked bits k && b) (marked_flip ks k l h small ∙ ap not (knows k l h))

  odd_strange : (k : ℕ) → 2 ≤ k → k ≤ 128 → marked odd_ones k ≡ strange bits k
  odd_strange k l h =
      odd_at k (omega arith) h
      ∙ ap (λ b. marked bits k && not (b || known table k)) (ne_eqb 1 k (λ e. omega arith))

  odd_small : odd_ones < 2 ^ 128
  odd_small = and_lt 128 bits (2 ^ 128 - 1 - ks) fits (omega arith)

  pub none_strange : odd_ones ≡ 0 → first (strange bits) 2 127 ≡ None
  none_strange e =
      first_fails (strange bits) 2 127 (λ j l h. sym (odd_strange j l (omega arith)) ∙ ap (λ b. marked b j) e ∙ ap (λ n. eqb (n % 2) 1) (zero-div (2 ^ (128 - j))))

  pub lowest_strange : 0 < odd_ones → first (strange bits) 2 127 ≡ Some (count_leading_zeros 128 odd_ones + 1)
  lowest_strange some =
      let t = top odd_ones some odd_small in
      let k = count_leading_zeros 128 odd_ones + 1 in
      let second : 2 ≤ k = ⊎_elim (λ e. absurd (both_ways _ (odd_at 1 (omega arith) (omega arith) ∙ and_right (marked bits 1) false refl) (ap (marked odd_ones) (sym e) ∙ t.here))) (λ n. omega arith) (cases_eq k 1) in
      first_finds (strange bits) 2 127 k second (omega (arith, t.at_least))
      (λ j l h. sym (odd_strange j l (omega (arith, t.at_least))) ∙ t.none_before j h)
      (sym (odd_strange k second t.at_least) ∙ t.here)

  told : Option ℕ → Result ℕ MessageFault
  told o = after (unless o (λ k. Unknown k (marked_at k)) bits) (λ _. cond (marked bits 1 && eqb (bits % 2 ^ 64) 0) (Err Empty) (Ok bits))

  pub strange_refused : (odd_ones ≡ 0 → ⊥) → Err (Unknown (count_leading_zeros 128 odd_ones + 1) (marked_at (count_leading_zeros 128 odd_ones + 1))) ≡ marks_of bits
  unfolding told
  strange_refused some = sym (ap told (lowest_strange (⊎_elim (λ e. absurd (some e)) (λ n. omega arith) (cases_eq odd_ones 0))))

  pub empty_refused : odd_ones ≡ 0 → second_empty bits ≡ true → Err Empty ≡ marks_of bits
  unfolding told
  empty_refused none empty = sym (cond-true _ (Err Empty) (Ok bits) empty) ∙ sym (ap told (none_strange none))

  pub all_known : odd_ones ≡ 0 → second_empty bits ≡ false → Ok bits ≡ marks_of bits
  unfolding told
  all_known none fine = sym (cond-false _ (Err Empty) (Ok bits) fine) ∙ sym (ap told (none_strange none))
