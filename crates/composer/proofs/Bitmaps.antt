-- The bitmap of a set of elements.
use Rattle.std.proofs.Common.{◌≡◌, ℕ, zero, suc, ◌+◌, ◌-◌, ◌*◌, ◌/◌, ◌%◌, ◌^◌, ◌<◌, ◌≤◌, Bool, true, false, cond, not, ◌&&◌, ◌||◌, eqb, ltb, List, [], ◌∷◌, None, Ok, Err, sym, refl, ap, ◌∙◌, ⊎_elim, pow-suc, div-one, arith}
use Rattle.std.proofs.lemmas.Bool.{cases_Bool, cases_eq, cond-false, eq-eqb, ne_eqb, eqb-true, lt-ltb, ltb-true, both_ways, or_left, or_right, or_cases, and_from, and_left, and_right}
use Rattle.elements.specs.declared.fault.MessageFault.TheVariants.{Unknown, Empty}
use Rattle.iso8583.specs.Bitmap.{marked, first, strange}
use Rattle.iso8583.specs.Reading.{unless, marks_of, marked_at, after}
use Rattle.elements.specs.Table.{table, known}
use Rattle.composer.specs.Writing.{marks, bit, bits_from, listed, outside}
use Rattle.iso8583.proofs.Firsts.{first_none, first_fails}
use Rattle.composer.proofs.Sets.{at_bit, half_bit}

-- bits as a number, and each of them again
pub bits_below : (p : ℕ → Bool) (n : ℕ) → bits_from p n < 2 ^ n
bits_below p zero = omega arith
bits_below p (suc n) = ⊎_elim (λ e. omega (arith, bits_below p n, pow-suc 2 n, ap bit e)) (λ e. omega (arith, bits_below p n, pow-suc 2 n, ap bit e)) (cases_Bool (p (suc n)))

last_bit : (v : ℕ) (b : Bool) → eqb ((v * 2 + bit b) % 2) 1 ≡ b
last_bit v true = let e : (v * 2 + 1) % 2 ≡ 1 = omega arith in ap (λ n. eqb n 1) e
last_bit v false = let e : (v * 2 + 0) % 2 ≡ 0 = omega arith in ap (λ n. eqb n 1) e

other_bits : (v : ℕ) (b : Bool) → (v * 2 + bit b) / 2 ≡ v
other_bits v true = omega arith
other_bits v false = omega arith

pub bits_at : (p : ℕ → Bool) (n k : ℕ) → 1 ≤ k → k ≤ n → at_bit n (bits_from p n) k ≡ p k
bits_at p zero k l h = absurd (omega arith)
bits_at p (suc n) k l h =
    ⊎_elim
    (λ e. let z : suc n - k ≡ 0 = omega arith in
    ap (λ m. eqb (bits_from p (suc n) / 2 ^ m % 2) 1) z ∙ ap (λ m. eqb (m % 2) 1) (div-one (bits_from p (suc n))) ∙ last_bit (bits_from p n) (p (suc n)) ∙ ap p (sym e))
    (λ e. half_bit n (bits_from p (suc n)) k (omega arith) ∙ ap (λ v. at_bit n v k) (other_bits (bits_from p n) (p (suc n))) ∙ bits_at p n k l (omega arith))
    (cases_eq k (suc n))

-- bit 1 is set by the elements above 64, and every other by its own
pub marks_else : (ns : List ℕ) (k : ℕ) → (k ≡ 1 → ⊥) → marks ns k ≡ listed ns k
marks_else [] k h = refl
marks_else (n ∷ ns) k h = λ i. cond-false (eqb k 1) (ltb 64 n) (eqb n k) (ne_eqb k 1 h) i || marks_else ns k h i

pub marks_one : (ns : List ℕ) → marks ns 1 ≡ true → (e : ℕ) × (64 < e) × (listed ns e ≡ true)
marks_one [] h = absurd (both_ways false refl h)
marks_one (n ∷ ns) h =
    ⊎_elim
    (λ t. (n, ltb-true 64 n t, or_left _ _ (eq-eqb n n refl)))
    (λ t. let r = marks_one ns t in (r.0, r.1, or_right (eqb n r.0) _ r.2))
    (or_cases (ltb 64 n) (marks ns 1) h)

pub one_marked : (ns : List ℕ) (e : ℕ) → 64 < e → listed ns e ≡ true → marks ns 1 ≡ true
one_marked [] e l h = absurd (both_ways false refl h)
one_marked (n ∷ ns) e l h =
    ⊎_elim
    (λ t. or_left _ _ (lt-ltb 64 n (omega (arith, eqb-true n e t))))
    (λ t. or_right (ltb 64 n) _ (one_marked ns e l t))
    (or_cases (eqb n e) (listed ns e) h)

pub listed_small : (ns : List ℕ) (k : ℕ) → first (outside ns) 0 256 ≡ None → listed ns k ≡ true → k < 256 → known table k ≡ true
listed_small ns k h l s =
    ⊎_elim (λ t. t) (λ f. absurd (both_ways (outside ns k) (first_none (outside ns) 0 256 h k (omega arith) (omega arith)) (and_from (listed ns k) (not (known table k)) l (ap not f)))) (cases_Bool (known table k))

-- a bitmap that a message can have: every mark is known, and bit 1 tells whether the second half has any
pub record Sound (bits : ℕ) : Type 0 where
  pub small : bits < 2 ^ 128
  pub all_known : (k : ℕ) → 2 ≤ k → k ≤ 128 → marked bits k ≡ true → known table k ≡ true
  pub second : marked bits 1 ≡ true → bits % 2 ^ 64 ≡ 0 → ⊥
  pub single : marked bits 1 ≡ false → bits % 2 ^ 64 ≡ 0

-- the marks of a sound bitmap are taken
pub sound_marks : (bits : ℕ) → Sound bits → marks_of bits ≡ Ok bits
sound_marks bits s =
    let none : first (strange bits) 2 127 ≡ None = first_fails (strange bits) 2 127 (λ j l h. ⊎_elim (λ m. and_right _ _ (ap not (s.all_known j l (omega arith) m))) (λ m. and_left _ _ m) (cases_Bool (marked bits j))) in
    let fine : (marked bits 1 && eqb (bits % 2 ^ 64) 0) ≡ false = ⊎_elim (λ m. and_right _ _ (ne_eqb _ 0 (s.second m))) (λ m. and_left _ _ m) (cases_Bool (marked bits 1)) in
    ap (λ o. after (unless o (λ k. Unknown k (marked_at k)) bits) (λ _. cond (marked bits 1 && eqb (bits % 2 ^ 64) 0) (Err Empty) (Ok bits))) none
    ∙ cond-false _ _ _ fine
