-- The two halves of a bitmap.
use Rattle.std.proofs.lemmas.Bool.Decides.{nat_tests}
use Rattle.std.proofs.Common.{◌≡◌, ℕ, ◌+◌, ◌-◌, ◌*◌, ◌/◌, ◌%◌, ◌^◌, ◌<◌, ◌≤◌, true, false, eqb, sym, ap, ◌∙◌, ⊎_elim, arith}
use native.Mathlib.Nat.{zero-div}
use lib.Count.{count_leading_zeros}
use Rattle.std.proofs.lemmas.Nat.{field_of, mod_below, pow_pos, mod-pow-add, shr_split, shr_high, mod_low}
use Rattle.std.proofs.lemmas.Bool.{cases_eq, cases_lt, both_ways}
use Rattle.iso8583.specs.Bitmap.{marked, joined}
use Rattle.iso8583.proofs.Bits.{top, vanished}

-- bits 65 to 128 are those of the low half
mod_two : (x m : ℕ) → 1 ≤ m → x % 2 ^ m % 2 ≡ x % 2
mod_two x m h =
    let n = m - 1 in
    let e : n + 1 ≡ m = omega arith in
    let whole : x % 2 ^ (n + 1) ≡ (x / 2 ^ 1 % 2 ^ n) * 2 ^ 1 + x % 2 ^ 1 = mod-pow-add x n 1 in
    ap (λ k. x % 2 ^ k % 2) (sym e) ∙ omega arith

low_bit : (bits k : ℕ) → 65 ≤ k → k ≤ 128 → marked (bits % 2 ^ 64) k ≡ marked bits k
low_bit bits k l h =
    let j = 128 - k in
    let m = 64 - j in
    let e : m + j ≡ 64 = omega arith in
    ap (λ n. eqb (bits % 2 ^ n / 2 ^ j % 2) 1) (sym e) ∙ ap (λ n. eqb (n % 2) 1) (field_of bits m j) ∙ ap (λ n. eqb n 1) (mod_two (bits / 2 ^ j) m (omega arith))

high_bit : (low k : ℕ) → low < 2 ^ 64 → k ≤ 64 → marked low k ≡ false
high_bit low k h l = ap (λ n. eqb (n % 2) 1) (vanished low 64 (128 - k) h (omega arith))

-- a low half that is not 0 has a bit
pub some_low : (bits : ℕ) → (bits % 2 ^ 64 ≡ 0 → ⊥) → (k : ℕ) × (65 ≤ k) × (k ≤ 128) × (marked bits k ≡ true)
some_low bits n =
    let low = bits % 2 ^ 64 in
    let small : low < 2 ^ 64 = mod_below bits (2 ^ 64) (pow_pos 64) in
    let t = top low (⊎_elim (λ e. absurd (n e)) (λ o. omega arith) (cases_eq low 0)) (omega arith) in
    let k = count_leading_zeros 128 low + 1 in
    let above : 65 ≤ k = ⊎_elim (λ l. absurd (both_ways _ (high_bit low k small (omega arith)) t.here)) (λ o. o) (cases_lt k 65) in
    (k, above, t.at_least, sym (low_bit bits k above t.at_least) ∙ t.here)

-- one that is 0 has none
pub none_low : (bits k : ℕ) → bits % 2 ^ 64 ≡ 0 → 65 ≤ k → k ≤ 128 → marked bits k ≡ false
none_low bits k e l h = sym (low_bit bits k l h) ∙ ap (λ b. marked b k) e ∙ ap (λ n. eqb (n % 2) 1) (zero-div (2 ^ (128 - k)))

-- bit 1 is one of the first half
pub first_bit : (bits : ℕ) → marked (joined (bits / 2 ^ 64) 0) 1 ≡ marked bits 1
first_bit bits = grind (arith, nat_tests)

pub halves_joined : (bits : ℕ) → joined (bits / 2 ^ 64) (bits % 2 ^ 64) ≡ bits
halves_joined bits = shr_split bits 64

pub joined_high : (high low : ℕ) → low < 2 ^ 64 → joined high low / 2 ^ 64 ≡ high
joined_high high low h = shr_high high 64 low h

pub joined_low : (high low : ℕ) → low < 2 ^ 64 → joined high low % 2 ^ 64 ≡ low
joined_low high low h = mod_low high 64 low h
