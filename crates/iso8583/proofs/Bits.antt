-- Single bits of a bitmap.
use Rattle.std.proofs.Common.{◌≡◌, ℕ, suc, ◌+◌, ◌-◌, ◌*◌, ◌/◌, ◌%◌, ◌^◌, ◌<◌, ◌≤◌, true, false, not, ◌&&◌, ◌||◌, eqb, ◌⊎◌, sym, refl, ap, ◌∙◌, subst, inl, inr, ⊎_elim, add-mul, one-mul, pow-suc, arith}
use native.Mathlib.Nat.{pow-le-pow_right, div-eq_of_lt}
use lib.Bits.{bit_and, bit_or, and_shr, or_shr, and_mod, or_mod}
use lib.Count.{count_leading_zeros}
use Rattle.std.proofs.lemmas.Nat.{pow_pos, pow-add, pow_below, shl-shr, shr_split, shr_below, div-mul-add, mod_below, leading_top}
use Rattle.std.proofs.lemmas.Bool.{cases_order, eq-eqb, ne_eqb}
use Rattle.iso8583.specs.Bitmap.{marked}

pub bit_cases : (n : ℕ) → (n % 2 ≡ 0) ⊎ (n % 2 ≡ 1)
bit_cases n = ⊎_elim inl (⊎_elim (λ h. absurd (omega arith)) (λ h. inr (omega arith))) (cases_order (n % 2) 0)

-- two bits, by cases
by_bits : (P : ℕ → ℕ → Type 0) → P 0 0 → P 0 1 → P 1 0 → P 1 1 → (x y : ℕ) → P (x % 2) (y % 2)
by_bits P oo oi io ii x y =
    ⊎_elim
    (λ a. ⊎_elim (λ b. subst (λ m. P m (y % 2)) (sym a) (subst (P 0) (sym b) oo)) (λ b. subst (λ m. P m (y % 2)) (sym a) (subst (P 0) (sym b) oi)) (bit_cases y))
    (λ a. ⊎_elim (λ b. subst (λ m. P m (y % 2)) (sym a) (subst (P 1) (sym b) io)) (λ b. subst (λ m. P m (y % 2)) (sym a) (subst (P 1) (sym b) ii)) (bit_cases y))
    (bit_cases x)

one_and : (x y : ℕ) → eqb (bit_and x y % 2) 1 ≡ (eqb (x % 2) 1 && eqb (y % 2) 1)
one_and x y = ap (λ n. eqb n 1) (and_mod x y 1) ∙ by_bits (λ a b. eqb (bit_and a b) 1 ≡ (eqb a 1 && eqb b 1)) refl refl refl refl x y

one_or : (x y : ℕ) → eqb (bit_or x y % 2) 1 ≡ (eqb (x % 2) 1 || eqb (y % 2) 1)
one_or x y = ap (λ n. eqb n 1) (or_mod x y 1) ∙ by_bits (λ a b. eqb (bit_or a b) 1 ≡ (eqb a 1 || eqb b 1)) refl refl refl refl x y

pub marked_and : (a b k : ℕ) → marked (bit_and a b) k ≡ (marked a k && marked b k)
marked_and a b k = ap (λ n. eqb (n % 2) 1) (and_shr a b (128 - k)) ∙ one_and (a / 2 ^ (128 - k)) (b / 2 ^ (128 - k))

pub marked_or : (a b k : ℕ) → marked (bit_or a b) k ≡ (marked a k || marked b k)
marked_or a b k = ap (λ n. eqb (n % 2) 1) (or_shr a b (128 - k)) ∙ one_or (a / 2 ^ (128 - k)) (b / 2 ^ (128 - k))

-- what `!b` has at a bit
flipped : (b j m : ℕ) → b < 2 ^ (suc m + j) → (2 ^ (suc m + j) - 1 - b) / 2 ^ j ≡ 2 ^ suc m - 1 - b / 2 ^ j
flipped b j m h =
    let w = 2 ^ j in
    let q = b / w in
    let r = b % w in
    let whole : q * w + r ≡ b = shr_split b j in
    let small : q < 2 ^ suc m = shr_below b (suc m) j h in
    let low : r < w = mod_below b w (pow_pos j) in
    let all : 2 ^ (suc m + j) ≡ 2 ^ suc m * w = pow-add 2 (suc m) j in
    let rest = 2 ^ suc m - 1 - q in
    let parts : rest + (q + 1) ≡ 2 ^ suc m = omega arith in
    let spread : rest * w + (q * w + w) ≡ 2 ^ suc m * w = omega (arith, add-mul rest (q + 1) w, add-mul q 1 w, one-mul w, ap (λ n. n * w) parts) in
    let e : 2 ^ (suc m + j) - 1 - b ≡ rest * w + (w - 1 - r) = omega arith in
    ap (λ n. n / w) e ∙ div-mul-add rest w (w - 1 - r) (omega arith)

turned : (half whole q : ℕ) → whole ≡ half * 2 → q < whole → eqb ((whole - 1 - q) % 2) 1 ≡ not (eqb (q % 2) 1)
turned half whole q e h =
    ⊎_elim
    (λ even. let odd : (whole - 1 - q) % 2 ≡ 1 = omega arith in (λ i. eqb (odd i) 1) ∙ sym (λ i. not (eqb (even i) 1)))
    (λ odd. let even : (whole - 1 - q) % 2 ≡ 0 = omega arith in (λ i. eqb (even i) 1) ∙ sym (λ i. not (eqb (odd i) 1)))
    (bit_cases q)

-- powers of two, divided by one another
own : (j : ℕ) → 2 ^ j / 2 ^ j ≡ 1
own j = ap (λ n. n / 2 ^ j) (sym (one-mul (2 ^ j))) ∙ shl-shr 1 j

pub vanished : (a i j : ℕ) → a < 2 ^ i → i ≤ j → a / 2 ^ j ≡ 0
vanished a i j h l =
    let p : 2 ^ i ≤ 2 ^ j = pow-le-pow_right {n = 2} (omega arith) {i = i} {j = j} l in
    div-eq_of_lt (omega arith)

below_all : (i j : ℕ) → i < j → 2 ^ i / 2 ^ j ≡ 0
below_all i j h = div-eq_of_lt (pow_below i j h)

above : (i j : ℕ) → j < i → eqb (2 ^ i / 2 ^ j % 2) 1 ≡ false
above i j h =
    let m = i - j - 1 in
    let e : i ≡ suc m + j = omega arith in
    let q : 2 ^ i / 2 ^ j ≡ 2 ^ suc m = ap (λ n. n / 2 ^ j) (ap (λ n. 2 ^ n) e ∙ pow-add 2 (suc m) j) ∙ shl-shr (2 ^ suc m) j in
    let even : 2 ^ i / 2 ^ j % 2 ≡ 0 = omega (arith, q, pow-suc 2 m) in
    ap (λ n. eqb n 1) even

quotient : (a j : ℕ) → 2 ^ j ≤ a → a < 2 ^ suc j → a / 2 ^ j ≡ 1
quotient a j l h =
    let p = pow-suc 2 j in
    let e : a ≡ 1 * 2 ^ j + (a - 2 ^ j) = omega arith in
    ap (λ n. n / 2 ^ j) e ∙ div-mul-add 1 (2 ^ j) (a - 2 ^ j) (omega arith)

pub marked_flip : (b k : ℕ) → 1 ≤ k → k ≤ 128 → b < 2 ^ 128 → marked (2 ^ 128 - 1 - b) k ≡ not (marked b k)
marked_flip b k low high h =
    let j = 128 - k in
    let m = k - 1 in
    let e : suc m + j ≡ 128 = omega arith in
    let is = flipped b j m (subst (λ n. b < 2 ^ n) (sym e) h) in
    let here : (2 ^ 128 - 1 - b) / 2 ^ j ≡ 2 ^ suc m - 1 - b / 2 ^ j = ap (λ n. (2 ^ n - 1 - b) / 2 ^ j) (sym e) ∙ is in
    let small : b / 2 ^ j < 2 ^ suc m = shr_below b (suc m) j (subst (λ n. b < 2 ^ n) (sym e) h) in
    let even : 2 ^ suc m ≡ 2 ^ m * 2 = pow-suc 2 m in
    ap (λ n. eqb (n % 2) 1) here ∙ turned (2 ^ m) (2 ^ suc m) (b / 2 ^ j) even small

-- the bit of one element
pub marked_bit : (e k : ℕ) → 1 ≤ e → e ≤ 128 → 1 ≤ k → k ≤ 128 → marked (2 ^ (128 - e)) k ≡ eqb e k
marked_bit e k el eh kl kh =
    ⊎_elim
    (λ same. ap (λ n. eqb (n % 2) 1) (ap (λ n. 2 ^ (128 - n) / 2 ^ (128 - k)) (sym same) ∙ own (128 - k)) ∙ sym (eq-eqb e k (sym same)))
    (⊎_elim
    (λ less. ap (λ n. eqb (n % 2) 1) (below_all (128 - e) (128 - k) (omega arith)) ∙ sym (ne_eqb e k (λ s. omega arith)))
    (λ more. above (128 - e) (128 - k) (omega arith) ∙ sym (ne_eqb e k (λ s. omega arith))))
    (cases_order k e)

-- the highest bit of a number is its lowest element
pub record Top (a : ℕ) : Type 0 where
  pub at_least : count_leading_zeros 128 a + 1 ≤ 128
  pub here : marked a (count_leading_zeros 128 a + 1) ≡ true
  pub none_before : (k : ℕ) → k < count_leading_zeros 128 a + 1 → marked a k ≡ false

pub top : (a : ℕ) → 0 < a → a < 2 ^ 128 → Top a
top a some small =
    let t = leading_top 128 a some small in
    let j = t.0 in
    let z = count_leading_zeros 128 a in
    let sum : z + suc j ≡ 128 = t.1 in
    let at : 128 - (z + 1) ≡ j = omega arith in
    let one : a / 2 ^ j ≡ 1 = quotient a j t.2 t.3 in
    record {
      at_least = omega arith;
      here = ap (λ n. eqb (a / 2 ^ n % 2) 1) at ∙ ap (λ n. eqb (n % 2) 1) one;
      none_before = λ k h. ap (λ n. eqb (n % 2) 1) (vanished a (suc j) (128 - k) t.3 (omega arith));
    }
