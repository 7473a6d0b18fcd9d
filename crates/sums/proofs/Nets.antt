-- Sums of nets, and why the positions of all banks come to zero.
use Rattle.std.proofs.Common.{◌≡◌, ℕ, zero, suc, ◌+◌, ◌*◌, ◌<◌, ◌≤◌, List, length, get_or, take, ℤ, pos, ◌+ℤ◌, ◌-ℤ◌, neg_ℤ, ◌≤ℤ◌, fold, sym, refl, ap, ◌∙◌, add-one, arith}
use Rattle.std.proofs.lemmas.List.{take_all}
use Rattle.std.proofs.lemmas.Int.{ints}
use Rattle.std.proofs.lemmas.List.Sums.{fold_more}
use Rattle.sums.specs.Nets.{net, summed, balance, position}
use Rattle.sums.specs.Sums.{Sums}

summed_none : (n : ℕ) → summed (λ _. pos 0) n ≡ pos 0
unfolding summed
summed_none zero = refl
summed_none (suc n) = let h = summed_none n in omega (arith, ints)

summed_plus : (f g : ℕ → ℤ) (n : ℕ) → summed (λ k. f k +ℤ g k) n ≡ summed f n +ℤ summed g n
unfolding summed
summed_plus f g zero = refl
summed_plus f g (suc n) = let h = summed_plus f g n in omega (arith, ints)

summed_minus : (f g : ℕ → ℤ) (n : ℕ) → summed (λ k. f k -ℤ g k) n ≡ summed f n -ℤ summed g n
unfolding summed
summed_minus f g zero = refl
summed_minus f g (suc n) = let h = summed_minus f g n in omega (arith, ints)

summed_same : (f g : ℕ → ℤ) (n : ℕ) → ((k : ℕ) → k < n → f k ≡ g k) → summed f n ≡ summed g n
unfolding summed
summed_same f g zero h = refl
summed_same f g (suc n) h = let e = h n (omega arith) in let r = summed_same f g n (λ k l. h k (omega arith)) in omega (arith, ints)

-- a table added up by rows, or by columns
summed_turned : (f : ℕ → ℕ → ℤ) (n m : ℕ) → summed (λ i. summed (λ j. f i j) m) n ≡ summed (λ j. summed (λ i. f i j) n) m
unfolding summed
summed_turned f zero m = sym (summed_none m)
summed_turned f (suc n) m =
    let h = summed_turned f n m in
    let p = summed_plus (λ j. summed (λ i. f i j) n) (λ j. f n j) m in
    omega (arith, ints)

-- each net is owed by one and to another, so that all balances cancel out
pub balanced : (s : Sums) (n : ℕ) → summed (λ i. balance s n i) n ≡ pos 0
unfolding balance
balanced s n =
    let m = summed_minus (λ i. summed (λ q. net s i q) n) (λ i. summed (λ p. net s p i) n) n in
    let t = summed_turned (λ i q. net s i q) n n in
    omega (arith, ints)

pub balance_none : (s : Sums) (i : ℕ) → balance s 0 i ≡ pos 0
unfolding balance summed
balance_none s i = refl

pub balance_more : (s : Sums) (n i : ℕ) → balance s (n + 1) i ≡ balance s n i +ℤ (net s i n -ℤ net s n i)
unfolding balance summed
balance_more s n i = rw add-one (omega (arith, ints))

-- a list's own sum
summed_front : (xs : List ℤ) (i : ℕ) → i ≤ length xs → fold ◌+ℤ◌ (pos 0) (take i xs) ≡ summed (λ k. get_or xs k (pos 0)) i
unfolding summed
summed_front xs zero h = refl
summed_front xs (suc i) h =
    let e = summed_front xs i (omega arith) in
    let l : i < length xs = omega arith in
    rw add-one at (fold_more ◌+ℤ◌ (pos 0) xs i (pos 0) l) ∙ ap (λ (z : ℤ). z +ℤ get_or xs i (pos 0)) e

summed_all : (xs : List ℤ) → fold ◌+ℤ◌ (pos 0) xs ≡ summed (λ k. get_or xs k (pos 0)) (length xs)
summed_all xs = ap (fold ◌+ℤ◌ (pos 0)) (sym (take_all (length xs) xs (omega arith))) ∙ summed_front xs (length xs) (omega arith)

-- a list of the positions of all banks comes to zero
pub positions_balanced : (s : Sums) (xs : List ℤ) → length xs ≡ 16 → ((k : ℕ) → k < 16 → get_or xs k (pos 0) ≡ position s k) → fold ◌+ℤ◌ (pos 0) xs ≡ pos 0
positions_balanced s xs long each =
    summed_all xs ∙ ap (summed (λ k. get_or xs k (pos 0))) long ∙ summed_same (λ k. get_or xs k (pos 0)) (position s) 16 each ∙ balanced s 16

-- a running sum, which the machine's numbers hold
abbrev pub Running : Sums → ℕ → ℕ → ℤ → Type 0
Running s n bank sum = (sum ≡ balance s n bank) × (neg_ℤ (pos (n * 2048000000000000)) ≤ℤ sum) × (sum ≤ℤ pos (n * 2048000000000000))
