-- Digits as characters, and back.
use Rattle.std.proofs.Common.{◌≡◌, ℕ, zero, suc, ◌+◌, ◌-◌, ◌*◌, ◌/◌, ◌%◌, ◌<◌, ◌≤◌, true, ◌&&◌, List, [], ◌∷◌, ◌++◌, length, drop, set, Some, None, sym, refl, ap, ◌∙◌, ⊎_elim, append_assoc, add-one, arith}
use Rattle.std.proofs.lemmas.List.{drop-set, length_push}
use Rattle.std.proofs.lemmas.Bool.{cond-true, cond-false, lt-ltb, le-leb, leb-true, and_from, and_parts, cases_Bool}
use Rattle.iso8583.specs.Reading.{two_digits}
use Rattle.elements.specs.Table.{decimal}
use Rattle.elements.specs.Fields.{digit, spelled}

pub digit_decimal : (d : ℕ) → d < 10 → digit d ≡ 48 + d
digit_decimal d h = cond-true _ _ _ (lt-ltb d 10 h)

decimal_from : (c : ℕ) → 48 ≤ c → c ≤ 57 → decimal c ≡ true
decimal_from c l h = and_from _ _ (le-leb 48 c l) (le-leb c 57 h)

decimal_range : (c : ℕ) → decimal c ≡ true → (48 ≤ c) × (c ≤ 57)
decimal_range c t = let p = and_parts _ _ t in (leb-true 48 c p.0, leb-true c 57 p.1)

-- two digits of a length are read as that length
pub two_read : (n : ℕ) → n ≤ 99 → two_digits (digit (n / 10 % 10)) (digit (n % 10)) ≡ Some n
two_read n h =
    let tens = digit_decimal (n / 10 % 10) (omega arith) in
    let units = digit_decimal (n % 10) (omega arith) in
    let value : (48 + n / 10 % 10 - 48) * 10 + (48 + n % 10 - 48) ≡ n = omega arith in
    (λ i. two_digits (tens i) (units i))
    ∙ cond-true _ _ _ (and_from _ _ (decimal_from (48 + n / 10 % 10) (omega arith) (omega arith)) (decimal_from (48 + n % 10) (omega arith) (omega arith)))
    ∙ ap (λ m. Some m) value

-- and the length that two digits write is written by them
pub two_written : (a b n : ℕ) → two_digits a b ≡ Some n → spelled 10 2 n ≡ a ∷ b ∷ []
unfolding spelled
two_written a b n e =
    ⊎_elim
    (λ t.
    let p = and_parts _ _ t in
    let x = decimal_range a p.0 in
    let y = decimal_range b p.1 in
    let s : Some ((a - 48) * 10 + (b - 48)) ≡ Some n = sym (cond-true _ _ _ t) ∙ e in
    let v : (a - 48) * 10 + (b - 48) ≡ n = cc in
    let tens : 48 + n / 10 % 10 ≡ a = omega (arith, x.0, x.1, y.0, y.1) in
    let units : 48 + n % 10 ≡ b = omega (arith, x.0, x.1, y.0, y.1) in
    λ i. (digit_decimal (n / 10 % 10) (omega arith) ∙ tens) i ∷ (digit_decimal (n % 10) (omega arith) ∙ units) i ∷ [])
    (λ f. absurd (let s : None ≡ Some n = sym (cond-false _ _ _ f) ∙ e in let z : ◌≡◌ {A = ℕ} 0 1 = cc in omega arith))
    (cases_Bool (decimal a && decimal b))

-- one more digit of a number that is written from the right
pub spelled_more : (base m v d : ℕ) (all text : List ℕ) → m < length text → d ≡ digit (v % base) → all ≡ spelled base (suc m) v ++ drop (suc m) text → all ≡ spelled base m (v / base) ++ drop m (set text m d)
unfolding spelled
spelled_more base m v d all text h e s =
    s ∙ append_assoc (spelled base m (v / base)) (digit (v % base) ∷ []) (drop (suc m) text)
    ∙ ap (λ l. spelled base m (v / base) ++ l) (ap (λ x. x ∷ drop (suc m) text) (sym e) ∙ ap (λ n. d ∷ drop n text) (sym (add-one m)) ∙ sym (drop-set text m d h))

pub length-spelled : (base n v : ℕ) → length (spelled base n v) ≡ n
unfolding spelled
length-spelled base zero v = refl
length-spelled base (suc n) v = length_push (spelled base n (v / base)) (digit (v % base)) ∙ ap (λ m. m + 1) (length-spelled base n (v / base)) ∙ add-one n
