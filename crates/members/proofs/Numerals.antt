-- Numbers written digit by digit: the first digits of a number are its quotient by a power of ten.
use Rattle.std.proofs.Common.{◌≡◌, ℕ, suc, ◌+◌, ◌-◌, ◌*◌, ◌/◌, ◌%◌, ◌^◌, ◌<◌, ◌≤◌, Bool, true, List, [], ◌∷◌, ◌++◌, length, take, drop, sym, refl, ap, ◌∙◌, subst, mul_assoc, mul_comm, add-mul, pow-suc, zero-add, arith}
use lib.Arith.{digits_div, digits_mod}
use Rattle.std.proofs.lemmas.Int.Digits.{number_lt, number_after_append}
use Rattle.std.proofs.ByRecursion.{All-take, All-drop}
use Rattle.std.proofs.lemmas.List.{take-append-drop, length-drop, length-take, length-take-le}
use Rattle.std.proofs.lemmas.Bool.{and_parts, and_from, leb-true, le-leb, eqb-true, eq-eqb}
use Rattle.std.specs.Int.Digits.{number_from_digits, number_from_digits_after, AllBelowBase}
use Rattle.host.specs.declared.line.Card.{Card}
use Rattle.members.specs.declared.prefix.Prefix.{Prefix}
use Rattle.members.specs.Prefixes.{fits, prefix_of, card_of, Digitwise}

-- digits after a number move it up by as many places
after_number : (n : ℕ) (ds : List ℕ) → number_from_digits_after 10 n ds ≡ n * 10 ^ length ds + number_from_digits 10 ds
after_number n [] = omega arith
after_number n (d ∷ ds) =
    let k = 10 ^ length ds in
    let p : 10 ^ suc (length ds) ≡ k * 10 = pow-suc 10 (length ds) in
    let a = after_number (n * 10 + d) ds in
    let b = after_number (0 * 10 + d) ds in
    let q : (n * 10 + d) * k ≡ n * 10 * k + d * k = add-mul (n * 10) d k in
    let r : n * 10 * k ≡ n * (k * 10) = mul_assoc n 10 k ∙ ap (λ x. n * x) (mul_comm 10 k) in
    let s : n * 10 ^ suc (length ds) ≡ n * (k * 10) = ap (λ x. n * x) p in
    let z : (0 * 10 + d) * k ≡ d * k = ap (λ x. x * k) (omega arith) in
    omega arith

-- a number in two parts
number_parts : (xs ys : List ℕ) → number_from_digits 10 (xs ++ ys) ≡ number_from_digits 10 xs * 10 ^ length ys + number_from_digits 10 ys
number_parts xs ys = number_after_append 10 0 xs ys ∙ after_number (number_from_digits 10 xs) ys

-- the first digits
first_digits : (xs ys : List ℕ) → AllBelowBase 10 ys → number_from_digits 10 (xs ++ ys) / 10 ^ length ys ≡ number_from_digits 10 xs
first_digits xs ys u = ap (λ n. n / 10 ^ length ys) (number_parts xs ys) ∙ digits_div (number_from_digits 10 xs) (number_lt 10 ys u)

number_cons : (d : ℕ) (ds : List ℕ) → number_from_digits 10 (d ∷ ds) ≡ d * 10 ^ length ds + number_from_digits 10 ds
number_cons d ds = number_parts (d ∷ []) ds ∙ ap (λ n. n * 10 ^ length ds + number_from_digits 10 ds) (zero-add d)

-- digits are told from the number that they write
same_digits : (xs ys : List ℕ) → AllBelowBase 10 xs → AllBelowBase 10 ys → length xs ≡ length ys → number_from_digits 10 xs ≡ number_from_digits 10 ys → xs ≡ ys
same_digits [] [] u v l e = refl
same_digits [] (y ∷ ys) u v l e = absurd (omega arith)
same_digits (x ∷ xs) [] u v l e = absurd (omega arith)
same_digits (x ∷ xs) (y ∷ ys) (a, u) (b, v) l e =
    let k = 10 ^ length xs in
    let m : length xs ≡ length ys = omega arith in
    let p : number_from_digits 10 xs < k = number_lt 10 xs u in
    let q : number_from_digits 10 ys < k = subst (λ n. number_from_digits 10 ys < 10 ^ n) (sym m) (number_lt 10 ys v) in
    let t : x * k + number_from_digits 10 xs ≡ y * k + number_from_digits 10 ys = sym (number_cons x xs) ∙ e ∙ number_cons y ys ∙ ap (λ n. y * 10 ^ n + number_from_digits 10 ys) (sym m) in
    let first : x ≡ y = sym (digits_div x p) ∙ ap (λ n. n / k) t ∙ digits_div y q in
    let rest : number_from_digits 10 xs ≡ number_from_digits 10 ys = sym (digits_mod x p) ∙ ap (λ n. n % k) t ∙ digits_mod y q in
    ap (λ z. z ∷ xs) first ∙ ap (λ zs. y ∷ zs) (same_digits xs ys u v m rest)

-- the first m digits of a number
quotient : (cs : List ℕ) (m : ℕ) → AllBelowBase 10 cs → number_from_digits 10 cs / 10 ^ (length cs - m) ≡ number_from_digits 10 (take m cs)
quotient cs m u =
    ap (λ xs. number_from_digits 10 xs / 10 ^ (length cs - m)) (sym (take-append-drop m cs))
    ∙ ap (λ k. number_from_digits 10 (take m cs ++ drop m cs) / 10 ^ k) (sym (length-drop m cs))
    ∙ first_digits (take m cs) (drop m cs) (All-drop (λ d. d < 10) m cs u)

alike : (ps cs : List ℕ) → AllBelowBase 10 ps → AllBelowBase 10 cs → fits (prefix_of ps) (card_of cs) ≡ true → take (length ps) cs ≡ ps
alike ps cs u v e =
    let p = and_parts _ _ e in
    let h : length ps ≤ length cs = leb-true _ _ (and_parts _ _ p.0).0 in
    same_digits (take (length ps) cs) ps (All-take (λ d. d < 10) (length ps) cs v) u (length-take-le (length ps) cs h) (sym (quotient cs (length ps) v) ∙ eqb-true _ _ p.1)

fitting : (ps cs : List ℕ) → AllBelowBase 10 ps → AllBelowBase 10 cs → length cs ≤ 19 → take (length ps) cs ≡ ps → fits (prefix_of ps) (card_of cs) ≡ true
fitting ps cs u v few e =
    let h : length ps ≤ length cs = omega (arith, ap length e, length-take (length ps) cs) in
    and_from _ _ (and_from _ _ (le-leb _ _ h) (le-leb _ _ few)) (eq-eqb _ _ (quotient cs (length ps) v ∙ ap (number_from_digits 10) e))

pub digitwise : (p : Prefix) (c : Card) (r : Bool) → r ≡ fits p c → Digitwise p c r
digitwise p c r e ps cs u v few is_prefix is_card =
    let t : r ≡ fits (prefix_of ps) (card_of cs) = e ∙ ap (λ q. fits q c) is_prefix ∙ ap (λ d. fits (prefix_of ps) d) is_card in
    ((λ yes. alike ps cs u v (sym t ∙ yes)), (λ same. t ∙ fitting ps cs u v few same))
