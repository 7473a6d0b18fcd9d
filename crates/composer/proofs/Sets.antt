-- A set of elements and its bits.
use Rattle.std.proofs.Common.{◌≡◌, ℕ, zero, suc, ◌+◌, ◌-◌, ◌*◌, ◌/◌, ◌%◌, ◌^◌, ◌<◌, ◌≤◌, min, Bool, true, false, ◌||◌, eqb, List, [], ◌∷◌, ◌++◌, Some, None, sym, refl, ap, ◌∙◌, ⊎_elim, pow-suc, div-one, arith}
use mathlib.Core.Bool.{or-false, or_assoc}
use Rattle.std.proofs.lemmas.Nat.{shr-shr}
use Rattle.std.proofs.lemmas.Bool.{cases_lt}
use Rattle.std.proofs.lemmas.Bool.Decides.{nat_tests}
use Rattle.iso8583.specs.Bitmap.{first}
use Rattle.elements.specs.Table.{table, known}
use Rattle.composer.specs.Writing.{sets, marks, bit, bits_from, listed, outside}
use Rattle.iso8583.proofs.Firsts.{first_none, first_finds, first_some, first_same}

-- the bits of one element
pub sets_high : (e k : ℕ) → 64 < e → 1 ≤ k → (eqb 1 k || eqb e k) ≡ sets e k
sets_high e k h l = grind (arith, nat_tests)

pub sets_low : (e k : ℕ) → 2 ≤ e → e ≤ 64 → eqb e k ≡ sets e k
sets_low e k l h = grind (arith, nat_tests)

-- one element more
pub marks-push : (es : List ℕ) (e k : ℕ) → marks (es ++ e ∷ []) k ≡ (marks es k || sets e k)
marks-push [] e k = or-false (sets e k)
marks-push (d ∷ es) e k = ap (λ b. sets d k || b) (marks-push es e k) ∙ sym (or_assoc (sets d k) (marks es k) (sets e k))

pub listed-push : (es : List ℕ) (e k : ℕ) → listed (es ++ e ∷ []) k ≡ (listed es k || eqb e k)
listed-push [] e k = or-false (eqb e k)
listed-push (d ∷ es) e k = ap (λ b. eqb d k || b) (listed-push es e k) ∙ sym (or_assoc (eqb d k) (listed es k) (eqb e k))

-- a known element is never outside
outside_known : (es : List ℕ) (e : ℕ) → known table e ≡ true → (k : ℕ) → outside (es ++ e ∷ []) k ≡ outside es k
outside_known es e t k = grind (arith, nat_tests, listed-push)

pub stranger_stays : (es : List ℕ) (e : ℕ) → known table e ≡ true → first (outside (es ++ e ∷ [])) 0 256 ≡ first (outside es) 0 256
stranger_stays es e t = first_same (outside (es ++ e ∷ [])) (outside es) 0 256 (outside_known es e t)

module _ (es : List ℕ) (e : ℕ) (small : e < 256) (f : known table e ≡ false) where
  out_here : outside (es ++ e ∷ []) e ≡ true
  out_here = grind (arith, nat_tests, listed-push)

  out_else : (k : ℕ) → (e ≡ k → ⊥) → outside (es ++ e ∷ []) k ≡ outside es k
  out_else k n = grind (arith, nat_tests, listed-push)

  -- an unknown element may be the lowest
  pub stranger_first : first (outside es) 0 256 ≡ None → first (outside (es ++ e ∷ [])) 0 256 ≡ Some e
  stranger_first h =
      first_finds (outside (es ++ e ∷ [])) 0 256 e (omega arith) (omega arith) (λ j a b. out_else j (λ q. omega arith) ∙ first_none (outside es) 0 256 h j a (omega arith)) out_here

  pub stranger_falls : (l : ℕ) → first (outside es) 0 256 ≡ Some l → first (outside (es ++ e ∷ [])) 0 256 ≡ Some (min l e)
  stranger_falls l h =
      let at = first_some (outside es) 0 256 l h in
      ⊎_elim
      (λ less. let low : l ≡ min l e = omega arith in first_finds (outside (es ++ e ∷ [])) 0 256 l (omega arith) at.to (λ j a b. out_else j (λ q. omega arith) ∙ at.none_before j a b) (out_else l (λ q. omega arith) ∙ at.here) ∙ ap (λ m. Some m) low)
      (λ more. let low : e ≡ min l e = omega arith in first_finds (outside (es ++ e ∷ [])) 0 256 e (omega arith) (omega arith) (λ j a b. out_else j (λ q. omega arith) ∙ at.none_before j a (omega arith)) out_here ∙ ap (λ m. Some m) low)
      (cases_lt l e)

-- bits as a number, and back
pub bits_same : (p q : ℕ → Bool) (n : ℕ) → ((k : ℕ) → 1 ≤ k → k ≤ n → p k ≡ q k) → bits_from p n ≡ bits_from q n
bits_same p q zero e = refl
bits_same p q (suc n) e = λ i. bits_same p q n (λ k l h. e k l (omega arith)) i * 2 + bit (e (suc n) (omega arith) (omega arith) i)

bit_of : (m : ℕ) → bit (eqb (m % 2) 1) ≡ m % 2
bit_of m = grind (arith, nat_tests)

-- bit k of n
abbrev pub at_bit : ℕ → ℕ → ℕ → Bool
at_bit n b k = eqb (b / 2 ^ (n - k) % 2) 1

pub half_bit : (n b k : ℕ) → k ≤ n → at_bit (suc n) b k ≡ at_bit n (b / 2) k
half_bit n b k h =
    let e : suc n - k ≡ 1 + (n - k) = omega arith in
    ap (λ m. eqb (b / 2 ^ m % 2) 1) e ∙ ap (λ m. eqb (m % 2) 1) (sym (shr-shr b 1 (n - k)))

halves : (b : ℕ) → b / 2 * 2 + b % 2 ≡ b
halves b = omega arith

pub bits_back : (n b : ℕ) → b < 2 ^ n → bits_from (at_bit n b) n ≡ b
bits_back zero b h = omega arith
bits_back (suc n) b h =
    let low : at_bit (suc n) b (suc n) ≡ eqb (b % 2) 1 = let e : suc n - suc n ≡ 0 = omega arith in ap (λ m. eqb (b / 2 ^ m % 2) 1) e ∙ ap (λ m. eqb (m % 2) 1) (div-one b) in
    let high : bits_from (at_bit (suc n) b) n ≡ b / 2 = bits_same (at_bit (suc n) b) (at_bit n (b / 2)) n (λ k l r. half_bit n b k r) ∙ bits_back n (b / 2) (omega (arith, pow-suc 2 n)) in
    (λ i. high i * 2 + (ap bit low ∙ bit_of b) i) ∙ halves b
