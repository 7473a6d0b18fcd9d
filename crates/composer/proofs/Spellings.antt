-- A number that is spelled is read again, and digits that are read are spelled again.
use Rattle.std.proofs.Common.{◌≡◌, ℕ, zero, suc, ◌+◌, ◌*◌, ◌/◌, ◌%◌, ◌^◌, ◌<◌, ◌≤◌, Bool, true, List, [], ◌∷◌, ◌++◌, length, get_or, take, None, sym, refl, ap, ◌∙◌, subst, pow-suc, add-one, arith}
use native.Mathlib.Nat.{pow-zero}
use Rattle.std.specs.Str.Parse.{digits_value}
use Rattle.std.specs.Char.{digit_value}
use Rattle.std.specs.List.{All}
use Rattle.std.proofs.lemmas.Nat.{div-mul-add, mod-mul-add, div_below, div-add-mod', mod_below}
use Rattle.std.proofs.lemmas.Int.Digits.{digits_value_push, digits_value_more}
use Rattle.std.proofs.lemmas.List.Elements.{All-nil, All-push}
use Rattle.std.proofs.lemmas.List.{take_more}
use Rattle.std.proofs.lemmas.Bool.{cond-true}
use Rattle.std.proofs.lemmas.Bool.Decides.{nat_tests}
use Rattle.iso8583.specs.Reading.{wrong}
use Rattle.elements.specs.Table.{decimal, hexadecimal}
use Rattle.elements.specs.Fields.{digit, spelled}
use Rattle.iso8583.proofs.Digits.{length-spelled}
use Rattle.iso8583.proofs.Wrong.{wrong-append, wrong_long, passed}

-- the characters of a base are its digits
pub record Base (base : ℕ) (good : ℕ → Bool) : Type 0 where
  pub some : 0 < base
  pub fits : (d : ℕ) → d < base → good (digit d) ≡ true
  pub worth : (d : ℕ) → d < base → digit_value (digit d) ≡ d
  pub below : (c : ℕ) → good c ≡ true → digit_value c < base
  pub back : (c : ℕ) → good c ≡ true → digit (digit_value c) ≡ c

pub ten : Base 10 decimal
ten = grind (arith, nat_tests)

pub sixteen : Base 16 hexadecimal
sixteen = grind (arith, nat_tests)

-- every one of the first n characters passes
pub wrong_good : (good : ℕ → Bool) (n i : ℕ) (cs : List ℕ) → wrong good n i cs ≡ None → (j : ℕ) → j < n → good (get_or cs j 0) ≡ true
wrong_good good zero i cs w j h = absurd (omega arith)
wrong_good good (suc n) i [] w j h = absurd (let z : ◌≡◌ {A = ℕ} 0 1 = cc in omega arith)
wrong_good good (suc n) i (c ∷ cs) w zero h = (passed (good c) i w).0
wrong_good good (suc n) i (c ∷ cs) w (suc j) h = wrong_good good n (i + 1) cs (passed (good c) i w).1 j (omega arith)

good_wrong : (good : ℕ → Bool) (i : ℕ) (cs : List ℕ) → All (λ c. good c ≡ true) cs → wrong good (length cs) i cs ≡ None
good_wrong good i [] a = refl
good_wrong good i (c ∷ cs) a = cond-true _ _ _ (a 0 0 (omega arith)) ∙ good_wrong good (i + 1) cs (λ j d l. a (suc j) d (omega arith))

module _ {base : ℕ} {good : ℕ → Bool} (b : Base base good) where
  all_spelled : (n v : ℕ) → All (λ c. good c ≡ true) (spelled base n v)
  unfolding spelled
  all_spelled zero v = All-nil (λ c. good c ≡ true)
  all_spelled (suc n) v = All-push (λ c. good c ≡ true) (spelled base n (v / base)) (digit (v % base)) (all_spelled n (v / base)) (b.fits (v % base) (mod_below v base b.some))

  -- what is spelled has no wrong character
  pub spelled_right : (n v i : ℕ) (rest : List ℕ) → wrong good n i (spelled base n v ++ rest) ≡ None
  spelled_right n v i rest =
      let long = length-spelled base n v in
      wrong-append good n i i (spelled base n v) rest (omega arith) (ap (λ m. wrong good m i (spelled base n v)) (sym long) ∙ good_wrong good i (spelled base n v) (all_spelled n v))

  pub value_spelled : (n v : ℕ) → v < base ^ n → digits_value base (spelled base n v) ≡ v
  unfolding spelled
  value_spelled zero v h = omega (arith, pow-zero base)
  value_spelled (suc n) v h =
      let less : v / base < base ^ n = div_below v base (base ^ n) b.some (subst (λ m. v < m) (pow-suc base n) h) in
      digits_value_push base (spelled base n (v / base)) (digit (v % base))
      ∙ (λ i. value_spelled n (v / base) less i * base + b.worth (v % base) (mod_below v base b.some) i)
      ∙ div-add-mod' v base

  spelled_front : (cs : List ℕ) (m : ℕ) → ((j : ℕ) → j < m → good (get_or cs j 0) ≡ true) → m ≤ length cs → (i : ℕ) → i ≤ m → spelled base i (digits_value base (take i cs)) ≡ take i cs
  unfolding spelled
  spelled_front cs m g l zero h = refl
  spelled_front cs m g l (suc i) h =
      let near : i < length cs = omega arith in
      let c = get_or cs i 0 in
      let d = digit_value c in
      let small = b.below c (g i (omega arith)) in
      let v = digits_value base (take i cs) in
      let up : digits_value base (take (suc i) cs) ≡ v * base + d = ap (λ n. digits_value base (take n cs)) (sym (add-one i)) ∙ digits_value_more base cs i near in
      ap (spelled base (suc i)) up
      ∙ (λ j. spelled base i (div-mul-add v base d small j) ++ digit (mod-mul-add v base d small j) ∷ [])
      ∙ (λ j. spelled_front cs m g l i (omega arith) j ++ b.back c (g i (omega arith)) j ∷ [])
      ∙ sym (take_more cs i 0 near) ∙ ap (λ n. take n cs) (add-one i)

  -- digits that are read are spelled again
  pub spelled_value : (n i : ℕ) (cs : List ℕ) → wrong good n i cs ≡ None → spelled base n (digits_value base (take n cs)) ≡ take n cs
  spelled_value n i cs w = spelled_front cs n (wrong_good good n i cs w) (wrong_long good n i cs w) n (omega arith)
