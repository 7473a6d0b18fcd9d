-- A number read digit by digit, from a place on, up to the first byte that is no digit.
use Rattle.std.proofs.Common.{◌≡◌, ℕ, suc, ◌+◌, ◌-◌, ◌*◌, ◌^◌, ◌<◌, ◌≤◌, Bool, true, false, cond, ◌&&◌, List, [], ◌∷◌, length, take, drop, Some, None, Err, sym, refl, ap, ◌∙◌, subst, ⊎_elim, mul-le-mul_right, add-mul, one-mul, pow-suc, add-one, arith}
use native.Mathlib.Nat.{pow-le-pow_right}
use Rattle.std.specs.Char.{digit_value}
use Rattle.std.specs.Result.{result_ok}
use Rattle.std.specs.Str.Parse.{digits_value, digits_value_after}
use Rattle.std.proofs.lemmas.List.{drop-drop, take_all}
use Rattle.std.proofs.lemmas.Bool.{cond-true, cond-false, cases_Bool, and_from, le-leb}
use Rattle.std.proofs.lemmas.Bool.Decides.{nat_tests}
use Rattle.elements.specs.declared.number.Base.{Base}
use Rattle.elements.specs.declared.number.Base.TheVariants.{Decimal, Hexadecimal}
use Rattle.elements.specs.Numbers.{radix, is_digit, digit_in, unless, wrong, numeral, all_decimal, number_of}
use Rattle.elements.specs.Table.{decimal}

-- the bytes before `place` are digits and write v; those from there on decide the rest of the answer
pub record Reading (base : Base) (bs : List ℕ) (at n place v : ℕ) : Type 0 where
  pub looked : wrong (is_digit base) n at (drop at bs) ≡ wrong (is_digit base) (at + n - place) place (drop place bs)
  pub valued : digits_value (radix base) (take n (drop at bs)) ≡ digits_value_after (radix base) v (take (at + n - place) (drop place bs))
  pub small : v < radix base ^ (place - at)
  pub from : at ≤ place

-- what a decimal digit is worth, by its character
digit_value-decimal : (c : ℕ) → decimal c ≡ true → digit_value c ≡ c - 48
digit_value-decimal c h = grind (arith, nat_tests)

digit_small : (base : Base) (c : ℕ) → is_digit base c ≡ true → digit_value c < radix base
digit_small Decimal c h = grind (arith, nat_tests)
digit_small Hexadecimal c h = grind (arith, nat_tests)

-- characters that start with a digit, or with none
pub record Starts (base : Base) (m place v d : ℕ) (cs : List ℕ) : Type 0 where
  pub looked : wrong (is_digit base) (suc m) place cs ≡ wrong (is_digit base) m (place + 1) (drop 1 cs)
  pub valued : digits_value_after (radix base) v (take (suc m) cs) ≡ digits_value_after (radix base) (v * radix base + d) (take m (drop 1 cs))
  pub small : d < radix base

chosen : {d x : ℕ} (b : Bool) → cond b (Some x) None ≡ Some d → (b ≡ true) × (x ≡ d)
chosen true h = (refl, cc)
chosen false h = absurd (let z : ◌≡◌ {A = ℕ} 0 1 = cc in omega arith)

starts : (base : Base) (m place v d : ℕ) (cs : List ℕ) → digit_in base cs ≡ Some d → Starts base m place v d cs
starts base m place v d [] h = absurd (let z : ◌≡◌ {A = ℕ} 0 1 = cc in omega arith)
starts base m place v d (c ∷ cs) h =
    let p = chosen (is_digit base c) h in
    record {
      looked = cond-true _ _ _ p.0;
      valued = ap (λ x. digits_value_after (radix base) (v * radix base + x) (take m cs)) p.1;
      small = omega (arith, p.1, digit_small base c p.0);
    }

starts_wrong : (base : Base) (m place : ℕ) (cs : List ℕ) → digit_in base cs ≡ None → wrong (is_digit base) (suc m) place cs ≡ Some place
starts_wrong base m place [] h = refl
starts_wrong base m place (c ∷ cs) h =
    ⊎_elim
    (λ t. absurd (let s : Some (digit_value c) ≡ None = sym (cond-true _ _ _ t) ∙ h in let z : ◌≡◌ {A = ℕ} 0 1 = cc in omega arith))
    (λ f. cond-false _ _ _ f)
    (cases_Bool (is_digit base c))

-- one digit more keeps a number below the base's power
more_small : (base i v d : ℕ) → v < base ^ i → d < base → v * base + d < base ^ (i + 1)
more_small base i v d l k =
    let e : base ^ (i + 1) ≡ base ^ i * base = ap (λ m. base ^ m) (add-one i) ∙ pow-suc base i in
    let up : (v + 1) * base ≤ base ^ i * base = mul-le-mul_right base (omega arith) in
    let out : (v + 1) * base ≡ v * base + base = add-mul v 1 base ∙ ap (λ m. v * base + m) (one-mul base) in
    omega arith

-- what a digit at the next place makes of the number, and that it fits with all that may follow
pub record Next (base : Base) (bs : List ℕ) (at n place v d : ℕ) : Type 0 where
  pub reading : Reading base bs at n (place + 1) (v * radix base + d)
  pub most : v * radix base + d < radix base ^ n

module _ (base : Base) (bs : List ℕ) (at n place v : ℕ) (r : Reading base bs at n place v) (h : place < at + n) where
  left : at + n - place ≡ suc (at + n - (place + 1))
  left = omega arith

  pub goes_on : (d : ℕ) → digit_in base (drop place bs) ≡ Some d → Next base bs at n place v d
  goes_on d e =
      let m = at + n - (place + 1) in
      let s = starts base m place v d (drop place bs) e in
      let rest : drop 1 (drop place bs) ≡ drop (place + 1) bs = drop-drop 1 place bs in
      let i : place + 1 - at ≡ place - at + 1 = omega (arith, r.from) in
      let small = more_small (radix base) (place - at) v d r.small s.small in
      let up : radix base ^ (place - at + 1) ≤ radix base ^ n = pow-le-pow_right {n = radix base} (omega (arith, s.small)) {i = place - at + 1} {j = n} (omega (arith, r.from)) in
      let P : ℕ → Type 0 = λ k. v * radix base + d < radix base ^ k in
      record {
        reading = record {
          looked = r.looked ∙ ap (λ k. wrong (is_digit base) k place (drop place bs)) left ∙ s.looked ∙ ap (wrong (is_digit base) m (place + 1)) rest;
          valued = r.valued ∙ ap (λ k. digits_value_after (radix base) v (take k (drop place bs))) left ∙ s.valued ∙ ap (λ cs. digits_value_after (radix base) (v * radix base + d) (take m cs)) rest;
          small = subst P (sym i) small;
          from = omega (arith, r.from);
        };
        most = omega arith;
      }

  pub stops : digit_in base (drop place bs) ≡ None → Err place ≡ numeral base bs at n
  stops e =
      sym (ap (λ o. unless o (λ i. i) (digits_value (radix base) (take n (drop at bs))))
      (r.looked ∙ ap (λ k. wrong (is_digit base) k place (drop place bs)) left ∙ starts_wrong base (at + n - (place + 1)) place (drop place bs) e))

-- all bytes of a text as one number
whole : (ds : List ℕ) (at v : ℕ) → result_ok (unless (wrong decimal (length ds) at ds) (λ i. i) v) ≡ cond (all_decimal ds) (Some v) None
whole [] at v = refl
whole (c ∷ cs) at v =
    elim (decimal c) as (λ b. result_ok (unless (cond b (wrong decimal (length cs) (at + 1) cs) (Some at)) (λ i. i) v) ≡ cond (b && all_decimal cs) (Some v) None) [
      | true ↦ whole cs (at + 1) v
      | false ↦ refl
    ]

pub whole_number : (ds : List ℕ) → 1 ≤ length ds → length ds ≤ 19 → result_ok (numeral Decimal ds 0 (length ds)) ≡ number_of ds
whole_number ds low high =
    ap (λ cs. result_ok (unless (wrong decimal (length ds) 0 ds) (λ i. i) (digits_value 10 cs))) (take_all (length ds) ds (omega arith))
    ∙ whole ds 0 (digits_value 10 ds)
    ∙ ap (λ b. cond (b && all_decimal ds) (Some (digits_value 10 ds)) None) (sym (and_from _ _ (le-leb 1 (length ds) low) (le-leb (length ds) 19 high)))
