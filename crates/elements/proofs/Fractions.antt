-- Parts of a list of decimal digits, and what they say of the whole.
use Rattle.std.proofs.Common.{◌≡◌, ℕ, zero, suc, ◌+◌, ◌≤◌, true, false, cond, ◌&&◌, eqb, List, [], ◌∷◌, length, take, drop, Some, None, Option, sym, refl, ap, ◌∙◌, ⊎_elim, arith}
use mathlib.Core.Bool.{and_assoc}
use Rattle.std.specs.Str.Parse.{digits_value}
use Rattle.std.proofs.lemmas.List.{take_all, drop-drop, length-drop, length-take-le}
use Rattle.std.proofs.lemmas.Bool.{and_from, and_left, and_right, le-leb, eq-eqb, cond-true, cond-false, cases_Bool}
use Rattle.elements.specs.declared.original.Original.{Original}
use Rattle.elements.specs.Table.{within, decimal}
use Rattle.elements.specs.Numbers.{all_decimal, number_of}
use Rattle.elements.specs.Originals.{original_of}

split : (i : ℕ) (ds : List ℕ) → all_decimal ds ≡ (all_decimal (take i ds) && all_decimal (drop i ds))
split zero ds = refl
split (suc i) [] = refl
split (suc i) (d ∷ ds) = ap (λ b. decimal d && b) (split i ds) ∙ sym (and_assoc (decimal d) (all_decimal (take i ds)) (all_decimal (drop i ds)))

module _ (ds : List ℕ) (i n : ℕ) where
  by_digits : 1 ≤ n → n ≤ 19 → i + n ≤ length ds → number_of (take n (drop i ds)) ≡ cond (all_decimal (take n (drop i ds))) (Some (digits_value 10 (take n (drop i ds)))) None
  by_digits low high inside =
      let part = take n (drop i ds) in
      let l : length part ≡ n = length-take-le n (drop i ds) (omega (arith, length-drop i ds)) in
      let w : within 1 19 (length part) ≡ true = and_from _ _ (le-leb 1 (length part) (omega arith)) (le-leb (length part) 19 (omega arith)) in
      ap (λ b. cond (b && all_decimal part) (Some (digits_value 10 part)) None) w

  -- a part that is no number
  pub no_part : (r : Option Original) → r ≡ None → None ≡ number_of (take n (drop i ds)) → 1 ≤ n → n ≤ 19 → i + n ≤ length ds → r ≡ original_of ds
  no_part r e h low high inside =
      e ∙ ⊎_elim
      (λ t. absurd (let s : None ≡ Some (digits_value 10 (take n (drop i ds))) = h ∙ by_digits low high inside ∙ cond-true _ _ _ t in let z : ◌≡◌ {A = ℕ} 0 1 = cc in omega arith))
      (λ f.
      let behind : all_decimal (drop i ds) ≡ false = split n (drop i ds) ∙ and_left _ _ f in
      sym (cond-false _ _ _ (and_right (eqb (length ds) 42) (all_decimal ds) (split i ds ∙ and_right _ _ behind))))
      (cases_Bool (all_decimal (take n (drop i ds))))

  pub record Part (v : ℕ) : Type 0 where
    pub decimals : all_decimal (take n (drop i ds)) ≡ true
    pub value : v ≡ digits_value 10 (take n (drop i ds))

  part : (v : ℕ) → Some v ≡ number_of (take n (drop i ds)) → 1 ≤ n → n ≤ 19 → i + n ≤ length ds → Part v
  part v h low high inside =
      ⊎_elim
      (λ t. record { decimals = t; value = let s : Some v ≡ Some (digits_value 10 (take n (drop i ds))) = h ∙ by_digits low high inside ∙ cond-true _ _ _ t in cc })
      (λ f. absurd (let s : Some v ≡ None = h ∙ by_digits low high inside ∙ cond-false _ _ _ f in let z : ◌≡◌ {A = ℕ} 0 1 = cc in omega arith))
      (cases_Bool (all_decimal (take n (drop i ds))))

-- all five parts are numbers
pub put_together : (ds : List ℕ) → length ds ≡ 42 → (mti trace moment acquirer forwarder : ℕ) →
    Some mti ≡ number_of (take 4 ds) → Some trace ≡ number_of (take 6 (drop 4 ds)) → Some moment ≡ number_of (take 10 (drop 10 ds)) → Some acquirer ≡ number_of (take 11 (drop 20 ds)) → Some forwarder ≡ number_of (take 11 (drop 31 ds)) →
    Some (record { mti = mti; trace = trace; moment = moment; acquirer = acquirer; forwarder = forwarder }) ≡ original_of ds
put_together ds l mti trace moment acquirer forwarder a b c d e =
    let p = part ds 0 4 mti a (omega arith) (omega arith) (omega arith) in
    let q = part ds 4 6 trace b (omega arith) (omega arith) (omega arith) in
    let r = part ds 10 10 moment c (omega arith) (omega arith) (omega arith) in
    let s = part ds 20 11 acquirer d (omega arith) (omega arith) (omega arith) in
    let t = part ds 31 11 forwarder e (omega arith) (omega arith) (omega arith) in
    let last : all_decimal (drop 31 ds) ≡ true = ap all_decimal (sym (take_all 11 (drop 31 ds) (omega (arith, length-drop 31 ds)))) ∙ t.decimals in
    let longer : all_decimal (drop 20 ds) ≡ true = split 11 (drop 20 ds) ∙ and_from _ _ s.decimals (ap all_decimal (drop-drop 11 20 ds) ∙ last) in
    let twenty : all_decimal (drop 10 ds) ≡ true = split 10 (drop 10 ds) ∙ and_from _ _ r.decimals (ap all_decimal (drop-drop 10 10 ds) ∙ longer) in
    let ten : all_decimal (drop 4 ds) ≡ true = split 6 (drop 4 ds) ∙ and_from _ _ q.decimals (ap all_decimal (drop-drop 6 4 ds) ∙ twenty) in
    let all : all_decimal ds ≡ true = split 4 ds ∙ and_from _ _ p.decimals ten in
    (λ j. Some (record { mti = p.value j; trace = q.value j; moment = r.value j; acquirer = s.value j; forwarder = t.value j }))
    ∙ sym (cond-true _ _ _ (and_from _ _ (eq-eqb (length ds) 42 l) all))
