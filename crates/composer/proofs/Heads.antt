-- The type and the bitmaps of a message, written and read.
use Rattle.std.proofs.lemmas.Grind.{common_steps}
use Rattle.std.proofs.lemmas.Bool.Decides.{nat_tests}
use Rattle.std.proofs.Common.{◌≡◌, ℕ, zero, suc, ◌+◌, ◌/◌, ◌%◌, ◌^◌, ◌<◌, ◌≤◌, Bool, true, false, cond, List, [], ◌∷◌, ◌++◌, length, take, drop, None, Ok, sym, ap, ◌∙◌, subst, ⊎_elim, append_assoc, append-nil, arith}
use Rattle.std.specs.Str.Parse.{digits_value, AllDigits}
use Rattle.std.proofs.lemmas.Nat.{shr_below, mod_below, pow_pos}
use Rattle.std.proofs.lemmas.Int.Digits.{digits_value-lt}
use Rattle.std.proofs.lemmas.List.{take_at, drop_at, drop-drop, take-append-drop, length-take-le}
use Rattle.std.proofs.lemmas.Bool.{cond-true, cond-false, cases_Bool, both_ways}
use Rattle.elements.specs.declared.fault.MessageFault.TheVariants.{Mti, Bitmap}
use Rattle.iso8583.specs.Bitmap.{marked, joined}
use Rattle.iso8583.specs.Reading.{after, unless, wrong, mti_of, half, with_second, bits_of, body}
use Rattle.elements.specs.Fields.{spelled}
use Rattle.composer.specs.Writing.{head}
use Rattle.composer.proofs.Bitmaps.{Sound}
use Rattle.iso8583.proofs.Digits.{length-spelled}
use Rattle.composer.proofs.Lays.{length-head}
use Rattle.composer.proofs.Lows.{first_bit, halves_joined, joined_high, joined_low}
use Rattle.iso8583.proofs.Outcomes.{same_ok, unless_ok, after_is_ok}
use Rattle.composer.proofs.Spellings.{Base, ten, sixteen, spelled_right, value_spelled, spelled_value}
use Rattle.iso8583.proofs.Wrong.{wrong_long, passed}

-- a numeral that is spelled is read
module _ {base : ℕ} {good : ℕ → Bool} (b : Base base good) (n : ℕ) where
  pub numeral_read : {F : Type 0} (fault : ℕ → F) (i v : ℕ) (rest : List ℕ) → v < base ^ n → unless (wrong good n i (spelled base n v ++ rest)) fault (digits_value base (take n (spelled base n v ++ rest))) ≡ Ok v
  numeral_read fault i v rest h =
      (λ j. unless (spelled_right b n v i rest j) fault (digits_value base (take_at (spelled base n v) rest n (length-spelled base n v) j)))
      ∙ ap (λ x. Ok x) (value_spelled b n v h)

  digits_from : (i : ℕ) (m : ℕ) (cs : List ℕ) → wrong good m i cs ≡ None → AllDigits base (take m cs)
  digits_from i zero cs w = tt
  digits_from i (suc m) [] w = absurd (let z : ◌≡◌ {A = ℕ} 0 1 = cc in omega arith)
  digits_from i (suc m) (c ∷ cs) w = let p = passed (good c) i w in (b.below c p.0, digits_from (i + 1) m cs p.1)

  -- a numeral that is read is spelled
  pub record Numeral (v : ℕ) (cs : List ℕ) : Type 0 where
    pub whole : spelled base n v ++ drop n cs ≡ cs
    pub small : v < base ^ n
    pub long : n ≤ length cs

  pub numeral_written : {F : Type 0} (fault : ℕ → F) (i v : ℕ) (cs : List ℕ) → unless (wrong good n i cs) fault (digits_value base (take n cs)) ≡ Ok v → Numeral v cs
  numeral_written fault i v cs h =
      let u = unless_ok (wrong good n i cs) fault (digits_value base (take n cs)) v h in
      let long = wrong_long good n i cs u.0 in
      let small = digits_value-lt base (take n cs) (digits_from i n cs u.0) in
      record {
        whole = ap (λ l. l ++ drop n cs) (ap (spelled base n) (sym u.1) ∙ spelled_value b n i cs u.0) ∙ take-append-drop n cs;
        small = subst (λ x. x < base ^ n) u.1 (subst (λ m. digits_value base (take n cs) < base ^ m) (length-take-le n cs long) small);
        long = long;
      }

abbrev low_text : ℕ → List ℕ
low_text bits = cond (marked bits 1) (spelled 16 16 (bits % 2 ^ 64)) []

-- written, then read
module _ (mti bits : ℕ) (rest : List ℕ) (h : mti ≤ 9999) (s : Sound bits) where
  abbrev whole : List ℕ
  whole = head mti bits ++ rest

  apart : whole ≡ spelled 10 4 mti ++ (spelled 16 16 (bits / 2 ^ 64) ++ (low_text bits ++ rest))
  unfolding head
  apart = grind (arith, nat_tests, common_steps)

  pub mti_read : mti_of whole ≡ Ok mti
  mti_read = ap mti_of apart ∙ numeral_read ten 4 (λ i. Mti i) 0 mti _ (omega arith)

  after_mti : drop 4 whole ≡ spelled 16 16 (bits / 2 ^ 64) ++ (low_text bits ++ rest)
  after_mti = ap (drop 4) apart ∙ drop_at (spelled 10 4 mti) _ 4 (length-spelled 10 4 mti)

  after_high : drop 20 whole ≡ low_text bits ++ rest
  after_high = sym (drop-drop 16 4 whole) ∙ ap (drop 16) after_mti ∙ drop_at (spelled 16 16 (bits / 2 ^ 64)) _ 16 (length-spelled 16 16 (bits / 2 ^ 64))

  high_read : half 4 (drop 4 whole) ≡ Ok (bits / 2 ^ 64)
  high_read = ap (half 4) after_mti ∙ numeral_read sixteen 16 (λ i. Bitmap i) 4 (bits / 2 ^ 64) _ (shr_below bits 64 64 s.small)

  low_read : marked bits 1 ≡ true → half 20 (drop 20 whole) ≡ Ok (bits % 2 ^ 64)
  low_read m =
      ap (half 20) (after_high ∙ ap (λ l. l ++ rest) (cond-true (marked bits 1) (spelled 16 16 (bits % 2 ^ 64)) [] m))
      ∙ numeral_read sixteen 16 (λ i. Bitmap i) 20 (bits % 2 ^ 64) rest (mod_below bits (2 ^ 64) (pow_pos 64))

  second_read : with_second (bits / 2 ^ 64) whole ≡ Ok bits
  second_read =
      ⊎_elim
      (λ m. cond-true _ _ _ (first_bit bits ∙ m) ∙ ap (λ r. after r (λ low. Ok (joined (bits / 2 ^ 64) low))) (low_read m) ∙ ap (λ x. Ok x) (halves_joined bits))
      (λ m. cond-false _ _ _ (first_bit bits ∙ m) ∙ ap (λ x. Ok x) (ap (joined (bits / 2 ^ 64)) (sym (s.single m)) ∙ halves_joined bits))
      (cases_Bool (marked bits 1))

  pub bits_read : bits_of whole ≡ Ok bits
  bits_read = ap (λ r. after r (λ high. with_second high whole)) high_read ∙ second_read

  pub after_head : drop (body bits) whole ≡ rest
  after_head = drop_at (head mti bits) rest (body bits) (length-head mti bits)

-- read, then written
pub record Headed (bs : List ℕ) (mti bits : ℕ) : Type 0 where
  pub four : mti ≤ 9999
  pub small : bits < 2 ^ 128
  pub single : marked bits 1 ≡ false → bits % 2 ^ 64 ≡ 0
  pub whole : head mti bits ++ drop (body bits) bs ≡ bs

-- one bitmap
single_half : (bs : List ℕ) (mti bits high : ℕ) → mti < 10000 → high < 2 ^ 64 → joined high 0 ≡ bits → marked (joined high 0) 1 ≡ false → spelled 10 4 mti ++ (spelled 16 16 high ++ drop 20 bs) ≡ bs → Headed bs mti bits
unfolding head
single_half bs mti bits high k h e m front =
    let is_high : bits / 2 ^ 64 ≡ high = ap (λ x. x / 2 ^ 64) (sym e) ∙ joined_high high 0 (omega arith) in
    let is_low : bits % 2 ^ 64 ≡ 0 = ap (λ x. x % 2 ^ 64) (sym e) ∙ joined_low high 0 (omega arith) in
    let off : marked bits 1 ≡ false = ap (λ x. marked x 1) (sym e) ∙ m in
    let short : body bits ≡ 20 = cond-false (marked bits 1) 36 20 off in
    record {
      four = omega arith;
      small = omega arith;
      single = λ _. is_low;
      whole =
          append_assoc (spelled 10 4 mti) (spelled 16 16 (bits / 2 ^ 64) ++ low_text bits) (drop (body bits) bs)
          ∙ (λ j. spelled 10 4 mti ++ ((spelled 16 16 (is_high j) ++ cond-false (marked bits 1) (spelled 16 16 (bits % 2 ^ 64)) [] off j) ++ drop (short j) bs))
          ∙ ap (λ l. spelled 10 4 mti ++ (l ++ drop 20 bs)) (append-nil (spelled 16 16 high)) ∙ front;
    }

-- two bitmaps
double : (bs : List ℕ) (mti bits high low : ℕ) → mti < 10000 → high < 2 ^ 64 → low < 2 ^ 64 → joined high low ≡ bits → marked (joined high 0) 1 ≡ true → spelled 10 4 mti ++ (spelled 16 16 high ++ drop 20 bs) ≡ bs → spelled 16 16 low ++ drop 16 (drop 20 bs) ≡ drop 20 bs → Headed bs mti bits
unfolding head
double bs mti bits high low k h l e m front back =
    let is_high : bits / 2 ^ 64 ≡ high = ap (λ x. x / 2 ^ 64) (sym e) ∙ joined_high high low l in
    let is_low : bits % 2 ^ 64 ≡ low = ap (λ x. x % 2 ^ 64) (sym e) ∙ joined_low high low l in
    let on : marked bits 1 ≡ true = sym (first_bit bits) ∙ ap (λ x. marked (joined x 0) 1) is_high ∙ m in
    let long : body bits ≡ 36 = cond-true (marked bits 1) 36 20 on in
    record {
      four = omega arith;
      small = omega arith;
      single = λ off. absurd (both_ways _ off on);
      whole =
          append_assoc (spelled 10 4 mti) (spelled 16 16 (bits / 2 ^ 64) ++ low_text bits) (drop (body bits) bs)
          ∙ (λ j. spelled 10 4 mti ++ ((spelled 16 16 (is_high j) ++ (cond-true (marked bits 1) (spelled 16 16 (bits % 2 ^ 64)) [] on ∙ ap (spelled 16 16) is_low) j) ++ drop (long j) bs))
          ∙ ap (λ x. spelled 10 4 mti ++ x) (append_assoc (spelled 16 16 high) (spelled 16 16 low) (drop 36 bs))
          ∙ ap (λ x. spelled 10 4 mti ++ (spelled 16 16 high ++ x)) (ap (λ x. spelled 16 16 low ++ x) (sym (drop-drop 16 20 bs)) ∙ back)
          ∙ front;
    }

pub headed : (bs : List ℕ) (mti bits : ℕ) → mti_of bs ≡ Ok mti → bits_of bs ≡ Ok bits → Headed bs mti bits
headed bs mti bits k b =
    let t = numeral_written ten 4 (λ i. Mti i) 0 mti bs k in
    let a = after_is_ok (half 4 (drop 4 bs)) (λ high. with_second high bs) bits b in
    let high = a.0 in
    let u = numeral_written sixteen 16 (λ i. Bitmap i) 4 high (drop 4 bs) a.1 in
    let over : drop 16 (drop 4 bs) ≡ drop 20 bs = drop-drop 16 4 bs in
    let front : spelled 10 4 mti ++ (spelled 16 16 high ++ drop 20 bs) ≡ bs = ap (λ l. spelled 10 4 mti ++ (spelled 16 16 high ++ l)) (sym over) ∙ ap (λ l. spelled 10 4 mti ++ l) u.whole ∙ t.whole in
    ⊎_elim
    (λ m.
    let c = after_is_ok (half 20 (drop 20 bs)) (λ low. Ok (joined high low)) bits (sym (cond-true _ _ _ m) ∙ a.2) in
    let low = c.0 in
    let v = numeral_written sixteen 16 (λ i. Bitmap i) 20 low (drop 20 bs) c.1 in
    double bs mti bits high low t.small u.small v.small (same_ok c.2) m (front) v.whole)
    (λ m. single_half bs mti bits high t.small u.small (same_ok (sym (cond-false _ _ _ m) ∙ a.2)) m front)
    (cases_Bool (marked (joined high 0) 1))
