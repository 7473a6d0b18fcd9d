-- Bytes laid into a buffer, one part after the other.
use Rattle.std.proofs.Common.{◌≡◌, ℕ, ◌+◌, ◌/◌, ◌%◌, ◌^◌, ◌≤◌, Bool, true, false, cond, List, [], ◌++◌, length, sym, ap, ◌∙◌, append_assoc, append-nil, arith, rules}
use Rattle.std.proofs.lemmas.List.{places, same_lists, length-append}
use Rattle.std.proofs.lemmas.Bool.{cond-true, cond-false}
use Rattle.iso8583.specs.Bitmap.{marked}
use Rattle.iso8583.specs.Reading.{body}
use Rattle.elements.specs.Fields.{spelled}
use Rattle.composer.specs.Writing.{laid, head}
use Rattle.iso8583.proofs.Digits.{length-spelled}

pub length-laid : (out : List ℕ) (at : ℕ) (xs : List ℕ) → at + length xs ≤ length out → length (laid out at xs) ≡ length out
length-laid out at xs h = search (rules, places)

laid_laid : (out : List ℕ) (at : ℕ) (xs ys : List ℕ) → at + length xs + length ys ≤ length out → laid (laid out at xs) (at + length xs) ys ≡ laid out at (xs ++ ys)
laid_laid out at xs ys h = same_lists _ _ (search (rules, places)) (λ k d l. grind (arith, places))

pub laid_next : (out : List ℕ) (at n : ℕ) (xs ys : List ℕ) → n ≡ at + length xs → n + length ys ≤ length out → laid (laid out at xs) n ys ≡ laid out at (xs ++ ys)
laid_next out at n xs ys e h = ap (λ m. laid (laid out at xs) m ys) e ∙ laid_laid out at xs ys (omega arith)

tail : (t : Bool) (k h : ℕ) (low : List ℕ) → k ≡ 4 → h ≡ 16 → length low ≡ 16 → k + (h + length (cond t low [])) ≡ cond t 36 20
tail true k h low a b c = omega arith
tail false k h low a b c = omega arith

-- the type and the bitmaps are as long as they have to be
pub length-head : (mti bits : ℕ) → length (head mti bits) ≡ body bits
unfolding head
length-head mti bits =
    let low = cond (marked bits 1) (spelled 16 16 (bits % 2 ^ 64)) [] in
    length-append (spelled 10 4 mti) (spelled 16 16 (bits / 2 ^ 64) ++ low)
    ∙ ap (λ n. length (spelled 10 4 mti) + n) (length-append (spelled 16 16 (bits / 2 ^ 64)) low)
    ∙ tail (marked bits 1) (length (spelled 10 4 mti)) (length (spelled 16 16 (bits / 2 ^ 64))) (spelled 16 16 (bits % 2 ^ 64)) (length-spelled 10 4 mti) (length-spelled 16 16 (bits / 2 ^ 64)) (length-spelled 16 16 (bits % 2 ^ 64))

-- the type and one bitmap, or two
module _ (out : List ℕ) (mti bits : ℕ) (room : body bits ≤ length out) where
  abbrev first_laid : List ℕ
  first_laid = laid (laid out 0 (spelled 10 4 mti)) 4 (spelled 16 16 (bits / 2 ^ 64))

  first_two : 20 ≤ length out → first_laid ≡ laid out 0 (spelled 10 4 mti ++ spelled 16 16 (bits / 2 ^ 64))
  first_two h = laid_next out 0 4 (spelled 10 4 mti) (spelled 16 16 (bits / 2 ^ 64)) (omega (arith, length-spelled 10 4 mti)) (omega (arith, length-spelled 16 16 (bits / 2 ^ 64)))

  pub head_single : marked bits 1 ≡ false → first_laid ≡ laid out 0 (head mti bits)
  unfolding head
  head_single m =
      let short : body bits ≡ 20 = cond-false (marked bits 1) 36 20 m in
      first_two (omega arith)
      ∙ ap (λ l. laid out 0 (spelled 10 4 mti ++ l)) (sym (append-nil (spelled 16 16 (bits / 2 ^ 64))))
      ∙ ap (λ l. laid out 0 (spelled 10 4 mti ++ (spelled 16 16 (bits / 2 ^ 64) ++ l))) (sym (cond-false (marked bits 1) (spelled 16 16 (bits % 2 ^ 64)) [] m))

  pub head_double : marked bits 1 ≡ true → laid first_laid 20 (spelled 16 16 (bits % 2 ^ 64)) ≡ laid out 0 (head mti bits)
  unfolding head
  head_double m =
      let long : body bits ≡ 36 = cond-true (marked bits 1) 36 20 m in
      let k = length-spelled 10 4 mti in
      let h = length-spelled 16 16 (bits / 2 ^ 64) in
      ap (λ o. laid o 20 (spelled 16 16 (bits % 2 ^ 64))) (first_two (omega arith))
      ∙ laid_next out 0 20 (spelled 10 4 mti ++ spelled 16 16 (bits / 2 ^ 64)) (spelled 16 16 (bits % 2 ^ 64)) (omega (arith, length-append (spelled 10 4 mti) (spelled 16 16 (bits / 2 ^ 64)))) (omega (arith, length-spelled 16 16 (bits % 2 ^ 64)))
      ∙ ap (laid out 0) (append_assoc (spelled 10 4 mti) (spelled 16 16 (bits / 2 ^ 64)) (spelled 16 16 (bits % 2 ^ 64)))
      ∙ ap (λ l. laid out 0 (spelled 10 4 mti ++ (spelled 16 16 (bits / 2 ^ 64) ++ l))) (sym (cond-true (marked bits 1) (spelled 16 16 (bits % 2 ^ 64)) [] m))
