-- A whole message, put together from what its parts tell.
use Rattle.std.proofs.Common.{◌≡◌, ℕ, ◌%◌, ◌^◌, ◌≤◌, Bool, true, false, cond, ◌&&◌, eqb, List, length, take, drop, Ok, Err, Result, sym, ap, ◌∙◌, subst, ⊎_elim, arith}
use Rattle.std.specs.Str.Parse.{digits_value}
use Rattle.std.proofs.lemmas.List.{length-drop}
use Rattle.std.proofs.lemmas.Bool.{cond-true, cond-false, cond_both, cases_Bool}
use Rattle.elements.specs.declared.fault.MessageFault.{MessageFault}
use Rattle.elements.specs.declared.fault.MessageFault.TheVariants.{Bitmap, Unknown, Empty}
use Rattle.iso8583.specs.declared.found.Found.{Found}
use Rattle.iso8583.specs.Bitmap.{marked, joined, first, strange}
use Rattle.iso8583.specs.Reading.{after, unless, wrong, mti_of, half, with_second, bits_of, marks_of, marked_at, body, elements, parts, Parts, reading}
use Rattle.elements.specs.Table.{table, hexadecimal}
use Rattle.iso8583.proofs.Outcomes.{never, same_ok, unless_ok, after_is_ok}
use Rattle.iso8583.proofs.Steps.{after_ok}
use Rattle.iso8583.proofs.Wrong.{wrong_long}

half_long : (at : ℕ) (cs : List ℕ) (h : ℕ) → half at cs ≡ Ok h → 16 ≤ length cs
half_long at cs h e = wrong_long hexadecimal 16 at cs (unless_ok (wrong hexadecimal 16 at cs) (λ i. Bitmap i) (digits_value 16 (take 16 cs)) h e).0

body_most : (bits : ℕ) → body bits ≤ 36
body_most bits = cond_both (marked bits 1) 36 20 (λ n. n ≤ 36) (λ m. omega arith) (λ m. omega arith)

-- a message is at least as long as its type and bitmaps
pub bits_long : (bs : List ℕ) (bits : ℕ) → bits_of bs ≡ Ok bits → body bits ≤ length bs
bits_long bs bits h =
    let a = after_is_ok (half 4 (drop 4 bs)) (λ high. with_second high bs) bits h in
    let high = a.0 in
    let first = half_long 4 (drop 4 bs) high a.1 in
    let l4 = length-drop 4 bs in
    ⊎_elim
    (λ m.
    let b = after_is_ok (half 20 (drop 20 bs)) (λ low. Ok (joined high low)) bits (sym (cond-true _ _ _ m) ∙ a.2) in
    let second = half_long 20 (drop 20 bs) b.0 b.1 in
    omega (arith, body_most bits, length-drop 20 bs))
    (λ m.
    let same : joined high 0 ≡ bits = same_ok (sym (cond-false _ _ _ m) ∙ a.2) in
    let short : body bits ≡ 20 = ap body (sym same) ∙ cond-false _ 36 20 m in
    omega arith)
    (cases_Bool (marked (joined high 0) 1))

fine : (t : Bool) (bits b : ℕ) → cond t (Err Empty) (Ok bits) ≡ Ok b → bits ≡ b
fine true bits b h = absurd (never h)
fine false bits b h = same_ok h

-- the marks of a bitmap are the bitmap
pub marks_same : (bits b : ℕ) → marks_of bits ≡ Ok b → bits ≡ b
marks_same bits b h =
    let a = after_is_ok (unless (first (strange bits) 2 127) (λ k. Unknown k (marked_at k)) bits) (λ _. cond (marked bits 1 && eqb (bits % 2 ^ 64) 0) (Err Empty) (Ok bits)) b h in
    fine (marked bits 1 && eqb (bits % 2 ^ 64) 0) bits b a.2

abbrev pub from_bits : List ℕ → ℕ → ℕ → Result Parts MessageFault
from_bits bs mti bits =
    after (marks_of bits) (λ _. after (elements table bits (body bits) (drop (body bits) bs)) (λ es. Ok (parts mti bits es)))

abbrev pub from_mti : List ℕ → ℕ → Result Parts MessageFault
from_mti bs mti = after (bits_of bs) (from_bits bs mti)

-- a message in four steps
module _ (bs : List ℕ) (mti marks bits : ℕ) (k : Ok mti ≡ mti_of bs) (b : Ok marks ≡ bits_of bs) (m : Ok bits ≡ marks_of marks) where
  same_marks : marks ≡ bits
  same_marks = marks_same marks bits (sym m)

  pub body_inside : body bits ≤ length bs
  body_inside = subst (λ x. body x ≤ length bs) same_marks (bits_long bs marks (sym b))

  abbrev by_elements : ℕ → Result Parts MessageFault
  by_elements x = after (elements table x (body x) (drop (body x) bs)) (λ es. Ok (parts mti x es))

  in_steps : reading bs ≡ by_elements bits
  in_steps =
      sym (after_ok (from_mti bs) k) ∙ sym (after_ok (from_bits bs mti) b)
      ∙ sym (after_ok (λ _. by_elements marks) m) ∙ ap by_elements same_marks

  pub read_whole : (es : List Found) → elements table bits (body bits) (drop (body bits) bs) ≡ Ok es → reading bs ≡ Ok (parts mti bits es)
  read_whole es e = in_steps ∙ ap (λ r. after r (λ fs. Ok (parts mti bits fs))) e

  pub read_faulty : (f : MessageFault) → elements table bits (body bits) (drop (body bits) bs) ≡ Err f → reading bs ≡ Err f
  read_faulty f e = in_steps ∙ ap (λ r. after r (λ fs. Ok (parts mti bits fs))) e
