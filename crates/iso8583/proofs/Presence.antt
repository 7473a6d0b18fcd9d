-- A message has an element exactly if its bitmap marks it.
use Rattle.std.proofs.Common.{◌≡◌, ℕ, ◌%◌, ◌^◌, ◌≤◌, true, false, cond, not, ◌&&◌, ◌||◌, eqb, List, [], ◌∷◌, drop, is_some, Some, Ok, Err, sym, ap, ◌∙◌, ⊎_elim, arith}
use Rattle.std.proofs.lemmas.Bool.{cond-true, cond-false, cases_Bool, eqb-true, eq-eqb, both_ways, and_left, and_right, and_from, and_parts, or_left, le-leb, leb-true}
use Rattle.elements.specs.declared.fault.MessageFault.TheVariants.{Unknown, Empty}
use Rattle.iso8583.specs.declared.found.Found.{Found}
use Rattle.elements.specs.declared.table.Row.{Row}
use Rattle.iso8583.specs.Bitmap.{marked, first, strange}
use Rattle.iso8583.specs.Messages.{found_of}
use Rattle.iso8583.specs.Reading.{after, unless, mti_of, bits_of, marks_of, marked_at, body, elements, parts, reading}
use Rattle.elements.specs.Table.{table, known, within}
use Rattle.iso8583.proofs.Firsts.{first_none}
use Rattle.iso8583.proofs.Outcomes.{never, same_ok, unless_ok, after_is_ok}
use Rattle.elements.proofs.Rows.{proper_table, known_range}
use Rattle.iso8583.proofs.Tiles.{stepped}
use Rattle.iso8583.proofs.Wholes.{from_mti, from_bits}

-- a message that was read, step by step
pub record Whole (bs : List ℕ) (mti bits : ℕ) (es : List Found) : Type 0 where
  pub typed : mti_of bs ≡ Ok mti
  pub mapped : bits_of bs ≡ Ok bits
  pub marks : ℕ
  pub known_only : marks_of bits ≡ Ok marks
  pub found : elements table bits (body bits) (drop (body bits) bs) ≡ Ok es

pub taken_apart : (bs : List ℕ) (mti bits : ℕ) (es : List Found) → reading bs ≡ Ok (parts mti bits es) → Whole bs mti bits es
taken_apart bs mti bits es h =
    let a = after_is_ok (mti_of bs) (from_mti bs) (parts mti bits es) h in
    let b = after_is_ok (bits_of bs) (from_bits bs a.0) (parts mti bits es) a.2 in
    let c = after_is_ok (marks_of b.0) (λ _. after (elements table b.0 (body b.0) (drop (body b.0) bs)) (λ fs. Ok (parts a.0 b.0 fs))) (parts mti bits es) b.2 in
    let d = after_is_ok (elements table b.0 (body b.0) (drop (body b.0) bs)) (λ fs. Ok (parts a.0 b.0 fs)) (parts mti bits es) c.2 in
    let same : parts a.0 b.0 d.0 ≡ parts mti bits es = same_ok d.2 in
    let k = ap (λ p. p.mti) same in
    let m = ap (λ p. p.bits) same in
    let e = ap (λ p. p.elements) same in
    record {
      typed = a.1 ∙ ap (λ x. Ok x) k;
      mapped = b.1 ∙ ap (λ x. Ok x) m;
      marks = c.0;
      known_only = ap marks_of (sym m) ∙ c.1;
      found = ap (λ x. elements table x (body x) (drop (body x) bs)) (sym m) ∙ d.1 ∙ ap (λ x. Ok x) e;
    }

-- by the rows: an element is found exactly if it is marked
pub found_marked : (rows : List Row) (bits at : ℕ) (cs : List ℕ) (es : List Found) (k : ℕ) → elements rows bits at cs ≡ Ok es → is_some (found_of es k) ≡ (known rows k && marked bits k)
found_marked [] bits at [] es k h = ap (λ l. is_some (found_of l k)) (sym (same_ok h))
found_marked [] bits at (c ∷ cs) es k h = absurd (never h)
found_marked (row ∷ rows) bits at cs es k h =
    ⊎_elim
    (λ m.
    let s = stepped row rows bits at cs es m h in
    let ih = found_marked rows bits s.first.end s.spelled.rest s.others k s.on in
    let e = s.spelled.element in
    ap (λ l. is_some (found_of l k)) (sym s.all)
    ∙ ap (λ n. is_some (cond (eqb n k) (Some s.first) (found_of s.others k))) e
    ∙ ⊎_elim
    (λ t. ap is_some (cond-true _ (Some s.first) (found_of s.others k) t) ∙ sym (and_from _ _ (or_left _ (known rows k) t) (ap (marked bits) (sym (eqb-true row.element k t)) ∙ m)))
    (λ f. ap is_some (cond-false _ (Some s.first) (found_of s.others k) f) ∙ ih ∙ ap (λ b. (b || known rows k) && marked bits k) (sym f))
    (cases_Bool (eqb row.element k)))
    (λ m.
    let ih = found_marked rows bits at cs es k (sym (cond-false _ _ _ m) ∙ h) in
    ih ∙ ⊎_elim
    (λ t. let off = ap (marked bits) (sym (eqb-true row.element k t)) ∙ m in and_right (known rows k) (marked bits k) off ∙ sym (and_right (eqb row.element k || known rows k) (marked bits k) off))
    (λ f. ap (λ b. (b || known rows k) && marked bits k) (sym f))
    (cases_Bool (eqb row.element k)))
    (cases_Bool (marked bits row.element))

-- a second bitmap that is announced marks something
pub second_marks : (bits marks : ℕ) → marks_of bits ≡ Ok marks → marked bits 1 ≡ true → bits % 2 ^ 64 ≡ 0 → ⊥
second_marks bits marks h m e =
    let a = after_is_ok (unless (first (strange bits) 2 127) (λ j. Unknown j (marked_at j)) bits) (λ _. cond (marked bits 1 && eqb (bits % 2 ^ 64) 0) (Err Empty) (Ok bits)) marks h in
    never (sym (cond-true _ (Err Empty) (Ok bits) (and_from _ _ m (eq-eqb (bits % 2 ^ 64) 0 e))) ∙ a.2)

-- no mark is strange
pub all_known : (bits marks k : ℕ) → marks_of bits ≡ Ok marks → 2 ≤ k → k ≤ 128 → marked bits k ≡ true → known table k ≡ true
all_known bits marks k h l r m =
    let a = after_is_ok (unless (first (strange bits) 2 127) (λ j. Unknown j (marked_at j)) bits) (λ _. cond (marked bits 1 && eqb (bits % 2 ^ 64) 0) (Err Empty) (Ok bits)) marks h in
    let none = (unless_ok (first (strange bits) 2 127) (λ j. Unknown j (marked_at j)) bits a.0 a.1).0 in
    let off = first_none (strange bits) 2 127 none k l (omega arith) in
    ⊎_elim (λ t. t) (λ f. absurd (both_ways (strange bits k) off (and_from (marked bits k) (not (known table k)) m (ap not f)))) (cases_Bool (known table k))

module _ (bs : List ℕ) (mti bits : ℕ) (es : List Found) (k : ℕ) (w : Whole bs mti bits es) where
  unmarked : known table k ≡ false → (within 2 128 k && marked bits k) ≡ false
  unmarked f =
      ⊎_elim
      (λ m. ⊎_elim
      (λ i. let r = and_parts _ _ i in absurd (both_ways _ f (all_known bits w.marks k w.known_only (leb-true 2 k r.0) (leb-true k 128 r.1) m)))
      (λ o. and_left _ _ o)
      (cases_Bool (within 2 128 k)))
      (λ m. and_right _ _ m)
      (cases_Bool (marked bits k))

  pub found_present : is_some (found_of es k) ≡ (within 2 128 k && marked bits k)
  found_present =
      found_marked table bits (body bits) (drop (body bits) bs) es k w.found
      ∙ ⊎_elim
      (λ t. let r = known_range table 1 k proper_table t in
      (λ i. t i && marked bits k) ∙ sym (ap (λ b. b && marked bits k) (and_from _ _ (le-leb 2 k r.0) (le-leb k 128 r.1))))
      (λ f. (λ i. f i && marked bits k) ∙ sym (unmarked f))
      (cases_Bool (known table k))
