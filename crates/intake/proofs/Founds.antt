-- An element that was found in a message is as its row of the table says, and stands behind the bitmaps.
use Rattle.std.proofs.Common.{◌≡◌, ℕ, ◌+◌, ◌-◌, ◌≤◌, Bool, true, false, cond, eqb, List, [], ◌∷◌, ◌++◌, length, take, drop, is_some, Some, None, Ok, sym, refl, ap, ◌∙◌, subst, ⊎_elim, append_assoc, arith}
use mathlib.Core.Logic.{∥∥₁_elim}
use native.Mathlib.Bridge.{le_prop}
use base.Stored.{coded_bool}
use denote.Struct.Props.{≡_prop}
use Rattle.std.specs.List.{between}
use Rattle.std.proofs.lemmas.List.{length-append, length-take-le, take_at, drop_at, take-append-drop}
use Rattle.std.proofs.lemmas.Bool.{cond-true, cond-false, cond_both, cases_Bool, eqb-true, both_ways, and_from, and_right}
use Rattle.elements.specs.declared.table.Length.{Length}
use Rattle.elements.specs.declared.table.Length.TheVariants.{Fixed, UpTo}
use Rattle.elements.specs.declared.table.Row.{Row}
use Rattle.elements.specs.Fields.{field, spelled}
use Rattle.elements.specs.Table.{table, known, fits}
use Rattle.iso8583.specs.declared.found.Found.{Found}
use Rattle.iso8583.specs.declared.message.Message.{Message}
use Rattle.iso8583.specs.Bitmap.{marked}
use Rattle.iso8583.specs.Messages.{found_of, parts_of}
use Rattle.iso8583.specs.Reading.{wrong, body, elements, reading}
use Rattle.iso8583.proofs.Elements.{Spelt}
use Rattle.iso8583.proofs.Outcomes.{never, same_ok}
use Rattle.iso8583.proofs.Presence.{taken_apart, found_marked}
use Rattle.iso8583.proofs.Tiles.{Stepped, stepped}
use Rattle.iso8583.proofs.Wholes.{bits_long}
use Rattle.iso8583.proofs.Wrong.{passed}
use Rattle.intake.specs.Conforms.{row_of, every, conforms}
use Rattle.intake.specs.Orders.{elements_of, text_of}

every_from_wrong : (good : ℕ → Bool) (cs : List ℕ) (i : ℕ) → wrong good (length cs) i cs ≡ None → every good cs ≡ true
every_from_wrong good [] i w = refl
every_from_wrong good (c ∷ cs) i w = let p = passed (good c) i w in and_from _ _ p.0 (every_from_wrong good cs (i + 1) p.1)

absent : {A : Type 0} {a : A} → None ≡ Some a → ⊥
absent {A} {a} h = let z : ◌≡◌ {A = ℕ} 0 1 = cc in omega arith

-- the length digits before an element
abbrev digits_before : Length → List ℕ → List ℕ
digits_before (Fixed n) cs = []
digits_before (UpTo n) cs = spelled 10 2 (length cs)

field_is : (l : Length) (cs : List ℕ) → field l cs ≡ digits_before l cs ++ cs
field_is (Fixed n) cs = refl
field_is (UpTo n) cs = refl

-- a part in the middle
middle : (a b c : List ℕ) (s e : ℕ) → s ≡ length a → e ≡ s + length b → between s e (a ++ (b ++ c)) ≡ b
middle a b c s e p q =
    let n : e - s ≡ length b = omega arith in
    (λ j. take (n j) (drop s (a ++ (b ++ c)))) ∙ ap (take (length b)) (drop_at a (b ++ c) s (sym p)) ∙ take_at b c (length b) refl

-- the characters from start to end are those that were read
module _ (row : Row) (pre cs : List ℕ) (e : Found) (s : Spelt row.length row (length pre) cs e) where
  abbrev lead : List ℕ
  lead = digits_before row.length s.chars

  long : length (field row.length s.chars) ≡ length lead + length s.chars
  long = ap length (field_is row.length s.chars) ∙ length-append lead s.chars

  spelt_chars : between e.start e.end (pre ++ cs) ≡ s.chars
  spelt_chars =
      let pushed = length-append pre lead in
      ap (λ l. between e.start e.end (pre ++ l)) (s.whole ∙ ap (λ l. l ++ s.rest) (field_is row.length s.chars) ∙ append_assoc lead s.chars s.rest)
      ∙ ap (between e.start e.end) (sym (append_assoc pre lead (s.chars ++ s.rest)))
      ∙ middle (pre ++ lead) s.chars s.rest e.start e.end (omega (arith, long, s.starts, s.ends)) (sym s.starts)

  spelt_conforms : conforms row (between e.start e.end (pre ++ cs)) ≡ true
  spelt_conforms = ap (conforms row) spelt_chars ∙ and_from _ _ s.admitted (every_from_wrong (fits row.format) s.chars 0 s.fitting)

  spelt_behind : length pre ≤ e.start
  spelt_behind = omega (arith, long, s.starts, s.ends)

  next_starts : e.end ≡ length (pre ++ field row.length s.chars)
  next_starts = s.ends ∙ sym (length-append pre (field row.length s.chars))

  next_rest : pre ++ cs ≡ (pre ++ field row.length s.chars) ++ s.rest
  next_rest = ap (λ l. pre ++ l) s.whole ∙ sym (append_assoc pre (field row.length s.chars) s.rest)

pub record Sound (rows : List Row) (at k : ℕ) (bs : List ℕ) (f : Found) : Type 0 where
  pub conforming : conforms (row_of rows k) (between f.start f.end bs) ≡ true
  pub behind : at ≤ f.start

abbrev RowsSound : List Row → Type 0
RowsSound rows =
    (bits k : ℕ) (pre cs bs : List ℕ) (es : List Found) (f : Found) → bs ≡ pre ++ cs → elements rows bits (length pre) cs ≡ Ok es → found_of es k ≡ Some f → Sound rows (length pre) k bs f

module _ (row : Row) (rows : List Row) (on : RowsSound rows) (bits k : ℕ) (pre cs bs : List ℕ) (es : List Found) (f : Found) (b : bs ≡ pre ++ cs) where
  -- the row is marked
  marked_sound : Stepped row rows bits (length pre) cs es → found_of es k ≡ Some f → Sound (row ∷ rows) (length pre) k bs f
  marked_sound s h =
      let t = s.spelled in
      let e = s.first in
      let here : cond (eqb row.element k) (Some e) (found_of s.others k) ≡ Some f =
      ap (λ n. cond (eqb n k) (Some e) (found_of s.others k)) (sym t.element) ∙ ap (λ l. found_of l k) s.all ∙ h in
      ⊎_elim
      (λ y.
      let same : e ≡ f = let q : Some e ≡ Some f = sym (cond-true _ _ _ y) ∙ here in cc in
      record {
        conforming =
            ap (λ r. conforms r (between f.start f.end bs)) (cond-true _ row (row_of rows k) y)
            ∙ (λ j. conforms row (between (sym same j).start (sym same j).end (b j))) ∙ spelt_conforms row pre cs e t;
        behind = omega (arith, spelt_behind row pre cs e t, ap (λ x. x.start) same);
      })
      (λ n.
      let next = next_starts row pre cs e t in
      let r = on bits k (pre ++ field row.length t.chars) t.rest bs s.others f (b ∙ next_rest row pre cs e t) (ap (λ a. elements rows bits a t.rest) (sym next) ∙ s.on) (sym (cond-false _ _ _ n) ∙ here) in
      record {
        conforming = ap (λ q. conforms q (between f.start f.end bs)) (cond-false _ row (row_of rows k) n) ∙ r.conforming;
        behind = omega (arith, r.behind, spelt_behind row pre cs e t, t.starts, next);
      })
      (cases_Bool (eqb row.element k))

  -- it is not, and so the element is that of another row
  unmarked_sound : marked bits row.element ≡ false → elements rows bits (length pre) cs ≡ Ok es → found_of es k ≡ Some f → Sound (row ∷ rows) (length pre) k bs f
  unmarked_sound m h e =
      ⊎_elim
      (λ y.
      let off : marked bits k ≡ false = ap (marked bits) (sym (eqb-true row.element k y)) ∙ m in
      let none : is_some (found_of es k) ≡ false = found_marked rows bits (length pre) cs es k h ∙ and_right (known rows k) (marked bits k) off in
      absurd (both_ways (is_some (found_of es k)) none (ap is_some e)))
      (λ n.
      let r = on bits k pre cs bs es f b h e in
      record { conforming = ap (λ q. conforms q (between f.start f.end bs)) (cond-false _ row (row_of rows k) n) ∙ r.conforming; behind = r.behind })
      (cases_Bool (eqb row.element k))

found_sound : (rows : List Row) → RowsSound rows
found_sound [] bits k pre [] bs es f b h e = absurd (absent (ap (λ l. found_of l k) (same_ok h) ∙ e))
found_sound [] bits k pre (c ∷ cs) bs es f b h e = absurd (never h)
found_sound (row ∷ rows) bits k pre cs bs es f b h e =
    ⊎_elim
    (λ m. marked_sound row rows (found_sound rows) bits k pre cs bs es f b (stepped row rows bits (length pre) cs es m h) e)
    (λ m. unmarked_sound row rows (found_sound rows) bits k pre cs bs es f b m (sym (cond-false _ _ _ m) ∙ h) e)
    (cases_Bool (marked bits row.element))

body_least : (bits : ℕ) → 20 ≤ body bits
body_least bits = cond_both (marked bits 1) 36 20 (λ n. 20 ≤ n) (λ m. omega arith) (λ m. omega arith)

-- in a whole message
module _ (m : Message) (k : ℕ) (f : Found) (e : found_of (elements_of m) k ≡ Some f) where
  sound_if : reading (text_of m) ≡ Ok (parts_of m) → Sound table (body m.layout.bitmap) k (text_of m) f
  sound_if h =
      let bs = text_of m in
      let bits = m.layout.bitmap in
      let w = taken_apart bs m.layout.mti bits (elements_of m) h in
      let n : length (take (body bits) bs) ≡ body bits = length-take-le (body bits) bs (bits_long bs bits w.mapped) in
      subst (λ a. Sound table a k bs f) n
      (found_sound table bits k (take (body bits) bs) (drop (body bits) bs) bs (elements_of m) f (sym (take-append-drop (body bits) bs))
      (ap (λ a. elements table bits a (drop (body bits) bs)) n ∙ w.found) e)

  pub found_conforms : conforms (row_of table k) (between f.start f.end (text_of m)) ≡ true
  found_conforms = ∥∥₁_elim m.whole (≡_prop coded_bool _ _) (λ h. (sound_if h).conforming)

  pub found_behind : 20 ≤ f.start
  found_behind = ∥∥₁_elim m.whole le_prop (λ h. omega (arith, (sound_if h).behind, body_least m.layout.bitmap))
