-- The bytes of a reply, read: they say what a reply has to say.
use Rattle.std.proofs.lemmas.Bool.Decides.{nat_tests}
use Rattle.std.proofs.Common.{◌≡◌, ℕ, zero, suc, ◌+◌, ◌/◌, ◌%◌, ◌^◌, ◌<◌, ◌≤◌, Bool, true, false, cond, ◌&&◌, eqb, leb, List, [], ◌∷◌, ◌++◌, map, length, get_or, drop, is_some, Some, None, Ok, Option, sym, refl, ap, ◌∙◌, subst, ⊎_elim, arith}
use Rattle.std.proofs.lemmas.List.{length-append}
use Rattle.std.proofs.lemmas.Bool.{cond-true, cond-false, cases_Bool, cases_eq, eqb-true, both_ways, and_parts, leb-true}
use Rattle.elements.specs.declared.table.Format.{Format}
use Rattle.elements.specs.declared.table.Length.{Length}
use Rattle.elements.specs.declared.table.Length.TheVariants.{Fixed, UpTo}
use Rattle.elements.specs.declared.table.Row.{Row}
use Rattle.elements.specs.Table.{table, blank, admits, fits}
use Rattle.elements.specs.Fields.{field}
use Rattle.elements.proofs.Rows.{proper_table, in_table}
use Rattle.iso8583.specs.Bitmap.{marked}
use Rattle.iso8583.specs.Reading.{after, body, elements}
use Rattle.iso8583.proofs.Elements.{lead_field}
use Rattle.iso8583.proofs.Wholes.{read_whole}
use Rattle.composer.specs.Contents.{item_of, content, content_of}
use Rattle.composer.specs.Writing.{chosen, head, listed}
use Rattle.composer.proofs.Bitmaps.{Sound, sound_marks, bits_below, bits_at}
use Rattle.composer.proofs.Bodies.{Matches, Filled, text, takes_up}
use Rattle.composer.proofs.Heads.{mti_read, bits_read, after_head}
use Rattle.composer.proofs.Lays.{length-head}
use Rattle.composer.proofs.Lows.{some_low}
use Rattle.replies.specs.Replies.{told, said, replied, bitmap, part, fields, reply_type, code_digits, type_of, answer}
use Rattle.replies.proofs.Along.{with_chars, along, Fit, fills, text_along, replied_known, replied_low}
use Rattle.replies.proofs.Allowed.{came_allowed}

-- every format takes digits
digit_fits : (f : Format) (d : ℕ) → d < 10 → fits f (48 + d) ≡ true
digit_fits f d h = grind (arith, nat_tests)

-- a row for the response code has room for two characters
takes_two : Row → Bool
takes_two row = cond (eqb row.element 39) (admits row.length 2) true

all-take_two : List Row → Bool
all-take_two [] = true
all-take_two (row ∷ rows) = takes_two row && all-take_two rows

takes_two_at : (rows : List Row) (j : ℕ) → all-take_two rows ≡ true → j < length rows → takes_two (get_or rows j blank) ≡ true
unfolding all-take_two
takes_two_at [] j t h = absurd (omega arith)
takes_two_at (row ∷ rows) zero t h = (and_parts (takes_two row) (all-take_two rows) t).0
takes_two_at (row ∷ rows) (suc j) t h = takes_two_at rows j (and_parts (takes_two row) (all-take_two rows) t).1 (omega arith)

table_takes_two : all-take_two table ≡ true
unfolding table all-take_two takes_two
table_takes_two = refl

response_admitted : (j : ℕ) → j < length table → eqb (get_or table j blank).element 39 ≡ true → admits (get_or table j blank).length 2 ≡ true
unfolding takes_two
response_admitted j l e = sym (cond-true _ _ _ e) ∙ takes_two_at table j table_takes_two l

response_allowed : (j code : ℕ) → code ≤ 99 → j < length table → eqb (get_or table j blank).element 39 ≡ true → Matches (get_or table j blank) (with_chars (get_or table j blank).element (code_digits code))
response_allowed j code small l e =
    let f = (get_or table j blank).format in
    record {
      number = refl;
      admitted = response_admitted j l e;
      fitting = cond-true _ _ _ (digit_fits f (code / 10) (omega arith)) ∙ cond-true _ _ _ (digit_fits f (code % 10) (omega arith));
    }

-- the most bytes that an element of some length takes, and that those of a reply take together
widest : Length → ℕ
widest (Fixed n) = n
widest (UpTo limit) = 2 + limit

most : List Row → ℕ
most [] = 0
most (row ∷ rows) = cond (listed replied row.element) (widest row.length) 0 + most rows

most_in_table : most table ≡ 72
unfolding table most widest
most_in_table = refl

field_short : (size : Length) (cs : List ℕ) → admits size (length cs) ≡ true → length (field size cs) ≤ widest size
unfolding widest
field_short (Fixed n) cs a = omega (arith, eqb-true (length cs) n a)
field_short (UpTo limit) cs a = omega (arith, lead_field (UpTo limit) cs, leb-true (length cs) limit (and_parts (leb 1 (length cs)) (leb (length cs) limit) a).1)

part_short : (size : Length) (o : Option (List ℕ)) → ((cs : List ℕ) → o ≡ Some cs → admits size (length cs) ≡ true) → length (part size o) ≤ widest size
part_short size None h = omega arith
part_short size (Some cs) h = field_short size cs (h cs refl)

module _ (bs : List ℕ) (code : ℕ) (small : code ≤ 99) where
  abbrev says : ℕ → Option (List ℕ)
  says = said bs code

  abbrev bits : ℕ
  bits = bitmap says

  -- only what is among the nine is there
  unsaid : (k : ℕ) → listed replied k ≡ false → says k ≡ None
  unsaid k f = cond-false _ _ _ f

  there : (k : ℕ) → is_some (says k) ≡ true → listed replied k ≡ true
  there k h = grind (arith, nat_tests)

  bit_at : (k : ℕ) → 1 ≤ k → k ≤ 128 → marked bits k ≡ is_some (says k)
  unfolding bitmap
  bit_at k l h = bits_at (λ i. is_some (says i)) 128 k l h

  no_second : marked bits 1 ≡ false
  no_second = bit_at 1 (omega arith) (omega arith)

  sound : Sound bits
  unfolding bitmap
  sound = record {
    small = bits_below (λ i. is_some (says i)) 128;
    all_known = λ k l h m. replied_known k (there k (sym (bit_at k (omega arith) h) ∙ m));
    second = λ m e. both_ways _ no_second m;
    single = λ _. ⊎_elim (λ z. z)
        (λ n. let k = some_low bits n in
        absurd (let low = replied_low k.0 (there k.0 (sym (bit_at k.0 (omega (arith, k.1)) k.2) ∙ k.3)) in omega (arith, k.1)))
        (cases_eq (bits % 2 ^ 64) 0);
  }

  -- the table allows what is said
  said_allowed : (j : ℕ) (cs : List ℕ) → j < length table → says (get_or table j blank).element ≡ Some cs → Matches (get_or table j blank) (with_chars (get_or table j blank).element cs)
  said_allowed j cs l h =
      let row = get_or table j blank in
      let k = row.element in
      let named = there k (ap is_some h) in
      let told_so : told bs code k ≡ Some cs = sym (cond-true _ _ _ named) ∙ h in
      ⊎_elim
      (λ t. let both : Some (code_digits code) ≡ Some cs = sym (cond-true _ _ _ t) ∙ told_so in
      let same : code_digits code ≡ cs = cc in
      subst (λ c. Matches row (with_chars k c)) same (response_allowed j code small l t))
      (λ f. came_allowed bs j cs l (sym (cond-false _ _ _ f) ∙ told_so))
      (cases_Bool (eqb k 39))

  fit : (j : ℕ) → j < length table → Fit bits says (get_or table j blank)
  fit j l =
      let r = in_table j blank l in
      record { mark = bit_at (get_or table j blank).element (omega (arith, r.0)) r.1; allowed = λ cs h. said_allowed j cs l h }

  filled : Filled (chosen table bits) (along table says)
  filled = fills bits says table fit

  -- what a reader makes of the bytes
  pub answer_says : reply_type (type_of bs) ≤ 9999 → content_of (answer bs code) ≡ Ok (content (reply_type (type_of bs)) (along table says))
  unfolding answer
  answer_says four =
      let mti = reply_type (type_of bs) in
      let is = along table says in
      let t = text (chosen table bits) is in
      let w = head mti bits ++ t in
      let u = takes_up table 1 bits (head mti bits) is proper_table filled in
      let found : elements table bits (body bits) (drop (body bits) w) ≡ Ok u.found = (λ j. elements table bits (sym (length-head mti bits) j) (after_head mti bits t four sound j)) ∙ u.all in
      let r = read_whole w mti bits bits (sym (mti_read mti bits t four sound)) (sym (bits_read mti bits t four sound)) (sym (sound_marks bits sound)) u.found found in
      ap (λ l. content_of (head mti bits ++ l)) (sym (text_along bits says table fit))
      ∙ ap (λ p. after p (λ q. Ok (content q.mti (map (item_of w) q.elements)))) r ∙ ap (λ x. Ok (content mti x)) u.same

  fields_short : (rows : List Row) → ((j : ℕ) → j < length rows → Fit bits says (get_or rows j blank)) → length (fields rows says) ≤ most rows
  unfolding most
  fields_short [] f = omega arith
  fields_short (row ∷ rows) f =
      let k = row.element in
      let whole = length-append (part row.length (says k)) (fields rows says) in
      let later = fields_short rows (λ j h. f (suc j) (omega arith)) in
      let here = part_short row.length (says k) (λ cs h. ((f 0 (omega arith)).allowed cs h).admitted) in
      ⊎_elim
      (λ t. let w = cond-true (listed replied k) (widest row.length) 0 t in omega arith)
      (λ n. let none : length (part row.length (says k)) ≡ 0 = ap (λ o. length (part row.length o)) (unsaid k n) in omega arith)
      (cases_Bool (listed replied k))

  -- type and bitmap take 20 bytes, the elements 72 at most
  pub answer_short : length (answer bs code) ≤ 92
  unfolding answer
  answer_short =
      let mti = reply_type (type_of bs) in
      let front : length (head mti bits) ≡ 20 = length-head mti bits ∙ cond-false _ 36 20 no_second in
      omega (arith, length-append (head mti bits) (fields table says), fields_short table fit, most_in_table)
