-- An element that was read is the one that the writer would have written there, and the other way round.
use Rattle.std.proofs.Common.{◌≡◌, ℕ, ◌+◌, ◌≤◌, true, leb, List, [], ◌∷◌, ◌++◌, length, take, drop, Some, None, Ok, Option, sym, refl, ap, ◌∙◌, arith}
use Rattle.std.proofs.lemmas.List.{take-append-drop, length-take-le, length-append}
use Rattle.std.proofs.lemmas.Bool.{leb-true, le-leb, eq-eqb, eqb-true, and_parts, cond-true}
use Rattle.elements.specs.declared.fault.ElementFault.TheVariants.{Character}
use Rattle.iso8583.specs.declared.found.Found.{Found}
use Rattle.elements.specs.declared.table.Length.{Length}
use Rattle.elements.specs.declared.table.Length.TheVariants.{Fixed, UpTo}
use Rattle.elements.specs.declared.table.Row.{Row}
use Rattle.iso8583.specs.Reading.{wrong, unless, characters, measured, sized, two_digits}
use Rattle.elements.specs.Table.{admits, fits, within, lead}
use Rattle.elements.specs.Fields.{field, spelled}
use Rattle.iso8583.proofs.Digits.{two_read, two_written, length-spelled}
use Rattle.iso8583.proofs.Outcomes.{never, chosen_ok, unless_ok}
use Rattle.elements.proofs.Rows.{short}
use Rattle.iso8583.proofs.Wrong.{wrong-append, wrong-take}

-- the element e, read at place `at` of a message that goes on with cs
pub record Spelt (l : Length) (row : Row) (at : ℕ) (cs : List ℕ) (e : Found) : Type 0 where
  pub chars : List ℕ
  pub rest : List ℕ
  pub whole : cs ≡ field l chars ++ rest
  pub admitted : admits l (length chars) ≡ true
  pub fitting : wrong (fits row.format) (length chars) 0 chars ≡ None
  pub element : e.element ≡ row.element
  pub starts : e.start + length chars ≡ e.end
  pub ends : e.end ≡ at + length (field l chars)

pub record Counted (row : Row) (start n : ℕ) (cs : List ℕ) (e : Found) : Type 0 where
  pub long : n ≤ length cs
  pub passes : wrong (fits row.format) n start cs ≡ None
  pub is : record { element = row.element; start = start; end = start + n } ≡ e

counted : (row : Row) (at start n : ℕ) (cs : List ℕ) (e : Found) → characters row at start n cs ≡ Ok e → Counted row start n cs e
counted row at start n cs e h =
    let p = chosen_ok _ _ _ e h in
    let q = unless_ok (wrong (fits row.format) n start cs) (λ i. Character row.element i) _ e p.1 in
    record { long = leb-true n (length cs) p.0; passes = q.0; is = q.1 }

module _ (row : Row) (at n : ℕ) (cs : List ℕ) (e : Found) where
  spelt_fixed : Counted row at n cs e → Spelt (Fixed n) row at cs e
  spelt_fixed c =
      let long = length-take-le n cs c.long in
      record {
        chars = take n cs;
        rest = drop n cs;
        whole = sym (take-append-drop n cs);
        admitted = eq-eqb _ n long;
        fitting = ap (λ m. wrong (fits row.format) m 0 (take n cs)) long ∙ wrong-take (fits row.format) n at 0 cs c.passes;
        element = sym (ap (λ f. f.element) c.is);
        starts = omega (arith, long, ap (λ f. f.start) c.is, ap (λ f. f.end) c.is);
        ends = omega (arith, long, ap (λ f. f.end) c.is);
      }

  spelt_varied : (limit a b : ℕ) → two_digits a b ≡ Some n → within 1 limit n ≡ true → Counted row (at + 2) n cs e → Spelt (UpTo limit) row at (a ∷ b ∷ cs) e
  spelt_varied limit a b d w c =
      let long = length-take-le n cs c.long in
      let front : spelled 10 2 (length (take n cs)) ≡ a ∷ b ∷ [] = ap (spelled 10 2) long ∙ two_written a b n d in
      record {
        chars = take n cs;
        rest = drop n cs;
        whole = ap (λ l. a ∷ b ∷ l) (sym (take-append-drop n cs)) ∙ ap (λ l. (l ++ take n cs) ++ drop n cs) (sym front);
        admitted = ap (within 1 limit) long ∙ w;
        fitting = ap (λ m. wrong (fits row.format) m 0 (take n cs)) long ∙ wrong-take (fits row.format) n (at + 2) 0 cs c.passes;
        element = sym (ap (λ f. f.element) c.is);
        starts = omega (arith, long, ap (λ f. f.start) c.is, ap (λ f. f.end) c.is);
        ends = omega (arith, long, ap (λ f. f.end) c.is, ap length front, length-append (spelled 10 2 (length (take n cs))) (take n cs));
      }

spelt_measured : (row : Row) (at limit a b : ℕ) (cs : List ℕ) (e : Found) (o : Option ℕ) → two_digits a b ≡ o → measured o limit row at cs ≡ Ok e → Spelt (UpTo limit) row at (a ∷ b ∷ cs) e
spelt_measured row at limit a b cs e None d h = absurd (never h)
spelt_measured row at limit a b cs e (Some n) d h =
    let p = chosen_ok _ _ _ e h in
    spelt_varied row at n cs e limit a b d p.0 (counted row at (at + 2) n cs e p.1)

pub spelt : (l : Length) (row : Row) (at : ℕ) (cs : List ℕ) (e : Found) → sized l row at cs ≡ Ok e → Spelt l row at cs e
spelt (Fixed n) row at cs e h = spelt_fixed row at n cs e (counted row at at n cs e h)
spelt (UpTo limit) row at [] e h = absurd (never h)
spelt (UpTo limit) row at (a ∷ []) e h = absurd (never h)
spelt (UpTo limit) row at (a ∷ b ∷ cs) e h = spelt_measured row at limit a b cs e (two_digits a b) refl h

-- where an element of n characters is found
abbrev pub found_at : Length → Row → ℕ → ℕ → Found
found_at (Fixed m) row at n = record { element = row.element; start = at; end = at + n }
found_at (UpTo limit) row at n = record { element = row.element; start = at + 2; end = at + 2 + n }

taken : (row : Row) (at start : ℕ) (chars rest : List ℕ) → wrong (fits row.format) (length chars) 0 chars ≡ None → characters row at start (length chars) (chars ++ rest) ≡ Ok (record { element = row.element; start = start; end = start + length chars })
taken row at start chars rest w =
    cond-true _ _ _ (le-leb (length chars) (length (chars ++ rest)) (omega (arith, length-append chars rest)))
    ∙ ap (λ o. unless o (λ i. Character row.element i) (record { element = row.element; start = start; end = start + length chars })) (wrong-append (fits row.format) (length chars) 0 start chars rest (omega arith) w)

pub respelt : (l : Length) (row : Row) (at : ℕ) (chars rest : List ℕ) → short l ≡ true → admits l (length chars) ≡ true → wrong (fits row.format) (length chars) 0 chars ≡ None → sized l row at (field l chars ++ rest) ≡ Ok (found_at l row at (length chars))
unfolding spelled
respelt (Fixed n) row at chars rest s a w =
    let e = eqb-true (length chars) n a in
    ap (λ m. characters row at at m (chars ++ rest)) (sym e) ∙ taken row at at chars rest w
respelt (UpTo limit) row at chars rest s a w =
    let inside = and_parts (leb 1 (length chars)) (leb (length chars) limit) a in
    let n = length chars in
    ap (λ o. measured o limit row at (chars ++ rest)) (two_read n (omega (arith, leb-true n limit inside.1, leb-true limit 99 s)))
    ∙ cond-true _ _ _ a ∙ taken row at (at + 2) chars rest w

-- an element's length digits and characters
pub lead_field : (l : Length) (chars : List ℕ) → length (field l chars) ≡ lead l + length chars
lead_field (Fixed n) chars = omega arith
lead_field (UpTo limit) chars = omega (arith, length-append (spelled 10 2 (length chars)) chars, length-spelled 10 2 (length chars))
