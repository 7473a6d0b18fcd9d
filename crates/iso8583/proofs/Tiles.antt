-- The elements of a message that was read lie in it without gap.
use Rattle.std.proofs.Common.{◌≡◌, ℕ, ◌+◌, ◌-◌, ◌<◌, ◌≤◌, true, eqb, List, [], ◌∷◌, length, drop, Some, Ok, Err, Result, sym, refl, ap, ◌∙◌, subst, ⊎_elim, arith}
use Rattle.std.proofs.lemmas.List.{length-append, length-drop, drop_at}
use Rattle.std.proofs.lemmas.Bool.{cond-true, cond-false, eq-eqb, eqb-true, ne_eqb, cases_Bool}
use Rattle.elements.specs.declared.fault.ElementFault.{ElementFault}
use Rattle.iso8583.specs.declared.found.Found.{Found}
use Rattle.elements.specs.declared.table.Length.{Length}
use Rattle.elements.specs.declared.table.Row.{Row}
use Rattle.iso8583.specs.Bitmap.{marked}
use Rattle.iso8583.specs.Messages.{found_of}
use Rattle.iso8583.specs.Reading.{before, lifted, element_at, elements, body}
use Rattle.elements.specs.Table.{table, lead}
use Rattle.iso8583.specs.Tiled.{Tiled, lead_of}
use Rattle.elements.specs.Fields.{field}
use Rattle.iso8583.proofs.Elements.{Spelt, spelt, lead_field}
use Rattle.iso8583.proofs.Outcomes.{never, same_ok, after_is_ok}
use Rattle.elements.proofs.Rows.{proper, proper_first, proper_table}

lifted_ok : (r : Result Found ElementFault) (e : Found) → lifted r ≡ Ok e → r ≡ Ok e
lifted_ok (Ok a) e h = ap (λ x. Ok x) (same_ok h)
lifted_ok (Err f) e h = absurd (never h)

before_ok : {A F : Type 0} (x : A) (r : Result (List A) F) (es : List A) → before x r ≡ Ok es → (fs : List A) × (r ≡ Ok fs) × (x ∷ fs ≡ es)
before_ok x (Ok fs) es h = (fs, refl, same_ok h)
before_ok x (Err f) es h = absurd (never h)

-- a marked row: the element, and those after it
pub record Stepped (row : Row) (rows : List Row) (bits at : ℕ) (cs : List ℕ) (es : List Found) : Type 0 where
  pub first : Found
  pub others : List Found
  pub all : first ∷ others ≡ es
  pub spelled : Spelt row.length row at cs first
  pub on : elements rows bits first.end spelled.rest ≡ Ok others

-- what is left after an element
left_over : (l : Length) (row : Row) (at : ℕ) (cs : List ℕ) (e : Found) (s : Spelt l row at cs e) → drop (e.end - at) cs ≡ s.rest
left_over l row at cs e s =
    let n : e.end - at ≡ length (field l s.chars) = omega (arith, s.ends) in
    (λ i. drop (n i) (s.whole i)) ∙ drop_at (field l s.chars) s.rest _ refl

pub stepped : (row : Row) (rows : List Row) (bits at : ℕ) (cs : List ℕ) (es : List Found) → marked bits row.element ≡ true → elements (row ∷ rows) bits at cs ≡ Ok es → Stepped row rows bits at cs es
stepped row rows bits at cs es m h =
    let a = after_is_ok (element_at row at cs) (λ e. before e (elements rows bits e.end (drop (e.end - at) cs))) es (sym (cond-true _ _ _ m) ∙ h) in
    let e = a.0 in
    let b = before_ok e (elements rows bits e.end (drop (e.end - at) cs)) es a.2 in
    let s = spelt row.length row at cs e (lifted_ok _ e a.1) in
    record {
      first = e;
      others = b.0;
      all = b.2;
      spelled = s;
      on = ap (elements rows bits e.end) (sym (left_over row.length row at cs e s)) ∙ b.1;
    }

-- the rows are the table's, as far as elements above `low` go
abbrev Above : ℕ → List Row → Type 0
Above low rows = (k : ℕ) → low < k → lead_of rows k ≡ lead_of table k

above_next : (low : ℕ) (row : Row) (rows : List Row) → low < row.element → Above low (row ∷ rows) → Above row.element rows
above_next low row rows l a k h = sym (cond-false _ _ _ (ne_eqb row.element k (λ e. omega arith))) ∙ a k (omega arith)

below_more : (at low high : ℕ) (es : List Found) (end : ℕ) → low < high → Tiled at high es end → Tiled at low es end
below_more at low high [] end h t = t
below_more at low high (e ∷ es) end h t = (omega (arith, t.0), t.1, t.2, t.3)

pub tiles : (rows : List Row) (low bits at : ℕ) (cs : List ℕ) (es : List Found) → proper low rows ≡ true → Above low rows → elements rows bits at cs ≡ Ok es → Tiled at low es (at + length cs)
tiles [] low bits at [] es p a h = subst (λ l. Tiled at low l (at + 0)) (same_ok h) (omega arith)
tiles [] low bits at (c ∷ cs) es p a h = absurd (never h)
tiles (row ∷ rows) low bits at cs es p a h =
    let q = proper_first low row rows p in
    let next = above_next low row rows q.above a in
    ⊎_elim
    (λ m.
    let s = stepped row rows bits at cs es m h in
    let e = s.first in
    let t = s.spelled in
    let t_long = ap length t.whole ∙ length-append (field row.length t.chars) t.rest in
    let lf = lead_field row.length t.chars in
    let rest = tiles rows row.element bits e.end t.rest s.others q.others next s.on in
    let led : lead_of table e.element ≡ lead row.length = ap (lead_of table) t.element ∙ sym (a row.element q.above) ∙ cond-true _ _ _ (eq-eqb row.element row.element refl) in
    let end : e.end + length t.rest ≡ at + length cs = omega (arith, t.ends) in
    subst (λ l. Tiled at low l (at + length cs)) s.all
    (omega (arith, t.element, q.above), omega (arith, t.starts, t.ends), omega (arith, t.starts), subst (λ k. Tiled e.end k s.others (at + length cs)) (sym t.element) (subst (Tiled e.end row.element s.others) end rest)))
    (λ m. below_more at low row.element es (at + length cs) q.above (tiles rows row.element bits at cs es q.others next (sym (cond-false _ _ _ m) ∙ h)))
    (cases_Bool (marked bits row.element))

-- the elements of a whole message
pub tiled : (bits : ℕ) (bs : List ℕ) (es : List Found) → body bits ≤ length bs → elements table bits (body bits) (drop (body bits) bs) ≡ Ok es → Tiled (body bits) 1 es (length bs)
tiled bits bs es l h =
    let end : body bits + length (drop (body bits) bs) ≡ length bs = omega (arith, length-drop (body bits) bs) in
    subst (Tiled (body bits) 1 es) end (tiles table 1 bits (body bits) (drop (body bits) bs) es proper_table (λ k h. refl) h)

-- a tiling does not go back
reaches : (es : List Found) (at low end : ℕ) → Tiled at low es end → at ≤ end
reaches [] at low end t = omega arith
reaches (e ∷ es) at low end t = let r = reaches es e.end e.element end t.3 in omega (arith, t.1, t.2)

-- what is found in a tiling has its number, and lies inside
pub record Inside (k end : ℕ) (f : Found) : Type 0 where
  pub number : f.element ≡ k
  pub forward : f.start ≤ f.end
  pub within : f.end ≤ end

pub inside : (es : List Found) (at low end k : ℕ) (f : Found) → Tiled at low es end → Some f ≡ found_of es k → Inside k end f
inside [] at low end k f t h = absurd (let z : ◌≡◌ {A = ℕ} 0 1 = cc in omega arith)
inside (e ∷ es) at low end k f t h =
    ⊎_elim
    (λ s.
    let here : Some f ≡ Some e = h ∙ cond-true _ _ _ s in
    let is : f ≡ e = cc in
    subst (Inside k end) (sym is) (record { number = eqb-true e.element k s; forward = t.2; within = reaches es e.end e.element end t.3 }))
    (λ n. inside es e.end e.element end k f t.3 (h ∙ cond-false _ _ _ n))
    (cases_Bool (eqb e.element k))
