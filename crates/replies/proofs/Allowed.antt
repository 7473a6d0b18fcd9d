-- The table allows every element of a reply.
use Rattle.std.proofs.lemmas.Bool.Decides.{nat_tests}
use Rattle.std.proofs.Common.{◌≡◌, ℕ, zero, suc, ◌<◌, ◌≤◌, true, List, [], ◌∷◌, map, length, get_or, drop, Some, None, Ok, Err, Option, Result, sym, refl, ap, ◌∙◌, subst, ⊎_elim, arith}
use Rattle.std.proofs.lemmas.Bool.{cond-true, cond-false, cases_Bool, ne_eqb}
use Rattle.elements.specs.declared.fault.MessageFault.{MessageFault}
use Rattle.elements.specs.declared.table.Row.{Row}
use Rattle.elements.specs.Table.{table, blank}
use Rattle.elements.proofs.Rows.{proper, proper_first, proper_table, in_range}
use Rattle.iso8583.specs.declared.found.Found.{Found}
use Rattle.iso8583.specs.Bitmap.{marked}
use Rattle.iso8583.specs.Reading.{Parts, after, body, elements, reading}
use Rattle.iso8583.proofs.Presence.{Whole, taken_apart}
use Rattle.composer.specs.Contents.{Item, item_of, content}
use Rattle.composer.specs.Writing.{chosen, head}
use Rattle.composer.proofs.Bodies.{Matches, Filled, puts_down}
use Rattle.composer.proofs.Heads.{headed}
use Rattle.composer.proofs.Lays.{length-head}
use Rattle.replies.specs.Replies.{chars_in, chars_of, came}
use Rattle.replies.proofs.Along.{with_chars}

-- the first row of several, marked or not
pub record Opened (row : Row) (rows : List Row) (bits : ℕ) (is : List Item) : Type 0 where
  pub first : Item
  pub others : List Item
  pub all : first ∷ others ≡ is
  pub allowed : Matches row first
  pub filled : Filled (chosen rows bits) others

opened : (row : Row) (rows : List Row) (bits : ℕ) (is : List Item) → marked bits row.element ≡ true → Filled (chosen (row ∷ rows) bits) is → Opened row rows bits is
opened row rows bits is m f = taken is (subst (λ rs. Filled rs is) (cond-true _ _ _ m) f)
  where
    taken : (is' : List Item) → Filled (row ∷ chosen rows bits) is' → Opened row rows bits is'
    taken [] g = absurd g
    taken (i ∷ is') g = record { first = i; others = is'; all = refl; allowed = g.0; filled = g.1 }

-- an element that only earlier rows have is not there
absent : (rows : List Row) (low bits k : ℕ) (is : List Item) → proper low rows ≡ true → Filled (chosen rows bits) is → k ≤ low → chars_of is k ≡ None
absent [] low bits k [] p f l = refl
absent [] low bits k (i ∷ is) p f l = absurd f
absent (row ∷ rows) low bits k is p f l =
    let q = proper_first low row rows p in
    ⊎_elim
    (λ m. let o = opened row rows bits is m f in
    ap (λ x. chars_of x k) (sym o.all)
    ∙ cond-false _ _ _ (ne_eqb o.first.number k (λ e. omega (arith, q.above, o.allowed.number)))
    ∙ absent rows row.element bits k o.others q.others o.filled (omega (arith, q.above)))
    (λ m. absent rows row.element bits k is q.others (subst (λ rs. Filled rs is) (cond-false _ _ _ m) f) (omega (arith, q.above)))
    (cases_Bool (marked bits row.element))

never_some : {A : Type 0} {x : A} {o : Option A} → o ≡ None → o ≡ Some x → ⊥
never_some {A} {x} {o} p q = let z : ◌≡◌ {A = ℕ} 0 1 = cc in omega arith

-- the first row's element is there with characters that the row allows
first_allowed : (row : Row) (i : Item) (is : List Item) (cs : List ℕ) → Matches row i → chars_of (i ∷ is) row.element ≡ Some cs → Matches row (with_chars row.element cs)
first_allowed row i is cs m h = grind (arith, nat_tests)

-- elements that were put for rows are there with characters that the rows allow
matched : (rows : List Row) (low bits : ℕ) (is : List Item) → proper low rows ≡ true → Filled (chosen rows bits) is → (j : ℕ) (cs : List ℕ) → j < length rows → chars_of is (get_or rows j blank).element ≡ Some cs → Matches (get_or rows j blank) (with_chars (get_or rows j blank).element cs)
matched [] low bits is p f j cs l h = absurd (omega arith)
matched (row ∷ rows) low bits is p f zero cs l h =
    let q = proper_first low row rows p in
    ⊎_elim
    (λ m. let o = opened row rows bits is m f in first_allowed row o.first o.others cs o.allowed (ap (λ x. chars_of x row.element) o.all ∙ h))
    (λ m. absurd (never_some (absent rows row.element bits row.element is q.others (subst (λ rs. Filled rs is) (cond-false _ _ _ m) f) (omega arith)) h))
    (cases_Bool (marked bits row.element))
matched (row ∷ rows) low bits is p f (suc j) cs l h =
    let q = proper_first low row rows p in
    let k = (get_or rows j blank).element in
    let above = (in_range row.element rows j blank q.others (omega arith)).0 in
    ⊎_elim
    (λ m. let o = opened row rows bits is m f in
    let later : chars_of (o.first ∷ o.others) k ≡ chars_of o.others k = cond-false _ _ _ (ne_eqb o.first.number k (λ e. omega (arith, o.allowed.number))) in
    matched rows row.element bits o.others q.others o.filled j cs (omega arith) (sym later ∙ ap (λ x. chars_of x k) o.all ∙ h))
    (λ m. matched rows row.element bits is q.others (subst (λ rs. Filled rs is) (cond-false _ _ _ m) f) j cs (omega arith) h)
    (cases_Bool (marked bits row.element))

-- the elements of a message are put for the rows that it marks
read_filled : (bs : List ℕ) (mti bits : ℕ) (es : List Found) → Whole bs mti bits es → Filled (chosen table bits) (map (item_of bs) es)
read_filled bs mti bits es w =
    let hd = headed bs mti bits w.typed w.mapped in
    let cs = drop (body bits) bs in
    let d = puts_down table bits (head mti bits) cs es (ap (λ n. elements table bits n cs) (length-head mti bits) ∙ w.found) in
    subst (λ l. Filled (chosen table bits) (map (item_of l) es)) hd.whole d.filled

-- an element that came is one that the table allows
module _ (bs : List ℕ) (j : ℕ) (cs : List ℕ) (l : j < length table) where
  abbrev in_row : Row
  in_row = get_or table j blank

  by_reading : (r : Result Parts MessageFault) → reading bs ≡ r → chars_in (after r (λ p. Ok (content p.mti (map (item_of bs) p.elements)))) in_row.element ≡ Some cs → Matches in_row (with_chars in_row.element cs)
  by_reading (Ok p) e h = matched table 1 p.bits (map (item_of bs) p.elements) proper_table (read_filled bs p.mti p.bits p.elements (taken_apart bs p.mti p.bits p.elements e)) j cs l h
  by_reading (Err f) e h = absurd (never_some refl h)

  pub came_allowed : came bs in_row.element ≡ Some cs → Matches in_row (with_chars in_row.element cs)
  unfolding came
  came_allowed h = by_reading (reading bs) refl h
