-- The elements of a message as text: what the writer puts down, and what the reader takes up.
use Rattle.std.proofs.lemmas.Grind.{common_steps}
use Rattle.std.proofs.lemmas.Bool.Decides.{nat_tests}
use Rattle.std.proofs.Common.{◌≡◌, ℕ, ◌+◌, ◌-◌, ◌≤◌, true, List, [], ◌∷◌, ◌++◌, map, length, drop, None, Ok, Err, Result, sym, refl, ap, ◌∙◌, subst, ⊎_elim, append_assoc, arith, rules}
use Rattle.std.specs.List.{between}
use Rattle.std.proofs.lemmas.List.{length-append, drop_at, places, same_lists}
use Rattle.std.proofs.lemmas.Bool.{cond-true, cond-false, cases_Bool}
use Rattle.elements.specs.declared.fault.ElementFault.{ElementFault}
use Rattle.elements.specs.declared.fault.MessageFault.{MessageFault}
use Rattle.iso8583.specs.declared.found.Found.{Found}
use Rattle.elements.specs.declared.table.Length.{Length as Lengths}
use Rattle.elements.specs.declared.table.Length.TheVariants.{Fixed, UpTo}
use Rattle.elements.specs.declared.table.Row.{Row}
use Rattle.iso8583.specs.Bitmap.{marked}
use Rattle.composer.specs.Contents.{Item, item_of, Composed, on, all_put}
use Rattle.iso8583.specs.Reading.{after, before, lifted, wrong, elements}
use Rattle.elements.specs.Table.{admits, fits}
use Rattle.elements.specs.Fields.{field, spelled}
use Rattle.composer.specs.Writing.{State, laid, grown, chosen, next_is, putting}
use Rattle.iso8583.proofs.Digits.{length-spelled}
use Rattle.iso8583.proofs.Elements.{Spelt, found_at, respelt}
use Rattle.composer.proofs.Lays.{laid_next, length-laid}
use Rattle.iso8583.proofs.Outcomes.{never, same_ok}
use Rattle.elements.proofs.Rows.{proper, proper_first, short}
use Rattle.iso8583.proofs.Tiles.{stepped}

-- the elements' text
abbrev pub text : List Row → List Item → List ℕ
text [] is = []
text (r ∷ rs) [] = []
text (r ∷ rs) (i ∷ is) = field r.length i.chars ++ text rs is

-- an element that the table allows
pub record Matches (row : Row) (i : Item) : Type 0 where
  pub number : i.number ≡ row.element
  pub admitted : admits row.length (length i.chars) ≡ true
  pub fitting : wrong (fits row.format) (length i.chars) 0 i.chars ≡ None

-- one for each row
abbrev pub Filled : List Row → List Item → Type 0
Filled [] [] = Unit {0}
Filled [] (i ∷ is) = ⊥
Filled (r ∷ rs) [] = ⊥
Filled (r ∷ rs) (i ∷ is) = Matches r i × Filled rs is

laid_nothing : (out : List ℕ) (at : ℕ) → out ≡ laid out at []
laid_nothing out at = same_lists _ _ (search (rules, places)) (λ k d l. grind (arith, places))

-- a step that was taken
pub on_ok : (r : Result State MessageFault) (out : List ℕ) (next : State → Composed) (n : ℕ) → (on r out next).answer ≡ Ok n → (s : State) × (r ≡ Ok s) × (on r out next ≡ next s)
on_ok (Ok s) out next n h = (s, refl, refl)
on_ok (Err f) out next n h = absurd (never h)

lifted_ok : {A : Type 0} (r : Result A ElementFault) (a : A) → lifted r ≡ Ok a → r ≡ Ok a
lifted_ok (Ok b) a h = ap (λ x. Ok x) (same_ok h)
lifted_ok (Err f) a h = absurd (never h)

pub record Went (out : List ℕ) (used : ℕ) (row : Row) (rest : List Row) (i : Item) (s : State) : Type 0 where
  pub allowed : Matches row i
  pub room : used + length (field row.length i.chars) ≤ length out
  pub is : grown out used (field row.length i.chars) rest ≡ s

went : (out : List ℕ) (used : ℕ) (row : Row) (rest : List Row) (i : Item) (s : State) → next_is out used (row ∷ rest) i.number i.chars ≡ Ok s → Went out used row rest i s
went out used row rest i s h = grind (arith, nat_tests)

-- a composed message is the text of its elements
pub record Ran (out : List ℕ) (used : ℕ) (rows : List Row) (is : List Item) (n : ℕ) (c : Composed) : Type 0 where
  pub filled : Filled rows is
  pub long : n ≡ used + length (text rows is)
  pub room : n ≤ length out
  pub written : c.out ≡ laid out used (text rows is)

pub ran : (rows : List Row) (is : List Item) (out : List ℕ) (used n : ℕ) → used ≤ length out → (all_put (record { out = out; used = used; rest = rows }) is).answer ≡ Ok n → Ran out used rows is n (all_put (record { out = out; used = used; rest = rows }) is)
ran [] [] out used n l h = let e : used ≡ n = same_ok h in record { filled = tt; long = omega arith; room = omega arith; written = laid_nothing out used }
ran (row ∷ rows) [] out used n l h = absurd (never h)
ran [] (i ∷ is) out used n l h = absurd (never h)
ran (row ∷ rows) (i ∷ is) out used n l h =
    let s : State = record { out = out; used = used; rest = row ∷ rows } in
    let a = on_ok (putting s i.number i.chars) out (λ t. all_put t is) n h in
    let w = went out used row rows i a.0 a.1 in
    let f = field row.length i.chars in
    let goes : all_put s (i ∷ is) ≡ all_put (grown out used f rows) is = a.2 ∙ ap (λ t. all_put t is) (sym w.is) in
    let keeps = length-laid out used f w.room in
    let r = ran rows is (laid out used f) (used + length f) n (omega (arith, w.room)) (sym (ap (λ c. c.answer) goes) ∙ h) in
    let whole = length-append f (text rows is) in
    record {
      filled = (w.allowed, r.filled);
      long = omega (arith, r.long);
      room = omega (arith, r.room);
      written = ap (λ c. c.out) goes ∙ r.written ∙ laid_next out used (used + length f) f (text rows is) refl (omega (arith, r.long, r.room));
    }

-- elements that the table allows are put down, if there is room
putting_filled : (out : List ℕ) (used : ℕ) (row : Row) (rest : List Row) (i : Item) → Matches row i → used + length (field row.length i.chars) ≤ length out → next_is out used (row ∷ rest) i.number i.chars ≡ Ok (grown out used (field row.length i.chars) rest)
putting_filled out used row rest i m h = grind (arith, nat_tests)

pub runs : (rows : List Row) (is : List Item) (out : List ℕ) (used : ℕ) → Filled rows is → used + length (text rows is) ≤ length out → all_put (record { out = out; used = used; rest = rows }) is ≡ record { answer = Ok (used + length (text rows is)); out = laid out used (text rows is) }
runs [] [] out used f h = let e : used ≡ used + 0 = omega arith in λ j. record { answer = Ok (e j); out = laid_nothing out used j }
runs [] (i ∷ is) out used f h = absurd f
runs (row ∷ rows) [] out used f h = absurd f
runs (row ∷ rows) (i ∷ is) out used f h =
    let t = field row.length i.chars in
    let whole = length-append t (text rows is) in
    let keeps = length-laid out used t (omega arith) in
    let long : used + length t + length (text rows is) ≡ used + length (t ++ text rows is) = omega arith in
    ap (λ r. on r out (λ s. all_put s is)) (putting_filled out used row rows i f.0 (omega arith))
    ∙ runs rows is (laid out used t) (used + length t) f.1 (omega arith)
    ∙ (λ j. record { answer = Ok (long j); out = laid_next out used (used + length t) t (text rows is) refl (omega arith) j })

-- a part in the middle
middle : (a b c : List ℕ) (s e : ℕ) → s ≡ length a → e ≡ s + length b → between s e (a ++ (b ++ c)) ≡ b
middle a b c s e p q = grind (arith, nat_tests, common_steps)

-- the characters of an element that was found
item_chars : (l : Lengths) (row : Row) (pre chars rest : List ℕ) → between (found_at l row (length pre) (length chars)).start (found_at l row (length pre) (length chars)).end (pre ++ (field l chars ++ rest)) ≡ chars
item_chars (Fixed n) row pre chars rest = middle pre chars rest (length pre) (length pre + length chars) refl refl
item_chars (UpTo limit) row pre chars rest =
    let d = spelled 10 2 (length chars) in
    let two = length-spelled 10 2 (length chars) in
    let longer = length-append pre d in
    ap (between (length pre + 2) (length pre + 2 + length chars)) (ap (λ l. pre ++ l) (append_assoc d chars rest) ∙ sym (append_assoc pre d (chars ++ rest)))
    ∙ middle (pre ++ d) chars rest (length pre + 2) (length pre + 2 + length chars) (omega arith) refl

found_end : (l : Lengths) (row : Row) (at : ℕ) (chars : List ℕ) → (found_at l row at (length chars)).end ≡ at + length (field l chars)
found_end (Fixed n) row at chars = refl
found_end (UpTo limit) row at chars = omega (arith, length-append (spelled 10 2 (length chars)) chars, length-spelled 10 2 (length chars))

found_element : (l : Lengths) (row : Row) (at n : ℕ) → (found_at l row at n).element ≡ row.element
found_element (Fixed m) row at n = refl
found_element (UpTo limit) row at n = refl

-- what was put down is taken up
pub record TakenUp (rows : List Row) (bits : ℕ) (pre : List ℕ) (is : List Item) : Type 0 where
  pub found : List Found
  pub all : elements rows bits (length pre) (text (chosen rows bits) is) ≡ Ok found
  pub same : map (item_of (pre ++ text (chosen rows bits) is)) found ≡ is

-- a marked row
taken_marked : (row : Row) (rows : List Row) (bits : ℕ) (pre : List ℕ) (is : List Item) → marked bits row.element ≡ true → short row.length ≡ true → Filled (row ∷ chosen rows bits) is → ((pre' : List ℕ) (is' : List Item) → Filled (chosen rows bits) is' → TakenUp rows bits pre' is') → TakenUp (row ∷ rows) bits pre is
taken_marked row rows bits pre [] m s f on' = absurd f
taken_marked row rows bits pre (i ∷ is) m s f on' =
    let l = row.length in
    let at = length pre in
    let t = field l i.chars in
    let rest = text (chosen rows bits) is in
    let e = found_at l row at (length i.chars) in
    let u = on' (pre ++ t) is f.1 in
    let chose : chosen (row ∷ rows) bits ≡ row ∷ chosen rows bits = cond-true _ _ _ m in
    let end : e.end ≡ length (pre ++ t) = found_end l row at i.chars ∙ sym (length-append pre t) in
    let left : drop (e.end - at) (t ++ rest) ≡ rest = let n : length t ≡ e.end - at = omega (arith, found_end l row at i.chars) in drop_at t rest (e.end - at) n in
    let whole : (pre ++ t) ++ rest ≡ pre ++ (t ++ rest) = append_assoc pre t rest in
    record {
      found = e ∷ u.found;
      all =
          ap (λ rs. elements (row ∷ rows) bits at (text rs (i ∷ is))) chose ∙ cond-true _ _ _ m
          ∙ ap (λ r. after (lifted r) (λ g. before g (elements rows bits g.end (drop (g.end - at) (t ++ rest))))) (respelt l row at i.chars rest s f.0.admitted f.0.fitting)
          ∙ (λ j. before e (elements rows bits (end j) (left j))) ∙ ap (before e) u.all;
      same =
          ap (λ rs. map (item_of (pre ++ text rs (i ∷ is))) (e ∷ u.found)) chose
          ∙ (λ j. record { number = (found_element l row at (length i.chars) ∙ sym f.0.number) j; chars = item_chars l row pre i.chars rest j } ∷ map (item_of (sym whole j)) u.found)
          ∙ ap (λ x. i ∷ x) u.same;
    }

pub takes_up : (rows : List Row) (low bits : ℕ) (pre : List ℕ) (is : List Item) → proper low rows ≡ true → Filled (chosen rows bits) is → TakenUp rows bits pre is
takes_up [] low bits pre [] p f = record { found = []; all = refl; same = refl }
takes_up [] low bits pre (i ∷ is) p f = absurd f
takes_up (row ∷ rows) low bits pre is p f =
    let q = proper_first low row rows p in
    ⊎_elim
    (λ m. taken_marked row rows bits pre is m q.brief (subst (λ rs. Filled rs is) (cond-true _ _ _ m) f) (λ pre' is' g. takes_up rows row.element bits pre' is' q.others g))
    (λ m.
    let e : chosen (row ∷ rows) bits ≡ chosen rows bits = cond-false _ _ _ m in
    let t = takes_up rows row.element bits pre is q.others (subst (λ rs. Filled rs is) e f) in
    record {
      found = t.found;
      all = ap (λ rs. elements (row ∷ rows) bits (length pre) (text rs is)) e ∙ cond-false _ _ _ m ∙ t.all;
      same = ap (λ rs. map (item_of (pre ++ text rs is)) t.found) e ∙ t.same;
    })
    (cases_Bool (marked bits row.element))

-- what is taken up is what would be put down
pub record PutDown (rows : List Row) (bits : ℕ) (cs : List ℕ) (is : List Item) : Type 0 where
  pub filled : Filled (chosen rows bits) is
  pub same : text (chosen rows bits) is ≡ cs

found_start : (l : Lengths) (row : Row) (at n : ℕ) → (found_at l row at n).start + n ≡ (found_at l row at n).end
found_start (Fixed m) row at n = refl
found_start (UpTo limit) row at n = refl

-- the characters of an element that was read
spelt_chars : (l : Lengths) (row : Row) (pre cs : List ℕ) (e : Found) (s : Spelt l row (length pre) cs e) → between e.start e.end (pre ++ cs) ≡ s.chars
spelt_chars l row pre cs e s =
    let at = length pre in
    let n = length s.chars in
    let end : e.end ≡ (found_at l row at n).end = s.ends ∙ sym (found_end l row at s.chars) in
    let start : e.start ≡ (found_at l row at n).start = omega (arith, s.starts, found_start l row at n) in
    (λ j. between (start j) (end j) (pre ++ s.whole j)) ∙ item_chars l row pre s.chars s.rest

pub puts_down : (rows : List Row) (bits : ℕ) (pre cs : List ℕ) (es : List Found) → elements rows bits (length pre) cs ≡ Ok es → PutDown rows bits cs (map (item_of (pre ++ cs)) es)
puts_down [] bits pre [] es h = subst (λ l. PutDown [] bits [] (map (item_of (pre ++ [])) l)) (same_ok h) (record { filled = tt; same = refl })
puts_down [] bits pre (c ∷ cs) es h = absurd (never h)
puts_down (row ∷ rows) bits pre cs es h =
    ⊎_elim
    (λ m.
    let s = stepped row rows bits (length pre) cs es m h in
    let e = s.first in
    let t = s.spelled in
    let f = field row.length t.chars in
    let end : e.end ≡ length (pre ++ f) = t.ends ∙ sym (length-append pre f) in
    let whole : (pre ++ f) ++ t.rest ≡ pre ++ cs = append_assoc pre f t.rest ∙ ap (λ l. pre ++ l) (sym t.whole) in
    let d = puts_down rows bits (pre ++ f) t.rest s.others (ap (λ n. elements rows bits n t.rest) (sym end) ∙ s.on) in
    let i : Item = item_of (pre ++ cs) e in
    let chars : i.chars ≡ t.chars = spelt_chars row.length row pre cs e t in
    let others : map (item_of ((pre ++ f) ++ t.rest)) s.others ≡ map (item_of (pre ++ cs)) s.others = ap (λ l. map (item_of l) s.others) whole in
    let match : Matches row i = record {
      number = t.element;
      admitted = ap (λ l. admits row.length (length l)) chars ∙ t.admitted;
      fitting = (λ j. wrong (fits row.format) (length (chars j)) 0 (chars j)) ∙ t.fitting;
    } in
    let chose : row ∷ chosen rows bits ≡ chosen (row ∷ rows) bits = sym (cond-true _ _ _ m) in
    subst (λ l. PutDown (row ∷ rows) bits cs (map (item_of (pre ++ cs)) l)) s.all
    (record {
      filled = subst (λ rs. Filled rs (i ∷ map (item_of (pre ++ cs)) s.others)) chose (match, subst (Filled (chosen rows bits)) others d.filled);
      same =
          ap (λ rs. text rs (i ∷ map (item_of (pre ++ cs)) s.others)) (sym chose)
          ∙ (λ j. field row.length (chars j) ++ text (chosen rows bits) (sym others j))
          ∙ ap (λ l. f ++ l) d.same ∙ sym t.whole;
    }))
    (λ m.
    let d = puts_down rows bits pre cs es (sym (cond-false _ _ _ m) ∙ h) in
    let e : chosen rows bits ≡ chosen (row ∷ rows) bits = sym (cond-false _ _ _ m) in
    record {
      filled = subst (λ rs. Filled rs (map (item_of (pre ++ cs)) es)) e d.filled;
      same = ap (λ rs. text rs (map (item_of (pre ++ cs)) es)) (sym e) ∙ d.same;
    })
    (cases_Bool (marked bits row.element))
