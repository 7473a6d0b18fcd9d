-- Elements picked along the rows of the table.
use Rattle.std.proofs.Common.{◌≡◌, ℕ, suc, ◌<◌, ◌≤◌, Bool, true, false, cond, ◌&&◌, ◌||◌, eqb, leb, List, [], ◌∷◌, ◌++◌, length, get_or, is_some, Some, None, Option, sym, refl, ap, ◌∙◌, subst, ⊎_elim, arith}
use Rattle.std.proofs.lemmas.Bool.{cond-true, cond-false, cases_Bool, eqb-true, both_ways, or_left, or_cases, and_parts, leb-true}
use Rattle.elements.specs.declared.table.Row.{Row}
use Rattle.elements.specs.Table.{table, blank, known}
use Rattle.elements.specs.Fields.{field}
use Rattle.iso8583.specs.Bitmap.{marked}
use Rattle.composer.specs.Contents.{Item}
use Rattle.composer.specs.Writing.{chosen, listed}
use Rattle.composer.proofs.Bodies.{Matches, Filled, text}
use Rattle.replies.specs.Picks.{pick, picked}
use Rattle.replies.specs.Replies.{chars_of, told, said, replied, part, fields}

abbrev pub with_chars : ℕ → List ℕ → Item
with_chars k cs = record { number = k; chars = cs }

-- of the elements of rows, those that are there
abbrev pub along : List Row → (ℕ → Option (List ℕ)) → List Item
along [] says = []
along (row ∷ rows) says = pick row.element (says row.element) (along rows says)

-- the nine elements stand in the table in this order
pub nine_along : (bs : List ℕ) (code : ℕ) → picked replied (told bs code) ≡ along table (said bs code)
unfolding table
nine_along bs code = refl

-- what is there is what was picked, as far as the rows go
pub record Fit (bits : ℕ) (says : ℕ → Option (List ℕ)) (row : Row) : Type 0 where
  pub mark : marked bits row.element ≡ is_some (says row.element)
  pub allowed : (cs : List ℕ) → says row.element ≡ Some cs → Matches row (with_chars row.element cs)

module _ (bits : ℕ) (says : ℕ → Option (List ℕ)) where
  fills_first : (row : Row) (rows : List Row) (o : Option (List ℕ)) → says row.element ≡ o → Fit bits says row → Filled (chosen rows bits) (along rows says) → Filled (chosen (row ∷ rows) bits) (pick row.element o (along rows says))
  fills_first row rows None e f on = subst (λ rs. Filled rs (along rows says)) (sym (cond-false _ _ _ (f.mark ∙ ap is_some e))) on
  fills_first row rows (Some cs) e f on = subst (λ rs. Filled rs (with_chars row.element cs ∷ along rows says)) (sym (cond-true _ _ _ (f.mark ∙ ap is_some e))) (f.allowed cs e, on)

  pub fills : (rows : List Row) → ((j : ℕ) → j < length rows → Fit bits says (get_or rows j blank)) → Filled (chosen rows bits) (along rows says)
  fills [] fit = tt
  fills (row ∷ rows) fit = fills_first row rows (says row.element) refl (fit 0 (omega arith)) (fills rows (λ j h. fit (suc j) (omega arith)))

  text_first : (row : Row) (rows : List Row) (o : Option (List ℕ)) → says row.element ≡ o → Fit bits says row → text (chosen rows bits) (along rows says) ≡ fields rows says → text (chosen (row ∷ rows) bits) (pick row.element o (along rows says)) ≡ part row.length o ++ fields rows says
  text_first row rows None e f on = ap (λ rs. text rs (along rows says)) (cond-false _ _ _ (f.mark ∙ ap is_some e)) ∙ on
  text_first row rows (Some cs) e f on = ap (λ rs. text rs (with_chars row.element cs ∷ along rows says)) (cond-true _ _ _ (f.mark ∙ ap is_some e)) ∙ ap (λ l. field row.length cs ++ l) on

  -- their text is that of the elements
  pub text_along : (rows : List Row) → ((j : ℕ) → j < length rows → Fit bits says (get_or rows j blank)) → text (chosen rows bits) (along rows says) ≡ fields rows says
  text_along [] fit = refl
  text_along (row ∷ rows) fit = text_first row rows (says row.element) refl (fit 0 (omega arith)) (text_along rows (λ j h. fit (suc j) (omega arith)))

-- an element that is looked up among those picked
pick_here : (k e : ℕ) (b : Bool) (o : Option (List ℕ)) (is : List Item) → eqb e k ≡ true → chars_of is k ≡ cond b o None → chars_of (pick e o is) k ≡ o
pick_here k e true None is t h = h
pick_here k e false None is t h = h
pick_here k e b (Some cs) is t h = cond-true _ _ _ t

pick_other : (k e : ℕ) (o : Option (List ℕ)) (is : List Item) → eqb e k ≡ false → chars_of (pick e o is) k ≡ chars_of is k
pick_other k e None is f = refl
pick_other k e (Some cs) is f = cond-false _ _ _ f

pub chars_along : (rows : List Row) (says : ℕ → Option (List ℕ)) (k : ℕ) → chars_of (along rows says) k ≡ cond (known rows k) (says k) None
chars_along [] says k = refl
chars_along (row ∷ rows) says k =
    let e = row.element in
    ⊎_elim
    (λ t. let same : says k ≡ says e = ap says (sym (eqb-true e k t)) in
    pick_here k e (known rows k) (says e) (along rows says) t (chars_along rows says k ∙ ap (λ o. cond (known rows k) o None) same)
    ∙ sym same ∙ sym (cond-true _ (says k) None (or_left _ (known rows k) t)))
    (λ f. pick_other k e (says e) (along rows says) f ∙ chars_along rows says k ∙ ap (λ b. cond (b || known rows k) (says k) None) (sym f))
    (cases_Bool (eqb e k))

-- a test that the elements of a list pass, computed over the whole list
every : (ℕ → Bool) → List ℕ → Bool
every test [] = true
every test (j ∷ ks) = test j && every test ks

every_listed : (test : ℕ → Bool) (ks : List ℕ) (k : ℕ) → every test ks ≡ true → listed ks k ≡ true → test k ≡ true
unfolding every
every_listed test [] k a h = absurd (both_ways false refl h)
every_listed test (j ∷ ks) k a h =
    let p = and_parts (test j) (every test ks) a in
    ⊎_elim (λ t. ap test (sym (eqb-true j k t)) ∙ p.0) (λ t. every_listed test ks k p.1 t) (or_cases (eqb j k) (listed ks k) h)

-- the table has the elements of a reply
pub replied_known : (k : ℕ) → listed replied k ≡ true → known table k ≡ true
unfolding table every
replied_known k h = every_listed (known table) replied k refl h

-- none of them is above 49
pub replied_low : (k : ℕ) → listed replied k ≡ true → k ≤ 49
unfolding every
replied_low k h = leb-true k 49 (every_listed (λ j. leb j 49) replied k refl h)

-- a reply's element is there with what is said of it
pub chars_said : (bs : List ℕ) (code k : ℕ) → chars_of (along table (said bs code)) k ≡ said bs code k
chars_said bs code k =
    chars_along table (said bs code) k
    ∙ ⊎_elim
    (λ t. cond-true _ _ _ t)
    (λ f. cond-false _ (said bs code k) None f ∙ sym (cond-false _ (told bs code k) None
    (⊎_elim (λ l. absurd (both_ways _ f (replied_known k l))) (λ n. n) (cases_Bool (listed replied k)))))
    (cases_Bool (known table k))
