use Rattle.std.proofs.Common.{◌≡◌, ℕ, ◌+◌, ◌≤◌, List, length, take, Some, None, Option, Result, sym, ap, ◌∙◌, rules}
use Rattle.std.proofs.lemmas.Bool.{cond-true, le-leb}
use Rattle.elements.specs.declared.fault.ElementFault.{ElementFault}
use Rattle.elements.specs.declared.fault.ElementFault.TheVariants.{Character}
use Rattle.iso8583.specs.declared.found.Found.{Found}
use Rattle.elements.specs.declared.table.Row.{Row}
use Rattle.iso8583.specs.Reading.{unless, wrong, characters}
use Rattle.elements.specs.Table.{fits}
use Rattle.iso8583.proofs.Wrong.{wrong_taken}
use Rattle.iso8583.proofs.read.read_characters.Goals as goal

abbrev told : Row → ℕ → ℕ → Option ℕ → Result Found ElementFault
told row start n o = unless o (λ i. Character row.element i) (record { element = row.element; start = start; end = start + n })

-- what the first wrong character decides, once there are enough of them
decided : (row : Row) (at start n : ℕ) (cs chars : List ℕ) (o : Option ℕ) → n ≤ length cs → chars ≡ take n cs → o ≡ wrong (fits row.format) (length chars) start chars → told row start n o ≡ characters row at start n cs
decided row at start n cs chars o l t e =
    ap (told row start n) (e ∙ ap (λ m. wrong (fits row.format) (length m) start m) t ∙ wrong_taken (fits row.format) n start cs l)
    ∙ sym (cond-true _ _ _ (le-leb n (length cs) l))

pub returns-in-Some-first_wrong : goal.returns-in-Some-first_wrong
returns-in-Some-first_wrong c =
    decided c.args.row.now c.args.at c.args.start c.args.n c.args.rest.now c.in-Some.chars.now (Some c.in-Some-first_wrong.place)
    (search rules) (search rules) c.in-Some-first_wrong.ensures

pub returns : goal.returns
returns c =
    decided c.args.row.now c.args.at c.args.start c.args.n c.args.rest.now c.in-Some.chars.now None
    (search rules) (search rules) c.in_default-first_wrong.ensures
