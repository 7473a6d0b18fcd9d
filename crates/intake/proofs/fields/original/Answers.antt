use Rattle.std.proofs.Common.{◌≡◌, is_some, Some, Option, IfSome, sym, ap, ◌∙◌, subst}
use Rattle.elements.specs.declared.original.Original.{Original}
use Rattle.elements.specs.Originals.{parts, SizedOriginal}
use Rattle.intake.proofs.Figures.{original_digits, original_there}
use Rattle.intake.proofs.fields.original.Goals as goal

pub unwrap-requires : goal.unwrap-requires
unwrap-requires c =
    let d = original_digits c.in_ok-element.field-0.chars.now c.in_ok-element.ensures.1.sound in
    ap is_some (c.read.ensures.value ∙ original_there _ d.0 d.1)

pub returns : goal.returns
returns c =
    let e = c.in_ok-element.ensures in
    let cs = c.in_ok-element.field-0.chars.now in
    let d = original_digits cs e.1.sound in
    let some : Some c.unwrap.result ≡ Some (parts cs) = sym c.unwrap.ensures ∙ c.read.ensures.value ∙ original_there cs d.0 d.1 in
    let same : c.unwrap.result ≡ parts cs = cc in
    (e.0, (same ∙ ap parts e.1.chars, subst (λ (o : Option Original). IfSome o SizedOriginal) c.unwrap.ensures c.read.ensures.small))
