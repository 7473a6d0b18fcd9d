use Rattle.std.proofs.Common.{◌≡◌, ◌+◌, length, length-append, refl, ap, ◌∙◌, arith}
use Rattle.elements.specs.Fields.{spelled}
use Rattle.elements.specs.Table.{lead}
use Rattle.composer.specs.Writing.{laid}
use Rattle.iso8583.proofs.Digits.{length-spelled}
use Rattle.iso8583.proofs.Elements.{lead_field}
use Rattle.composer.proofs.Lays.{laid_next}
use Rattle.composer.proofs.writer.lay_field.Goals as goal

pub returns-then-out-end : goal.returns-then-out-end
returns-then-out-end c = (omega (arith, lead_field), refl)

pub returns-in-UpTo : goal.returns-in-UpTo
returns-in-UpTo c =
    let out = c.args.out.now in
    let at = c.args.at in
    let cs = c.args.chars.now in
    let two = length-spelled 10 2 (length cs) in
    let digits : c.lead.result ≡ 2 = c.lead.ensures ∙ ap lead c.in-UpTo.is in
    let whole = length-append (spelled 10 2 (length cs)) cs in
    rw c.in-UpTo.is (
      omega arith,
      omega arith,
      c.lay-in-UpTo-2.ensures ∙ ap (λ o. laid o (at + 2) cs) (c.lay-in-UpTo.ensures ∙ ap (laid out at) c.spell.ensures) ∙ laid_next out at (at + 2) _ cs (omega arith) (omega arith),
    )
