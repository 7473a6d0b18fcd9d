use Rattle.std.proofs.Common.{ap, ◌∙◌, arith}
use Rattle.std.specs.Str.Parse.{digits_value}
use Rattle.intake.proofs.Figures.{figured_at, figured_small}
use Rattle.intake.proofs.fields.figure.Goals as goal

pub digits-requires : goal.digits-requires
digits-requires c =
    let f = figured_at c.args.number c.in_ok-element.field-0.chars.now c.requires c.in_ok-element.ensures.1.sound in
    (f.some, omega (arith, f.most, f.near), f.decimals)

pub returns : goal.returns
returns c =
    let e = c.in_ok-element.ensures in
    let f = figured_at c.args.number c.in_ok-element.field-0.chars.now c.requires e.1.sound in
    (e.0, (c.digits.ensures.value ∙ ap (digits_value 10) e.1.chars, figured_small _ c.in_ok-element.field-0.chars.now c.digits.result f c.digits.ensures.small))
