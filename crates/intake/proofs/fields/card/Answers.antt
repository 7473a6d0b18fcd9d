use Rattle.std.proofs.Common.{length, ap, ◌∙◌, arith}
use Rattle.intake.specs.Orders.{card_of}
use Rattle.intake.proofs.Figures.{figured_at}
use Rattle.intake.proofs.fields.card.Goals as goal

pub digits-requires : goal.digits-requires
digits-requires c =
    let f = figured_at 2 c.in_ok-chars.field-0.chars.now (omega arith) c.in_ok-chars.ensures.1.sound in
    (f.some, f.most, f.decimals)

pub overflow_cast-result : goal.overflow_cast-result
overflow_cast-result c = let f = figured_at 2 c.in_ok-chars.field-0.chars.now (omega arith) c.in_ok-chars.ensures.1.sound in omega (arith, f.most)

pub returns : goal.returns
returns c =
    let e = c.in_ok-chars.ensures in
    let cs = c.in_ok-chars.field-0.chars.now in
    let f = figured_at 2 cs (omega arith) e.1.sound in
    (e.0, (ap (λ n. record { digits = n; count = length cs }) c.digits.ensures.value ∙ ap card_of e.1.chars, record { some = f.some; most = f.most; digits = c.digits.ensures.small }))
