use Rattle.std.proofs.Common.{◌≡◌, suc, ◌-◌, ◌++◌, drop, sym, ap, ◌∙◌, arith, length-set}
use Rattle.elements.specs.Fields.{spelled}
use Rattle.iso8583.proofs.Digits.{spelled_more}
use Rattle.composer.proofs.spell.spell.Goals as goal

pub loop-i-preserved : goal.loop-i-preserved
loop-i-preserved g c =
    let text = c.loop-i.text in
    let v = c.loop-i.rest in
    let i = c.loop-i.i in
    let so_far = c.loop-i.invariant in
    let more : i ≡ suc (i - 1) = omega arith in (
      length-set text _ _ ∙ so_far.0,
      spelled_more _ (i - 1) v c.hex_digit.result _ text (omega arith) c.hex_digit.ensures (so_far.1 ∙ ap (λ n. spelled c.radix-radix.result n v ++ drop n text) more),
    )

pub returns : goal.returns
unfolding spelled
returns g c =
    let none : c.loop-i.i ≡ 0 = omega arith in
    sym (ap (λ b. spelled b g.row.N c.args.number) (sym c.radix-radix.ensures) ∙ c.loop-i.invariant.1 ∙ ap (λ n. spelled c.radix-radix.result n c.loop-i.rest ++ drop n c.loop-i.text) none)
