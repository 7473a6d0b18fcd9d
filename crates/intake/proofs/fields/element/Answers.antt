use Rattle.std.proofs.Common.{sym, subst}
use Rattle.intake.specs.Conforms.{Required, Stands}
use Rattle.intake.proofs.Requires.{handed_required}
use Rattle.intake.proofs.fields.element.Goals as goal

pub returns : goal.returns
returns c =
    let m = c.args.message.now in
    let k = c.args.number in
    subst (Required m k (Stands m k)) (sym c.ok_or.ensures.value) (handed_required m k c.element.result c.element.ensures.part)
