use Rattle.std.proofs.Common.{sym, ◌∙◌, arith}
use Rattle.elements.proofs.Rows.{known_range, proper_table}
use Rattle.composer.proofs.Gathers.{known_more, stranger_more, known_later, stranger_later}
use Rattle.composer.proofs.marks.add.Goals as goal

pub bits_of-requires : goal.bits_of-requires
bits_of-requires c = let r = known_range _ 1 c.args.element proper_table (sym c.in-Ok-true.ensures) in (r.0, r.1)

pub returns-in-Ok-true : goal.returns-in-Ok-true
returns-in-Ok-true c es h = known_more es c.args.element c.in-Ok-true.bits (sym c.in-Ok-true.is-0 ∙ h) c.bits_of.result c.bits_of.type_inv c.bits_of.ensures (sym c.in-Ok-true.ensures)

pub returns-in-Ok-false : goal.returns-in-Ok-false
returns-in-Ok-false c es h = stranger_more es c.args.element _ (sym c.in-Ok-false.is-0 ∙ h) (omega arith) (sym c.in-Ok-false.ensures)

pub returns-in-Err-true : goal.returns-in-Err-true
returns-in-Err-true c es h = known_later es c.args.element _ (sym c.in-Err-true.is-0 ∙ h) (sym c.in-Err-true.ensures)

pub returns-in-Err-false : goal.returns-in-Err-false
returns-in-Err-false c es h = let lower = stranger_later es c.args.element _ (sym c.in-Err-false.is-0 ∙ h) (omega arith) (sym c.in-Err-false.ensures) in cc
