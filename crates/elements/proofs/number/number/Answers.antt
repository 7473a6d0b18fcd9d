use Rattle.std.proofs.Common.{rules}
use Rattle.std.proofs.lemmas.Bool.{eqb-false}
use Rattle.elements.proofs.Numerals.{whole_number}
use Rattle.elements.proofs.number.number.Goals as goal

pub returns-clause-value : goal.returns-clause-value
returns-clause-value c = search (rules, whole_number, eqb-false)
