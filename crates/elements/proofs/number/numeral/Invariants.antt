use Rattle.elements.proofs.Numerals.{Reading}
use Rattle.elements.proofs.number.numeral.Given as goal

abbrev pub invariant-loop-place : goal.invariant-loop-place
invariant-loop-place l = Reading l.base l.bytes l.at l.n l.place l.number
