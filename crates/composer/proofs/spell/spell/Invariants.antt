use Rattle.std.proofs.Common.{◌≡◌, ◌++◌, length, drop}
use Rattle.elements.specs.Fields.{spelled}
use Rattle.composer.proofs.spell.spell.Given as goal

abbrev pub invariant-loop-i : goal.invariant-loop-i
invariant-loop-i g l = (length l.text ≡ g.row.N) × (spelled l.radix g.row.N l.number ≡ spelled l.radix l.i l.rest ++ drop l.i l.text)
