use Rattle.std.proofs.Common.{map, length, vec_items}
use Rattle.deck.specs.Deck.{meant}
use Rattle.deck.proofs.Lines.{Sofar}
use Rattle.deck.proofs.Deck.read.Given as goal

abbrev pub invariant-loop-i : goal.invariant-loop-i
invariant-loop-i l = Sofar l.text (length l.yielded) (map meant (vec_items l.commands))
