use Rattle.std.proofs.Common.{arith}
use Rattle.std.proofs.iter.Serving.{serving}
use Rattle.elements.proofs.Rows.{in_table}
use Rattle.composer.proofs.writer.Writer.next.Goals as goal

pub find-requires-clause-callable : goal.find-requires-clause-callable
find-requires-clause-callable c = grind (serving, arith, in_table)
