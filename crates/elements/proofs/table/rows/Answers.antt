use Rattle.std.proofs.Common.{refl}
use Rattle.elements.specs.Table.{table}
use Rattle.elements.proofs.table.rows.Goals as goal

pub returns : goal.returns
unfolding table
returns c = refl
