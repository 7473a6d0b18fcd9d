use Rattle.std.proofs.lemmas.List.{length-replicate}
use Rattle.std.proofs.Common.{None}
use Rattle.lines.proofs.Kept.{empty_shown, empty_distinct, empty_free}
use Rattle.lines.proofs.table.Lines.new.Goals as goal

pub invariant_of-result : goal.invariant_of-result
invariant_of-result g c = record { full = length-replicate g.row.N None; once = empty_distinct g.row.N }

pub returns : goal.returns
returns g c = record { lines = empty_shown g.row.N; free = empty_free g.row.N }
