use Rattle.std.proofs.Common.{rules}
use Rattle.lines.proofs.Kept.{free_known}
use Rattle.lines.proofs.table.Lines.has_room.Goals as goal

pub returns : goal.returns
returns g c = let e = free_known c.args.self.now.rows in search rules
