use Rattle.std.proofs.Common.{sym, rules}
use Rattle.lines.proofs.Kept.{found, not_there, shown_sole}
use Rattle.lines.proofs.table.Lines.get.Goals as goal

pub returns-in_default : goal.returns-in_default
returns-in_default g c = sym (not_there c.args.self.now.rows c.args.key (search rules))

pub returns : goal.returns
returns g c =
    let s = c.args.self.now in
    let at = found s.rows c.in-Some.i c.args.key s.once (search rules) in
    let e = shown_sole s.rows c.in-Some.i c.args.key at.0 at.1 at.2 in
    search rules
