use Rattle.std.proofs.Common.{None, ◌∙◌, refl, rules, length-set}
use Rattle.lines.proofs.Kept.{found, distinct-set, leaves-set, leaves_none}
use Rattle.lines.proofs.table.Lines.clear.Goals as goal

pub invariant_of-self : goal.invariant_of-self
invariant_of-self g c =
    let s = c.args.self.now in
    let i = c.in-Some.i in
    let at = found s.rows i c.args.key s.once (search rules) in
    record { full = length-set s.rows i None ∙ s.full; once = distinct-set s.rows i c.args.key _ None s.once at.0 at.1 at.2 refl }

pub returns-in-Some : goal.returns-in-Some
returns-in-Some g c =
    let s = c.args.self.now in
    let at = found s.rows c.in-Some.i c.args.key s.once (search rules) in
    leaves-set s.rows c.in-Some.i c.args.key _ None s.once at.0 at.1 at.2 refl

pub returns-in_default : goal.returns-in_default
returns-in_default g c = leaves_none c.args.self.now.rows c.args.key (search rules)
