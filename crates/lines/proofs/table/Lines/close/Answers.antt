use Rattle.std.proofs.Common.{refl, sym, rules, length-set}
use Rattle.lines.proofs.Kept.{placed, unplaced, done_placed, distinct-set, leaves-set, leaves_same}
use Rattle.lines.proofs.table.Lines.close.Goals as goal

pub invariant_of-self : goal.invariant_of-self
invariant_of-self g c =
    let s = c.args.self.now in
    let i = c.in-Some.place in
    let at = placed s.rows i c.args.key s.once (search rules) in
    record { full = simp length-set s.full; once = distinct-set s.rows i c.args.key _ _ s.once at.0 at.1 at.2 (refl, refl) }

pub returns-in_default : goal.returns-in_default
returns-in_default g c =
    let s = c.args.self.now in
    let none = unplaced s.rows c.args.key (search rules) in
    record { answer = rw (none.0, none.1) refl; lines = rw none.0 (leaves_same s.rows c.args.key _ none.0) }

pub returns : goal.returns
returns g c =
    let s = c.args.self.now in
    let i = c.in-Some.place in
    let at = placed s.rows i c.args.key s.once (search rules) in
    record {
      answer = sym (done_placed s.rows i c.args.key s.once at.0 at.1 at.2);
      lines = leaves-set s.rows i c.args.key _ _ s.once at.0 at.1 at.2 (refl, refl);
    }
