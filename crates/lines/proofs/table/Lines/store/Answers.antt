use Rattle.std.proofs.Common.{◌∙◌, refl, rules, length-set}
use Rattle.lines.proofs.Kept.{has_place, placed, present_if, distinct-set, leaves-set}
use Rattle.lines.proofs.table.Lines.store.Goals as goal

pub unwrap-i-requires : goal.unwrap-i-requires
unwrap-i-requires g c = rw c.place_for.ensures (has_place c.args.self.now.rows c.args.key c.args.line (present_if c.args.line c.requires.solid) c.requires.room)

pub invariant_of-self : goal.invariant_of-self
invariant_of-self g c =
    let s = c.args.self.now in
    let i = c.unwrap-i.result in
    let at = placed s.rows i c.args.key s.once (search rules) in
    record {
      full = length-set s.rows i _ ∙ s.full;
      once = distinct-set s.rows i c.args.key c.args.line _ s.once at.0 at.1 at.2 (refl, present_if c.args.line c.requires.solid);
    }

pub returns : goal.returns
returns g c =
    let s = c.args.self.now in
    let at = placed s.rows c.unwrap-i.result c.args.key s.once (search rules) in
    leaves-set s.rows c.unwrap-i.result c.args.key c.args.line _ s.once at.0 at.1 at.2 (refl, present_if c.args.line c.requires.solid)
