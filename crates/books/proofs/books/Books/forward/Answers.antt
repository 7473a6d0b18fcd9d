use Rattle.std.proofs.Common.{set, Some, ap, ◌∙◌, arith}
use Rattle.journal.specs.Entries.{in_state}
use Rattle.sums.specs.Days.{sums_of}
use Rattle.books.specs.Sizes.{all_small}
use Rattle.books.proofs.Bounds.{forwarding_within, small-set, small_here}
use Rattle.books.proofs.books.Books.forward.Goals as goal

pub invariant_of-self : goal.invariant_of-self
invariant_of-self c =
    let s = c.args.self.now in
    let e = c.args.held.entry in
    let size = small_here s.journal.places c.args.held.place e s.small c.requires.next.there in
    let places = c.put.ensures ∙ ap (λ x. set s.journal.places c.args.held.place (Some x)) c.becomes.ensures in
    let w = forwarding_within s.journal.places _ c.args.held.place e c.args.state (sums_of s.today) s.journal.full c.requires.next.inside c.requires.next.there c.requires.kept places (record { approvals = s.approved; reversals = s.reversed }) in
    record {
      near = omega arith;
      small = ap all_small places ∙ small-set s.journal.places c.args.held.place (Some (in_state c.args.state e)) s.small size;
      approved = w.approvals;
      reversed = w.reversals;
    }
