use Rattle.std.proofs.Common.{set, Some, ap, ◌∙◌}
use Rattle.journal.specs.Entries.{owing}
use Rattle.sums.specs.Days.{sums_of}
use Rattle.books.specs.Sizes.{all_small}
use Rattle.books.proofs.Bounds.{room_to_reverse, owing_within, small-set, small_here, small_owing}
use Rattle.books.proofs.Counted.{as_reversed}
use Rattle.books.proofs.books.Books.owe.Goals as goal

pub payment-requires : goal.payment-requires
payment-requires c = small_here c.args.self.now.journal.places c.args.held.place c.args.held.entry c.args.self.now.small c.requires.here.there

pub count-requires : goal.count-requires
count-requires c =
    let s = c.args.self.now in
    room_to_reverse s.journal.places c.args.held.place c.args.held.entry (sums_of s.today) s.journal.full c.requires.here.inside c.requires.here.there c.requires.settled (record { approvals = s.approved; reversals = s.reversed })

pub invariant_of-self : goal.invariant_of-self
invariant_of-self c =
    let s = c.args.self.now in
    let e = c.args.held.entry in
    let size = small_here s.journal.places c.args.held.place e s.small c.requires.here.there in
    let places = c.put.ensures ∙ ap (λ x. set s.journal.places c.args.held.place (Some x)) c.owing.ensures in
    let sums = as_reversed (sums_of s.today) (sums_of c.count.new.self) e c.payment.result c.count.ensures c.payment.ensures.banks c.payment.ensures.side c.payment.ensures.amount in
    let w = owing_within s.journal.places c.args.held.place e (sums_of s.today) s.journal.full c.requires.here.inside c.requires.here.there c.requires.settled (record { approvals = s.approved; reversals = s.reversed }) _ _ places sums size in
    record {
      near = s.near;
      small = ap all_small places ∙ small-set s.journal.places c.args.held.place (Some (owing e)) s.small (small_owing e size);
      approved = w.approvals;
      reversed = w.reversals;
    }
