use Rattle.std.proofs.Common.{Some, ap, ◌∙◌, inl, arith}
use Rattle.journal.proofs.Stores.{lowest_is_free}
use Rattle.sums.specs.Days.{sums_of}
use Rattle.books.specs.Sizes.{all_small}
use Rattle.books.proofs.Bounds.{room_for_one, taking_within, small-set}
use Rattle.books.proofs.books.Books.take.Goals as goal

pub put-requires : goal.put-requires
put-requires c =
    let ps = c.args.self.now.journal.places in
    (omega (arith, (lowest_is_free ps c.args.place c.requires.lowest).inside, c.args.self.now.journal.full), inl c.requires.fresh)

pub count-requires : goal.count-requires
count-requires c =
    let s = c.args.self.now in
    record { size = c.requires.size; room = room_for_one s.journal.places c.args.place c.args.entry (sums_of s.today) s.journal.full c.requires.lowest (record { approvals = s.approved; reversals = s.reversed }) }

pub invariant_of-self : goal.invariant_of-self
invariant_of-self c =
    let s = c.args.self.now in
    let w = taking_within s.journal.places c.args.place c.args.entry (sums_of s.today) s.journal.full c.requires.lowest (record { approvals = s.approved; reversals = s.reversed }) _ _ c.put.ensures c.count.ensures c.requires.size in
    record {
      near = s.near;
      small = ap all_small c.put.ensures ∙ small-set s.journal.places c.args.place (Some c.args.entry) s.small c.requires.size;
      approved = w.approvals;
      reversed = w.reversals;
    }
