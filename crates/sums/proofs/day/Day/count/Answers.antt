use Rattle.std.proofs.Common.{sym, subst}
use Rattle.sums.specs.Days.{sums_of}
use Rattle.sums.specs.Sums.{ApprovedWithin, ReversedWithin}
use Rattle.sums.specs.Tables.{table_sums}
use Rattle.sums.proofs.Counts.{payment_approved, payment_placed, payment_reversed, room_holds}
use Rattle.sums.proofs.Placed.{full_placed, square_placed}
use Rattle.sums.proofs.day.Day.count.Goals as goal

pub count-requires : goal.count-requires
unfolding sums_of
count-requires c = room_holds c.args.kind c.args.self.now.pairs c.args.payment.acquirer c.args.payment.issuer c.args.payment.side c.requires

pub invariant_of-self : goal.invariant_of-self
unfolding sums_of
invariant_of-self c =
    let d = c.args.self.now in
    let t = d.pairs in
    let s = table_sums t in
    let p = c.args.payment in
    let x = c.count.new.self in
    let e = sym (payment_placed c.args.kind t p x d.full d.square c.count.ensures) in record {
      full = full_placed t p.acquirer p.issuer x d.full;
      square = square_placed t p.acquirer p.issuer x d.full d.square p.banks.0;
      approved = subst (ApprovedWithin 512) e (payment_approved c.args.kind s p c.requires d.approved);
      reversed = subst (ReversedWithin 512) e (payment_reversed c.args.kind s p c.requires d.reversed);
    }

pub returns : goal.returns
unfolding sums_of
returns c =
    let d = c.args.self.now in
    payment_placed c.args.kind d.pairs c.args.payment c.count.new.self d.full d.square c.count.ensures
