use Rattle.std.proofs.Common.{sym, refl, subst, arith}
use Rattle.sums.specs.Days.{sums_of}
use Rattle.sums.specs.Sums.{no_sums, ApprovedWithin, ReversedWithin}
use Rattle.sums.proofs.Empty.{zero_figures, even_square, even_sums}
use Rattle.sums.proofs.Within.{none_approved, none_reversed, approved_rises, reversed_rises}
use Rattle.sums.proofs.day.Day.new.Goals as goal

pub invariant_of-result : goal.invariant_of-result
invariant_of-result c =
    let x = c.default.result in
    let e = sym (even_sums x (zero_figures x c.default.ensures)) in record {
      full = refl;
      square = even_square x;
      approved = subst (ApprovedWithin 512) e (approved_rises 0 512 no_sums (omega arith) none_approved);
      reversed = subst (ReversedWithin 512) e (reversed_rises 0 512 no_sums (omega arith) none_reversed);
    }

pub returns : goal.returns
unfolding sums_of
returns c = even_sums c.default.result (zero_figures c.default.result c.default.ensures)
