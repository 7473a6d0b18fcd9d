use Rattle.std.proofs.Common.{None, arith}
use Rattle.books.proofs.Counted.{empty_small, nothing_approved, nothing_reversed}
use Rattle.sums.specs.Days.{sums_of}
use Rattle.journal.specs.Places.{taken, undone}
use Rattle.books.proofs.books.Books.new.Goals as goal

pub invariant_of-result : goal.invariant_of-result
invariant_of-result c = record {
  near = omega arith;
  small = empty_small _ 512 c.new.ensures;
  approved = nothing_approved (taken c.new.result.places) (sums_of c.new-2.result) c.new-2.ensures;
  reversed = nothing_reversed (undone c.new.result.places) (sums_of c.new-2.result) c.new-2.ensures;
}

pub returns : goal.returns
returns c = λ i. record { places = c.new.ensures i; mark = 0; horizon = 0; last = 0; today = c.new-2.ensures i; closed = None }
