use Rattle.std.proofs.Common.{refl}
use Rattle.journal.proofs.Seeks.{apart_nothing}
use Rattle.journal.proofs.journal.Journal.new.Goals as goal

pub invariant_of-result : goal.invariant_of-result
invariant_of-result c = record {
  full = refl;
  apart = ∣ apart_nothing 512 ∣₁;
}
