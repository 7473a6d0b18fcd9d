use Rattle.sums.specs.Days.{sums_of}
use Rattle.sums.proofs.Nets.{Running}
use Rattle.sums.proofs.day.Day.position.Given as goal

abbrev pub invariant-loop-other : goal.invariant-loop-other
invariant-loop-other l = Running (sums_of l.self) l.other l.bank l.sum
