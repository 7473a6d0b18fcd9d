use Rattle.std.specs.Fn.{FnReturnsAt}
use Rattle.journal.specs.Passes.{NonePasses}
use Rattle.journal.proofs.journal.Journal.first.Given as goal

abbrev pub invariant-loop-place : goal.invariant-loop-place
invariant-loop-place g l = NonePasses (FnReturnsAt g.P.Fn l.test) l.self.places l.from l.place
