use Rattle.std.proofs.Common.{◌≡◌, ◌<◌}
use Rattle.std.specs.List.{All}
use Rattle.composer.specs.Announced.{gathered}
use Rattle.composer.proofs.marks.announce.Given as goal

abbrev pub invariant-loop-element : goal.invariant-loop-element
invariant-loop-element g l = All (λ e. e < 256) l.yielded × (l.set ≡ gathered l.yielded)
