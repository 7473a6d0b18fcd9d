use Rattle.std.proofs.Common.{◌≡◌, drop}
use Rattle.composer.specs.Composes.{items}
use Rattle.composer.specs.Contents.{all_put}
use Rattle.composer.specs.Writers.{state_of}
use Rattle.composer.proofs.compose.put_all.Given as goal

abbrev pub invariant-loop-element : goal.invariant-loop-element
invariant-loop-element l =
    all_put (state_of l.initial.out l.initial.writer) (items l.elements) ≡ all_put (state_of l.out l.writer) (items (drop l.element-index l.elements))
