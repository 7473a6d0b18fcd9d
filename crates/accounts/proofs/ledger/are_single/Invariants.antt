use Rattle.std.proofs.Common.{◌≡◌, length}
use Rattle.accounts.specs.Opening.{single}
use Rattle.accounts.proofs.ledger.are_single.Given as goal

abbrev pub invariant-loop-account : goal.invariant-loop-account
invariant-loop-account l = single l.rest ≡ single l.fn.accounts

abbrev pub decreases-loop-account : goal.decreases-loop-account
decreases-loop-account l = length l.rest
