use Rattle.accounts.proofs.Finds.{laid}
use Rattle.accounts.proofs.accounts.Accounts.open.Goals as goal

pub invariant_of-result-clause-rest : goal.invariant_of-result-clause-rest
invariant_of-result-clause-rest c = laid _ _ _ c.copy_from_slice.ensures.after c.default-places.ensures.blank
