use Rattle.std.proofs.Common.{arith}
use Rattle.accounts.proofs.Law.{lawful}
use Rattle.accounts.proofs.book.BalanceBook.serve.Goals as goal

pub returns-clause-balances : goal.returns-clause-balances
returns-clause-balances c =
    lawful _ _ c.loop-exchange.exchanges c.loop-exchange.exchange-index (omega arith) c.loop-exchange.invariant.ran
