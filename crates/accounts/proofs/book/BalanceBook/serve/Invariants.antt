use Rattle.std.proofs.Common.{◌≡◌, map, take}
use Rattle.accounts.specs.Histories.{Ran}
use Rattle.accounts.specs.Made.{called}
use Rattle.accounts.specs.Views.{view}
use Rattle.accounts.proofs.book.BalanceBook.serve.Given as goal

abbrev pub invariant-loop-exchange : goal.invariant-loop-exchange
invariant-loop-exchange l =
    record {
      ran : Ran (view l.fn.self) (take l.exchange-index l.exchanges) (view l.self);
      calls : map called l.exchanges ≡ map called l.fn.exchanges;
    }
