-- One call made.
use Rattle.std.specs.Prelude.{◌≡◌, Some}
use Rattle.accounts.specs.Histories.{Event, Step, exchange_of}
use Rattle.accounts.specs.Views.{Book}
use Rattle.accounts.specs.declared.exchange.Answer.{Answer}
use Rattle.accounts.specs.declared.exchange.Call.{Call}
use Rattle.accounts.specs.declared.exchange.Exchange.{Exchange}

abbrev pub called : Exchange → Call
called x = x.call

pub record Made (s : Book) (c : Call) (r : Answer) (t : Book) : Type 0 where
  pub event : Event
  pub this : exchange_of event ≡ record { call = c; answer = Some r }
  pub step : Step s event t
