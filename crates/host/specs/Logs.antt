-- The log of a host: how often it was asked and given a turn, and the latest ask.
use Rattle.std.specs.Prelude.{Some, None}
use Rattle.host.specs.Meaning.{counted}
use Rattle.host.specs.declared.ask.Ask.{Ask}
use Rattle.host.specs.declared.log.Log.{Log}

abbrev pub unasked : Log
unasked = record { asks = 0; turns = 0; latest = None }

abbrev pub asked : Log → Ask → Log
asked l a = record { asks = counted l.asks; turns = l.turns; latest = Some a }

abbrev pub turned : Log → Log
turned l = record { asks = l.asks; turns = counted l.turns; latest = l.latest }
