-- What the hosts at the bottom mean.
use Rattle.std.specs.Prelude.{false}
use Rattle.host.specs.Meaning.{Meaning}
use Rattle.hosts.specs.declared.limit.LimitHost.{LimitHost}
use Rattle.lines.specs.Rows.{shown}

-- the lines of its table; it holds no pair
abbrev pub limited : LimitHost → Meaning
limited s = record { lines = shown s.lines.rows; held = λ _ _. false; asks = s.log.asks; turns = s.log.turns; latest = s.log.latest }
