-- What a trial host means.
use Rattle.host.specs.Meaning.{Meaning}
use Rattle.lines.specs.Rows.{shown}
use Rattle.trials.specs.Script.{is_held}
use Rattle.trials.specs.declared.trial.TrialHost.{TrialHost}

-- the lines of its table, and the one key that it may hold
abbrev pub tried : TrialHost → Meaning
tried s = record { lines = shown s.lines.rows; held = is_held s.held; asks = s.log.asks; turns = s.log.turns; latest = s.log.latest }
