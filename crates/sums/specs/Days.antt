-- What callers know of a day.
use Rattle.sums.specs.Sums.{Sums}
use Rattle.sums.specs.Tables.{table_sums}
use Rattle.sums.specs.declared.day.Day.{Day}

-- its sums; shut, since callers need not see the table behind them
unfoldable pub sums_of : Day → Sums
sums_of d = table_sums d.pairs
