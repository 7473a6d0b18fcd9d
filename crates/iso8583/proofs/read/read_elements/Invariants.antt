use Rattle.std.proofs.Common.{◌≡◌, ◌≤◌, length, take}
use Rattle.elements.specs.Table.{table}
use Rattle.iso8583.proofs.Walks.{Walking}
use Rattle.iso8583.proofs.read.read_elements.Given as goal

abbrev pub invariant-loop-row : goal.invariant-loop-row
invariant-loop-row l =
    record {
      room : length l.found ≡ length table;
      few : l.count ≤ l.row-index;
      walking : Walking l.bytes l.bitmap l.row-index l.at (take l.count l.found);
    }
