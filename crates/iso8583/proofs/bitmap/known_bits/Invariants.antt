use Rattle.std.proofs.Common.{◌≡◌, ℕ, ◌≤◌, ◌||◌, eqb, take}
use Rattle.iso8583.specs.Bitmap.{marked}
use Rattle.elements.specs.Table.{table, known}
use Rattle.iso8583.proofs.bitmap.known_bits.Given as goal

abbrev pub invariant-loop-row : goal.invariant-loop-row
invariant-loop-row l = (k : ℕ) → 1 ≤ k → k ≤ 128 → marked l.bits k ≡ (eqb 1 k || known (take l.row-index table) k)
