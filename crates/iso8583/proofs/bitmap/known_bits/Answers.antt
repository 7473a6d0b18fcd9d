use Rattle.std.proofs.Common.{◌-◌, ◌^◌, ◌<◌, ◌||◌, eqb, length, get_or, take, sym, ap, ◌∙◌, arith, rules}
use mathlib.Core.Bool.{or-false, or_assoc}
use Rattle.iso8583.specs.Bitmap.{marked}
use Rattle.elements.specs.Table.{table, blank, known}
use Rattle.iso8583.proofs.Bits.{marked_or, marked_bit}
use Rattle.elements.proofs.Rows.{in_table, known_more, row_range}
use Rattle.iso8583.proofs.bitmap.known_bits.Goals as goal

pub bit-bits-requires-in-loop-row : goal.bit-bits-requires-in-loop-row
bit-bits-requires-in-loop-row c = search (rules, row_range)

pub loop-row-init : goal.loop-row-init
loop-row-init c k l h =
    ap (λ b. marked b k) c.bit-bits.ensures ∙ marked_bit 1 k (omega arith) (omega arith) l h ∙ sym (or-false (eqb 1 k))

pub loop-row-preserved : goal.loop-row-preserved
loop-row-preserved c k l h =
    let i = c.loop-row.row-index in
    let same = c.rows-row-items.ensures in
    let within : i < length table = omega (arith, ap length same) in
    let range = in_table i blank within in
    let bit = c.bit-bits-in-loop-row.ensures ∙ ap (λ rs. 2 ^ (128 - (get_or rs i blank).element)) same in
    marked_or c.loop-row.bits c.bit-bits-in-loop-row.result k
    ∙ (λ j. c.loop-row.invariant k l h j || marked (bit j) k)
    ∙ ap (λ b. (eqb 1 k || known (take i table) k) || b) (marked_bit (get_or table i blank).element k (omega (arith, range.0)) range.1 l h)
    ∙ or_assoc (eqb 1 k) (known (take i table) k) (eqb (get_or table i blank).element k)
    ∙ ap (λ b. eqb 1 k || b) (sym (known_more table i blank k within))
