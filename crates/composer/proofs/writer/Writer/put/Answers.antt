use Rattle.std.proofs.Common.{◌≡◌, ◌-◌, ◌^◌, ap, ◌∙◌, rules, arith}
use Rattle.elements.specs.Table.{table}
use Rattle.elements.proofs.Rows.{proper_table}
use Rattle.composer.proofs.Rests.{row_left, taken, cleared}
use Rattle.composer.proofs.writer.Writer.put.Goals as goal

pub returns-in_err-check : goal.returns-in_err-check
returns-in_err-check c = let first = row_left c.args.self.now.left c.next.ensures c.in_ok-row.ensures.ok_part in search rules

pub returns-in_err-self : goal.returns-in_err-self
returns-in_err-self c = let first = row_left c.args.self.now.left c.next.ensures c.in_ok-row.ensures.ok_part in search rules

pub bit-requires : goal.bit-requires
bit-requires c =
    let left = c.args.self.now.left in
    let t = taken table 1 left _ _ proper_table (omega arith) (row_left left c.next.ensures c.in_ok-row.ensures.ok_part) in
    (omega (arith, t.above), omega (arith, t.inside))

pub returns : goal.returns
returns c =
    let left = c.args.self.now.left in
    let first = row_left left c.next.ensures c.in_ok-row.ensures.ok_part in
    let t = taken table 1 left _ _ proper_table (omega arith) first in
    let same : c.args.element ≡ c.in_ok-row.row.now.element = omega arith in
    let others = t.others _ (cleared c.in_ok-row.row.now.element left c.bit.result (omega (arith, t.above)) t.inside (c.bit.ensures ∙ ap (λ k. 2 ^ (128 - k)) same) c.bit.type_inv) in
    search rules
