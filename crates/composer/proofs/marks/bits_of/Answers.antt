use Rattle.std.proofs.Common.{◌||◌, ap, ◌∙◌, arith}
use Rattle.iso8583.specs.Bitmap.{marked}
use Rattle.iso8583.proofs.Bits.{marked_or, marked_bit}
use Rattle.composer.proofs.Sets.{sets_high, sets_low}
use Rattle.composer.proofs.marks.bits_of.Goals as goal

pub returns-then-element-gt64 : goal.returns-then-element-gt64
returns-then-element-gt64 c k l h =
    let e = c.args.element in
    marked_or c.bit.result c.bit-then-element-gt64.result k
    ∙ (λ i. marked (c.bit.ensures i) k || marked (c.bit-then-element-gt64.ensures i) k)
    ∙ (λ i. marked_bit 1 k (omega arith) (omega arith) l h i || marked_bit e k (omega arith) (omega arith) l h i)
    ∙ sets_high e k (omega arith) l

pub returns-else-element-gt64 : goal.returns-else-element-gt64
returns-else-element-gt64 c k l h =
    let e = c.args.element in
    ap (λ b. marked b k) c.bit-else-element-gt64.ensures ∙ marked_bit e k (omega arith) (omega arith) l h ∙ sets_low e k (omega arith) (omega arith)
