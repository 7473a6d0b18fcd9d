use Rattle.std.proofs.Common.{Err, sym, ap, ◌∙◌, subst}
use Rattle.std.proofs.lemmas.Result.{err_from_is_err_and}
use Rattle.iso8583.specs.Messages.{LaidOut}
use Rattle.iso8583.proofs.Wholes.{body_inside, read_whole, read_faulty}
use Rattle.iso8583.proofs.message.Layout.read.Goals as goal

pub read_elements-requires : goal.read_elements-requires
read_elements-requires c =
    body_inside c.args.bytes.now c.in_ok-mti.mti c.in_ok-read_bitmap.field-0 c.in_ok-bitmap.bitmap
    c.in_ok-mti.ensures c.in_ok-read_bitmap.ensures c.in_ok-bitmap.ensures

pub returns-in_err-count : goal.returns-in_err-count
returns-in_err-count c =
    let p = err_from_is_err_and c.from_residual-in_err-count.result c.from_residual-in_err-count.ensures.1 in
    subst (LaidOut c.args.bytes.now) (sym (p.1 ∙ ap (λ f. Err f) p.2))
    (read_faulty c.args.bytes.now c.in_ok-mti.mti c.in_ok-read_bitmap.field-0 c.in_ok-bitmap.bitmap
    c.in_ok-mti.ensures c.in_ok-read_bitmap.ensures c.in_ok-bitmap.ensures _ c.in_err-count.ensures)

pub returns : goal.returns
returns c =
    let told = c.in_ok-count.ensures in
    record {
      few = told.0;
      found =
          read_whole c.args.bytes.now c.in_ok-mti.mti c.in_ok-read_bitmap.field-0 c.in_ok-bitmap.bitmap
          c.in_ok-mti.ensures c.in_ok-read_bitmap.ensures c.in_ok-bitmap.ensures _ told.1;
    }
