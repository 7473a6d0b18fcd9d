use Rattle.std.proofs.Common.{sym, subst}
use Rattle.iso8583.specs.Messages.{LiesIn}
use Rattle.iso8583_tests.proofs.reader.a_layout_is_laid_over_moved_bytes.Goals as goal

pub over-message-requires : goal.over-message-requires
over-message-requires g c = subst (λ bs. LiesIn bs c.in-Ok.layout) (sym c.copy_from_slice.ensures.after) c.in-Ok.ensures
