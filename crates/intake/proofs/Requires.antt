-- An element that is required: what is read of it, or that it is missing.
use Rattle.std.proofs.Common.{ℕ, is_some, Some, None, Option, sym, refl, ap, ◌∙◌, arith}
use Rattle.std.specs.Option.{ok_or}
use Rattle.elements.specs.declared.fault.SwitchFault.TheVariants.{Missing}
use Rattle.elements.specs.Table.{table}
use Rattle.iso8583.specs.declared.message.Element.{Element}
use Rattle.iso8583.specs.declared.message.Message.{Message}
use Rattle.iso8583.specs.Messages.{Handed}
use Rattle.intake.specs.Conforms.{row_of, conforms, Stands, Required}
use Rattle.intake.specs.Orders.{text_of, characters, first_place}
use Rattle.intake.proofs.Founds.{found_conforms, found_behind}

module _ (m : Message) (k : ℕ) where
  -- an element that is handed out stands in the message; where none is, it is missing
  pub handed_required : (o : Option Element) → Handed m k o → Required m k (Stands m k) (ok_or o (Missing k))
  handed_required None h = (ap is_some h, refl)
  handed_required (Some e) h = (
    ap is_some h.here,
    record {
      chars = h.chars ∙ sym (ap (characters (text_of m)) h.here);
      offset = h.offset ∙ sym (ap first_place h.here);
      sound = ap (conforms (row_of table k)) h.chars ∙ found_conforms m k h.found h.here;
      late = omega (arith, found_behind m k h.found h.here, h.offset);
    },
  )
