use Rattle.std.proofs.Common.{◌≡◌, ℕ, is_some, length, Some, sym, ap, ◌∙◌}
use Rattle.std.proofs.Math.Logic.{∥∥₁_elim, ∥∥₁_map}
use native.Mathlib.Bridge.{le_prop}
use base.Stored.{coded_bool, coded_ℕ}
use denote.Struct.Props.{≡_prop}
use Rattle.iso8583.specs.declared.found.Found.{Found}
use Rattle.iso8583.specs.declared.message.Message.{Message}
use Rattle.iso8583.specs.Messages.{found_of, parts_of, present}
use Rattle.iso8583.specs.Reading.{body}
use Rattle.iso8583.proofs.Presence.{taken_apart, found_present}
use Rattle.iso8583.proofs.Tiles.{Inside, inside}
use Rattle.iso8583.proofs.message.Message.element.Goals as goal

-- what was found is there by the bitmap
by_bitmap : (m : Message) (k : ℕ) → is_some (found_of (parts_of m).elements k) ≡ present m k
by_bitmap m k =
    ∥∥₁_elim m.whole (≡_prop coded_bool _ _) (λ w. found_present m.bytes.now m.layout.mti m.layout.bitmap (parts_of m).elements k (taken_apart _ _ _ _ w))

-- and lies in the message's bytes
lies : (m : Message) (k : ℕ) (f : Found) → Some f ≡ found_of (parts_of m).elements k → ∥ Inside k (length m.bytes.now) f ∥₁
lies m k f h = ∥∥₁_map m.tiled (λ t. inside (parts_of m).elements (body m.layout.bitmap) 1 (length m.bytes.now) k f t h)

pub lend-requires : goal.lend-requires
lend-requires c =
    let l = lies c.args.self.now c.args.number c.in_ok-find.field-0 c.in_ok-find.ensures in
    (∥∥₁_elim l le_prop (λ i. i.forward), ∥∥₁_elim l le_prop (λ i. i.within))

pub returns-in_err-find-clause-there : goal.returns-in_err-find-clause-there
returns-in_err-find-clause-there c =
    ap is_some c.from_residual.ensures ∙ ap is_some c.in_err-find.ensures ∙ by_bitmap c.args.self.now c.args.number

pub returns-clause-part : goal.returns-clause-part
returns-clause-part c =
    record {
      found = c.in_ok-find.field-0;
      here = sym c.in_ok-find.ensures;
      number = c.lend.ensures.number ∙ ∥∥₁_elim (lies c.args.self.now c.args.number c.in_ok-find.field-0 c.in_ok-find.ensures) (≡_prop coded_ℕ _ _) (λ i. i.number);
      offset = c.lend.ensures.offset;
      chars = c.lend.ensures.chars;
    }

pub returns-clause-there : goal.returns-clause-there
returns-clause-there c = ap is_some c.in_ok-find.ensures ∙ by_bitmap c.args.self.now c.args.number
