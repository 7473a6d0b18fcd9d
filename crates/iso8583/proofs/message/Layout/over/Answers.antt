use Rattle.std.proofs.Common.{take}
use Rattle.iso8583.proofs.Presence.{taken_apart}
use Rattle.iso8583.proofs.Tiles.{tiled}
use Rattle.iso8583.proofs.Wholes.{bits_long}
use Rattle.iso8583.proofs.message.Layout.over.Goals as goal

pub invariant_of-result : goal.invariant_of-result
invariant_of-result c =
    let bs = c.args.bytes.now in
    let l = c.args.self in
    let w = taken_apart bs l.mti l.bitmap (take l.count l.found) c.requires.found in
    record {
      few = c.requires.few;
      whole = ∣ c.requires.found ∣₁;
      tiled = ∣ tiled l.bitmap bs (take l.count l.found) (bits_long bs l.bitmap w.mapped) w.found ∣₁;
    }
