use mathlib.Core.Logic.{∥∥₁_map}
use Rattle.journal.proofs.Stores.{apart_cleared}
use Rattle.journal.proofs.journal.Journal.clear.Goals as goal

pub write-requires : goal.write-requires
write-requires c =
    let j = c.args.self.now in
    (c.requires, ∥∥₁_map j.apart (λ apart. apart_cleared j.places c.args.place apart))
