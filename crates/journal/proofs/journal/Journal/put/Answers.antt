use mathlib.Core.Logic.{∥∥₁_map}
use Rattle.journal.proofs.Stores.{apart_put}
use Rattle.journal.proofs.journal.Journal.put.Goals as goal

pub write-requires : goal.write-requires
write-requires c =
    let j = c.args.self.now in
    (c.requires.0, ∥∥₁_map j.apart (λ apart. apart_put j.places c.args.place c.args.entry c.requires.1 apart))
