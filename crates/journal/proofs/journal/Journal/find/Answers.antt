use Rattle.std.proofs.Common.{rules}
use Rattle.journal.proofs.Seeks.{by_test, numbered, sought}
use Rattle.journal.proofs.journal.Journal.find.Goals as goal

pub returns : goal.returns
returns c =
    let j = c.args.self.now in
    let n = c.args.number in
    sought j.places n c.first.result j.full j.apart (by_test _ (numbered n) j.places 0 512 c.first.result c.first.ensures (λ e b t. search rules))
