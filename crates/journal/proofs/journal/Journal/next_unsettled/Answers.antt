use Rattle.std.proofs.Common.{rules, subst}
use Rattle.journal.specs.Passes.{Finds}
use Rattle.journal.proofs.Seeks.{Gives, by_test}
use Rattle.journal.proofs.Rings.{still, ahead, round}
use Rattle.journal.proofs.journal.Journal.next_unsettled.Goals as goal

pub returns-in-Some : goal.returns-in-Some
returns-in-Some c =
    let ps = c.args.self.now.places in
    let found = by_test _ still ps c.args.mark 512 c.first.result c.first.ensures (λ e b t. search rules) in
    ahead ps c.args.mark c.requires c.in-Some.held (subst (Finds (Gives still) ps c.args.mark 512) c.in-Some.is found).first

pub returns-in-None : goal.returns-in-None
returns-in-None c =
    let ps = c.args.self.now.places in
    let behind = by_test _ still ps c.args.mark 512 c.first.result c.first.ensures (λ e b t. search rules) in
    let found = by_test _ still ps 0 c.args.mark c.first-in-None.result c.first-in-None.ensures (λ e b t. search rules) in
    round ps c.args.mark c.requires _ (subst (Finds (Gives still) ps c.args.mark 512) c.in-None.is behind).first c.args.self.now.full found
