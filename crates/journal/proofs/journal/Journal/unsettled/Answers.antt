use Rattle.std.proofs.Common.{◌≡◌, rules, ◌∙◌}
use Rattle.std.specs.List.{count_by}
use Rattle.journal.specs.Places.{is_open}
use Rattle.journal.proofs.Tallies.{open_counted}
use Rattle.journal.proofs.journal.Journal.unsettled.Goals as goal

pub returns : goal.returns
returns c =
    let ps = c.args.self.now.places in
    let p : c.count.result ≡ count_by is_open ps = search rules in p ∙ open_counted ps
