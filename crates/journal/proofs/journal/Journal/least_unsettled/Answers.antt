use Rattle.std.proofs.Common.{rules, ◌∙◌, sym}
use Rattle.std.proofs.lemmas.Iterator.{YieldsList-from_slice}
use Rattle.std.proofs.lemmas.Iterator.Adapters.{option_map_id}
use Rattle.std.proofs.lemmas.Iterator.Consumers.{min_from_yields_List, YieldsList-from_filter_map}
use Rattle.journal.specs.Places.{open_moment}
use Rattle.journal.proofs.Tallies.{least_is}
use Rattle.journal.proofs.journal.Journal.least_unsettled.Goals as goal

pub returns : goal.returns
returns c =
    let ps = c.args.self.now.places in
    let p = min_from_yields_List _ c.min.result c.min.ensures.ran (YieldsList-from_filter_map _ open_moment (YieldsList-from_slice ps cc) c.filter_map.ensures.closure (λ x r q k. search rules)) in
    sym (option_map_id c.min.result) ∙ p ∙ least_is ps
