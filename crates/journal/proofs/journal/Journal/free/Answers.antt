use Rattle.std.proofs.Common.{rules, ◌∙◌, arith, Option}
use Rattle.std.proofs.lemmas.Iterator.{YieldsList-from_slice}
use Rattle.std.proofs.lemmas.Iterator.Search.{position_from_yields_List}
use Rattle.std.proofs.lemmas.Option.{IfSome_then}
use Rattle.std.specs.Option.{is_none}
use Rattle.journal.specs.declared.entry.Entry.{Entry}
use Rattle.journal.proofs.Seeks.{lowest_is}
use Rattle.journal.proofs.journal.Journal.free.Goals as goal

pub returns : goal.returns
returns c =
    let ps = c.args.self.now.places in
    let p = position_from_yields_List (λ (o : Option Entry). is_none o) _ _ c.position.result c.position.ensures.ran (YieldsList-from_slice ps cc) (λ x b q k. search rules) in
    (p ∙ lowest_is ps, IfSome_then c.position.result c.position.ensures.bound (λ i lt. omega (arith, c.args.self.now.full)))
