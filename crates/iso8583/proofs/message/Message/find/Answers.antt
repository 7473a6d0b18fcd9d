use Rattle.std.proofs.Common.{eqb, ◌∙◌, rules, tests}
use Rattle.std.proofs.lemmas.Iterator.{YieldsList-from_slice}
use Rattle.std.proofs.lemmas.Iterator.Search.{find_from_yields_List}
use Rattle.iso8583.specs.Messages.{parts_of}
use Rattle.iso8583.proofs.message.Message.find.Goals as goal

pub returns : goal.returns
returns c =
    c.copied.ensures
    ∙ find_from_yields_List (λ f. eqb f.element c.args.number) _ _ _ c.find.ensures.ran
    (YieldsList-from_slice (parts_of c.args.self.now).elements c.iter.ensures.rest) (λ x b q h. search (rules, tests))
