use Rattle.std.proofs.Common.{not, sym, ◌∙◌, rules, tests, None, Some}
use Rattle.std.proofs.lemmas.Iterator.{YieldsList-from_slice}
use Rattle.std.proofs.lemmas.Iterator.Adapters.{position_from-zero}
use Rattle.std.proofs.lemmas.Iterator.Search.{position_from_yields_List}
use Rattle.elements.specs.Table.{fits}
use Rattle.iso8583.proofs.Wrong.{wrong_by_position}
use Rattle.iso8583.proofs.read.first_wrong.Goals as goal

pub returns-in_err-place : goal.returns-in_err-place
returns-in_err-place c =
    let cs = c.args.chars.now in
    let at = position_from_yields_List (λ x. not (fits c.args.format x)) _ _ c.position.result c.position.ensures.ran (YieldsList-from_slice cs c.iter.ensures.rest) (λ x b q h. search (rules, tests)) in
    c.from_residual.ensures
    ∙ wrong_by_position (fits c.args.format) c.args.start cs None (sym c.in_err-place.was ∙ at ∙ position_from-zero (λ x. not (fits c.args.format x)) cs)

pub returns : goal.returns
returns c =
    let cs = c.args.chars.now in
    let at = position_from_yields_List (λ x. not (fits c.args.format x)) _ _ c.position.result c.position.ensures.ran (YieldsList-from_slice cs c.iter.ensures.rest) (λ x b q h. search (rules, tests)) in
    wrong_by_position (fits c.args.format) c.args.start cs (Some c.in_ok-place.place) (sym c.in_ok-place.was ∙ at ∙ position_from-zero (λ x. not (fits c.args.format x)) cs)
