use Rattle.std.proofs.Common.{◌-◌, not, length, take, drop, ◌∙◌, rules, tests}
use Rattle.std.proofs.lemmas.Iterator.{YieldsList-from_slice}
use Rattle.std.proofs.lemmas.Iterator.Consumers.{count_from_yields_List}
use Rattle.std.proofs.lemmas.Iterator.Search.{YieldsList-from_take_while}
use Rattle.std.proofs.lemmas.List.{take_rest}
use Rattle.std.proofs.lemmas.List.Folds.{length-prefix_len}
use Rattle.deck.specs.Text.{blank}
use Rattle.deck.proofs.text.first_word.Goals as goal

pub returns : goal.returns
returns c =
    let text = c.args.text.now in
    let start = count_from_yields_List c.take_while.result _ c.count-start.ensures.ran (YieldsList-from_take_while _ blank (YieldsList-from_slice text (cc)) c.take_while.ensures.closure c.take_while.ensures.done (λ x b q k. search (rules, tests))) ∙ length-prefix_len blank text in
    let rest = take (length text - c.count-start.result) (drop c.count-start.result text) in
    let end = count_from_yields_List c.take_while-2.result _ c.count-end.ensures.ran (YieldsList-from_take_while _ (λ b. not (blank b)) (YieldsList-from_slice rest (cc)) c.take_while-2.ensures.closure c.take_while-2.ensures.done (λ x b q k. search (rules, tests))) ∙ length-prefix_len (λ b. not (blank b)) rest in
    let parts = c.split_at.ensures in
    record {
      word = parts.front ∙ rw (end, take_rest, start);
      rest = parts.back ∙ rw (end, take_rest, start);
    }
