use Rattle.std.proofs.Common.{rules, ℕ, List, map, ap, ◌==◌, length-append, tests}
use Rattle.std.specs.List.{enumerate_from}
use Rattle.std.proofs.lemmas.Iterator.{YieldsList}
use Rattle.std.proofs.lemmas.Iterator.Consumers.{YieldsList-at, YieldsList-from_enumerate}
use Rattle.std.proofs.lemmas.Iterator.Splits.{YieldsList-from_slice_split}
use Rattle.deck.specs.Deck.{meant}
use Rattle.deck.proofs.Lines.{parts, turn, end, start, next, wrong, done_all, blames_too}
use Rattle.deck.proofs.Deck.read.Given as given
use Rattle.deck.proofs.Deck.read.Goals as goal
use Rattle.deck.proofs.Deck.read.Goals.{After-next}

-- the loop takes the parts of the text, each with its number
road : (c : After-next) → YieldsList {B = ℕ × List ℕ} (given.iterator-loop-i).next_gives (λ p. (p.0, p.1.now)) c.into_iter-i-iterator.result (enumerate_from 0 (parts c.args.text.now))
road c =
    YieldsList-at c.into_iter-i-iterator.ensures.into_iter_gives (YieldsList-from_enumerate (YieldsList-at c.enumerate-i-items.ensures.source (YieldsList-from_slice_split _ (λ b. b == 10) c.args.text.now c.split.ensures.rest c.split.ensures.done c.split.ensures.closure (λ x b q k. search (rules, tests)))) c.enumerate-i-items.ensures.count)

pub loop-i-init : goal.loop-i-init
loop-i-init c = start c.args.text.now _ (ap (map meant) c.new-commands.ensures.items)

pub loop-i-preserved : goal.loop-i-preserved
loop-i-preserved c =
    let at = turn c.args.text.now (road (goal.at.loop-i-preserved c).After-next) c.loop-i.yielded c.loop-i.yielded_by c.next.ensures.steps c.in-Some.i c.in-Some.line c.in-Some.is in
    rw length-append (next c.loop-i.invariant c.in-Some.line.now _ at.0 at.2 (search rules))

pub returns-in_err-map_err : goal.returns-in_err-map_err
returns-in_err-map_err c =
    let at = turn c.args.text.now (road (goal.at.returns-in_err-map_err c).After-next) c.loop-i.yielded c.loop-i.yielded_by c.next.ensures.steps c.in-Some.i c.in-Some.line c.in-Some.is in
    search (rules, blames_too, wrong c.loop-i.invariant c.in-Some.line.now at.0 at.2)

pub returns : goal.returns
returns c =
    done_all c.loop-i.invariant (end c.args.text.now (road (goal.at.returns c).After-next) c.loop-i.yielded c.loop-i.yielded_by c.next.ensures.steps c.in-None.is)
