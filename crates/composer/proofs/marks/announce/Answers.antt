use Rattle.std.proofs.Common.{◌≡◌, ◌<◌, Ok, Err, MatchResult, rules, sym, ap, ◌∙◌, subst, arith}
use Rattle.std.specs.List.{All}
use Rattle.std.proofs.iter.runs.Made.{run_of_exit}
use Rattle.std.proofs.lemmas.List.Elements.{All-push}
use Rattle.elements.specs.declared.fault.MessageFault.TheVariants.{Unknown}
use Rattle.composer.specs.Writing.{announced}
use Rattle.composer.proofs.Gathers.{all_gathered}
use Rattle.composer.proofs.marks.announce.Goals as goal

pub loop-element-preserved : goal.loop-element-preserved
loop-element-preserved g c =
    let es = c.loop-element.yielded in
    (All-push (λ e. e < 256) es c.in-Some.element c.loop-element.invariant.0 (omega arith), c.add-set.ensures es c.loop-element.invariant.1)

pub returns : goal.returns
returns g c =
    let r = run_of_exit g.I.Iterator.next_gives c.into_iter-element-iterator.result c.loop-element.yielded c.loop-element.element-iterator c.loop-element.yielded_by c.next.new.self c.in-None.ensures.steps in
    let es : c.loop-element.yielded ≡ r.0.items = sym r.3.0 in
    let told : MatchResult c.loop-element.set (λ b. c.map_err.result ≡ Ok b) (λ k. c.map_err.result ≡ Err (Unknown k 0)) = search rules in (
      r.0,
      r.1 ∙ c.into_iter-element-iterator.ensures.into_iter_gives,
      r.2,
      (subst (All (λ e. e < 256)) es c.loop-element.invariant.0, all_gathered c.loop-element.yielded c.loop-element.set _ c.loop-element.invariant.1 told ∙ ap announced es),
    )
