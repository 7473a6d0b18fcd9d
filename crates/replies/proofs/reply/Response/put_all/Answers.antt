use Rattle.std.proofs.Common.{Err, sym, ap, ◌∙◌}
use Rattle.std.proofs.lemmas.Result.{err_from_is_err_and}
use Rattle.replies.specs.Picks.{items_for, told_by}
use Rattle.replies.specs.Replies.{replied}
use Rattle.replies.proofs.Steps.{goes_on, stops, ends}
use Rattle.replies.proofs.reply.Response.put_all.Goals as goal

pub returns-in_err-put : goal.returns-in_err-put
unfolding items_for
returns-in_err-put c =
    let p = err_from_is_err_and c.from_residual.result c.from_residual.ensures.1 in
    let e = c.loop-number.invariant ∙ stops replied c.loop-number.number-index (told_by c.args.self.now) c.loop-number.out c.loop-number.writer _ c.put.new.out c.put.new.writer c.loop-number-test.true c.in_err-put.ensures in
    (p.1 ∙ ap (λ f. Err f) p.2 ∙ sym (ap (λ x. x.answer) e), sym (ap (λ x. x.out) e))

pub loop-number-preserved : goal.loop-number-preserved
loop-number-preserved c =
    c.loop-number.invariant ∙ goes_on replied c.loop-number.number-index (told_by c.args.self.now) c.loop-number.out c.loop-number.writer _ c.put.new.out c.put.new.writer c.loop-number-test.true c.in_ok-put.ensures

pub returns : goal.returns
unfolding items_for
returns c =
    let e = c.loop-number.invariant ∙ ends replied c.loop-number.number-index (told_by c.args.self.now) c.loop-number.out c.loop-number.writer c.loop-number-test.false in
    (c.end.ensures ∙ sym (ap (λ x. x.answer) e), sym (ap (λ x. x.out) e))
