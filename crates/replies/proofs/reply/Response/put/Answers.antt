use Rattle.std.proofs.Common.{Some, Ok, sym, refl, ap, ◌∙◌, subst}
use Rattle.elements.specs.Fields.{spelled}
use Rattle.std.proofs.lemmas.Bool.{cond-true, cond-false, eq-eqb, ne_eqb}
use Rattle.replies.specs.Picks.{PutTold}
use Rattle.replies.proofs.Requests.{came_not, came_lent}
use Rattle.replies.proofs.Steps.{code_spelled}
use Rattle.replies.proofs.reply.Response.put.Goals as goal

pub returns-then-number-eq-RESPONSE_CODE : goal.returns-then-number-eq-RESPONSE_CODE
returns-then-number-eq-RESPONSE_CODE c =
    let k = c.args.number in
    let digits = c.spell-digits.ensures ∙ ap (spelled 10 2) c.from.ensures ∙ code_spelled c.args.self.now.code c.args.self.now.small in
    let told = cond-true _ _ _ (eq-eqb k 39 c.if-number-eq-RESPONSE_CODE.true) ∙ ap (λ cs. Some cs) (sym digits) in
    subst (λ o. PutTold c.args.out.now c.args.writer.now k o c.put.result c.put.new.out c.put.new.self) (sym told) c.put.ensures

pub returns-in-Some : goal.returns-in-Some
returns-in-Some c =
    let m = c.args.self.now.message.now in
    let k = c.args.number in
    let came = cond-false _ _ _ (ne_eqb k 39 c.if-number-eq-RESPONSE_CODE.false) ∙ came_lent m k c.in-Some.element c.in-Some.ensures.part in
    subst (λ o. PutTold c.args.out.now c.args.writer.now k o c.put-in-Some.result c.put-in-Some.new.out c.put-in-Some.new.self) (sym came) c.put-in-Some.ensures

pub returns-in-None : goal.returns-in-None
returns-in-None c =
    let m = c.args.self.now.message.now in
    let k = c.args.number in
    let came = cond-false _ _ _ (ne_eqb k 39 c.if-number-eq-RESPONSE_CODE.false) ∙ came_not m k c.in-None.ensures.part in
    subst (λ o. PutTold c.args.out.now c.args.writer.now k o (Ok tt) c.args.out.now c.args.writer.now) (sym came) (refl, refl, refl)
