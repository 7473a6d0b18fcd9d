use Rattle.std.proofs.Common.{◌≡◌, ℕ, List, filter, is_some, ◌∙◌, subst, arith}
use Rattle.std.proofs.lemmas.Grind.{common_steps}
use Rattle.composer.specs.Writers.{Started}
use Rattle.replies.specs.Picks.{items_for, items_of, numbers_of, told_by}
use Rattle.replies.specs.Replies.{replied}
use Rattle.replies.proofs.Steps.{numbers_there}
use Rattle.replies.proofs.reply.Response.begin.Goals as goal

pub returns : goal.returns
unfolding items_for
returns c =
    let says = told_by c.args.self.now in
    let there : (ks : List ℕ) → c.iter.result.rest.now ≡ ks → c.start_with.ensures.0.items ≡ filter (λ k. is_some (says k)) ks = λ ks e. grind (arith, common_steps) in
    subst (λ t. Started c.args.out.now t (numbers_of (items_of c.args.self.now)) c.start_with.result c.start_with.new.out) c.mti.ensures
    (subst (λ ns. Started c.args.out.now c.mti.result ns c.start_with.result c.start_with.new.out) (there replied c.iter.ensures.rest ∙ numbers_there replied says) c.start_with.ensures.3.1)
