use Rattle.std.proofs.Common.{◌≡◌, ℕ, ◌<◌, List, map, take, Ok, Err, Result, sym, ap, ◌∙◌, subst, arith}
use Rattle.std.specs.List.{All}
use Rattle.std.proofs.lemmas.Grind.{common_steps}
use Rattle.std.proofs.lemmas.Result.{err_from_is_err_and}
use Rattle.elements.specs.declared.fault.MessageFault.{MessageFault}
use Rattle.iso8583.specs.declared.message.Element.{Element}
use Rattle.composer.specs.declared.writer.Writer.{Writer}
use Rattle.composer.specs.Composes.{Steps, items}
use Rattle.composer.specs.Contents.{Item, composed, content_of}
use Rattle.composer.specs.Laws.{ReadAgain, YieldedAgain}
use Rattle.composer.specs.Writers.{Started}
use Rattle.composer.proofs.Puts.{numbers_of_items, begins, refused}
use Rattle.composer.proofs.Rounds.{read_again, yielded_again}
use Rattle.composer.proofs.compose.compose.Goals as goal

-- both laws follow from the steps
reads : (out out' : List ℕ) (mti : ℕ) (is : List Item) (r : Result ℕ MessageFault) → All (λ n. n < 256) (map (λ i. i.number) is) → Steps (composed out mti is) r out' → ReadAgain mti is r out'
reads out out' mti is (Ok n) small s = ap (λ o. content_of (take n o)) s.1 ∙ read_again out mti is n small (sym s.0)
reads out out' mti is (Err f) small s = tt

yields : (out out' : List ℕ) (mti : ℕ) (is : List Item) (r : Result ℕ MessageFault) → Steps (composed out mti is) r out' → YieldedAgain out mti is r out'
yields out out' mti is r s bs h room =
    let e = yielded_again out mti is bs h room in
    (s.0 ∙ ap (λ c. c.answer) e, s.1 ∙ ap (λ c. c.out) e)

-- the start, told of the elements as a message has them
begun : (out out' : List ℕ) (mti : ℕ) {ns : List ℕ} {r s : Result Writer MessageFault} (es : List Element) → All (λ n. n < 256) ns × Started out mti ns r out' → ns ≡ map (λ e. e.number) es → r ≡ s → All (λ n. n < 256) (map (λ i. i.number) (items es)) × Started out mti (map (λ i. i.number) (items es)) s out'
begun out out' mti {ns} {r} {s} es b e was =
    subst (λ ns. All (λ n. n < 256) ns × Started out mti ns s out') (e ∙ numbers_of_items es) (b.0, subst (λ r. Started out mti ns r out') was b.1)

pub returns-in_err-writer : goal.returns-in_err-writer
returns-in_err-writer c =
    let out = c.args.out.now in
    let is = items c.args.elements.now in
    let same : c.start_with.ensures.0.items ≡ map (λ (e : Element). e.number) c.args.elements.now = grind (arith, common_steps) in
    let b = begun out _ c.args.mti c.args.elements.now c.start_with.ensures.3 same c.in_err-writer.was in
    let p = err_from_is_err_and c.from_residual.result c.from_residual.ensures.1 in
    let steps = refused out c.args.mti is b.1 (p.1 ∙ ap (λ f. Err f) p.2) in
    record { steps = steps; read_again = reads out _ c.args.mti is _ b.0 steps; yielded_again = yields out _ c.args.mti is _ steps }

pub returns : goal.returns
returns c =
    let out = c.args.out.now in
    let is = items c.args.elements.now in
    let same : c.start_with.ensures.0.items ≡ map (λ (e : Element). e.number) c.args.elements.now = grind (arith, common_steps) in
    let b = begun out _ c.args.mti c.args.elements.now c.start_with.ensures.3 same c.in_ok-writer.was in
    let steps = begins out c.args.mti is b.1 c.put_all.ensures in
    record { steps = steps; read_again = reads out _ c.args.mti is _ b.0 steps; yielded_again = yields out _ c.args.mti is _ steps }
