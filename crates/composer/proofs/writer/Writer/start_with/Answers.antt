use Rattle.std.proofs.Common.{Ok, Err, sym, refl, ap, ◌∙◌, subst, arith}
use Rattle.std.proofs.lemmas.Result.{err_from_is_err_and}
use Rattle.elements.specs.Table.{table}
use Rattle.composer.specs.Writers.{Started}
use Rattle.composer.specs.Writing.{chosen}
use Rattle.composer.proofs.Starts.{mti_refused, marks_refused, head_refused, started}
use Rattle.composer.proofs.writer.Writer.start_with.Goals as goal

pub returns-then-mti-gt9999 : goal.returns-then-mti-gt9999
returns-then-mti-gt9999 g c =
    let p = c.announce-bitmap.ensures in
    (p.0, p.1, p.2, (p.3.0, (mti_refused c.args.out.now c.args.mti p.0.items c.if-mti-gt9999.true, refl)))

pub returns-in_err-bitmap : goal.returns-in_err-bitmap
returns-in_err-bitmap g c =
    let p = c.announce-bitmap.ensures in
    let out = c.args.out.now in
    let r = err_from_is_err_and c.from_residual.result c.from_residual.ensures.1 in (
      p.0,
      p.1,
      p.2,
      (
        p.3.0,
        subst (λ s. Started out c.args.mti p.0.items s out) (sym (r.1 ∙ ap (λ f. Err f) r.2))
            (marks_refused out c.args.mti p.0.items (omega arith) _ (sym c.in_err-bitmap.was ∙ p.3.1), refl),
      ),
    )

pub returns-then-out-used : goal.returns-then-out-used
returns-then-out-used g c =
    let p = c.announce-bitmap.ensures in
    (p.0, p.1, p.2, (p.3.0, (head_refused c.args.out.now c.args.mti p.0.items (omega arith) c.in_ok-bitmap.bitmap (sym c.in_ok-bitmap.was ∙ p.3.1) (omega (arith, c.body-used.ensures)), refl)))

pub returns : goal.returns
returns g c =
    let p = c.announce-bitmap.ensures in (
      p.0,
      p.1,
      p.2,
      (
        p.3.0,
        started c.args.out.now c.args.mti p.0.items (omega arith) c.in_ok-bitmap.bitmap (sym c.in_ok-bitmap.was ∙ p.3.1) (omega (arith, c.body-used.ensures))
            ∙ (λ i. Ok (record { out = sym c.lay_head.ensures i; used = sym c.body-used.ensures i; rest = chosen table c.in_ok-bitmap.bitmap })),
      ),
    )
