use Rattle.std.proofs.Common.{◌≡◌, ℕ, ◌^◌, ◌<◌, length, Some, Option, IfSome, sym, ◌∙◌, subst}
use Rattle.std.specs.Str.Parse.{digits_value}
use Rattle.intake.proofs.Figures.{digits_number}
use Rattle.intake.proofs.fields.digits.Goals as goal

pub returns : goal.returns
returns c =
    let ds = c.args.chars.now in
    let some : Some c.unwrap.result ≡ Some (digits_value 10 ds) = sym c.unwrap.ensures ∙ c.number.ensures.value ∙ digits_number ds c.requires.0 c.requires.1 c.requires.2 in
    record { value = cc; small = subst (λ (o : Option ℕ). IfSome o (λ n. n < 10 ^ length ds)) c.unwrap.ensures c.number.ensures.small }
