use Rattle.std.proofs.Common.{ℕ, rules, arith, map-id, subst}
use Rattle.std.proofs.lemmas.Bool.Decides.{nat_tests}
use Rattle.members.specs.Codes.{proper_code}
use Rattle.members.specs.Each.{AllKept}
use Rattle.members.proofs.banks.Banks.open.Goals as goal

pub invariant_of-result : goal.invariant_of-result
invariant_of-result c =
    let kept = subst (AllKept proper_code (λ (n : ℕ). n) _ c.args.codes.now) c.in_ok-codes.ensures.ok_part (c.all_kept-kept.ensures proper_code (λ (n : ℕ). n) (search rules)) in
    let same = map-id c.args.codes.now in
    grind (arith, nat_tests, kept, same)

pub returns : goal.returns
returns c =
    let kept = subst (AllKept proper_code (λ (n : ℕ). n) _ c.args.codes.now) c.in_ok-codes.ensures.ok_part (c.all_kept-kept.ensures proper_code (λ (n : ℕ). n) (search rules)) in
    let same = map-id c.args.codes.now in
    grind (arith, nat_tests, kept, same)

pub returns-in_err-codes : goal.returns-in_err-codes
returns-in_err-codes c =
    let kept = subst (AllKept proper_code (λ (n : ℕ). n) _ c.args.codes.now) c.in_err-codes.ensures.ok_part (c.all_kept-kept.ensures proper_code (λ (n : ℕ). n) (search rules)) in
    grind (arith, nat_tests, kept)
