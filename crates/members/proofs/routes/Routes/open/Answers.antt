use Rattle.std.proofs.Common.{◌≡◌, ◌<◌, ◌≤◌, map, length, take, rules, arith, subst, sym}
use Rattle.std.proofs.lemmas.Bool.Decides.{nat_tests}
use Rattle.std.specs.List.{All}
use Rattle.members.proofs.Places.{ways_near}
use Rattle.members.specs.Each.{AllKept}
use Rattle.members.specs.Members.{codes_of}
use Rattle.members.specs.Routing.{proper_route, way_of}
use Rattle.members.proofs.routes.Routes.open.Goals as goal

pub invariant_of-result-clause-banks : goal.invariant_of-result-clause-banks
invariant_of-result-clause-banks c =
    let codes = codes_of c.args.banks.now in
    let kept = subst (AllKept (proper_route codes) (way_of codes) _ c.args.routes.now) c.in_ok-ways.ensures.ok_part (c.all_kept-kept.ensures (proper_route codes) (way_of codes) (search rules)) in
    let few : length codes ≤ 16 = grind (arith, nat_tests, c.args.banks.now.sound) in
    let laid : take c.len.result c.laid_out.result ≡ map (way_of codes) c.args.routes.now = cc in
    subst (All (λ w. w.issuer < 16)) (sym laid) (ways_near codes c.args.routes.now few)

pub returns : goal.returns
returns c =
    let codes = codes_of c.args.banks.now in
    let kept = subst (AllKept (proper_route codes) (way_of codes) _ c.args.routes.now) c.in_ok-ways.ensures.ok_part (c.all_kept-kept.ensures (proper_route codes) (way_of codes) (search rules)) in
    search rules

pub returns-in_err-ways : goal.returns-in_err-ways
returns-in_err-ways c =
    let codes = codes_of c.args.banks.now in
    let kept = subst (AllKept (proper_route codes) (way_of codes) _ c.args.routes.now) c.in_err-ways.ensures.ok_part (c.all_kept-kept.ensures (proper_route codes) (way_of codes) (search rules)) in
    search rules
