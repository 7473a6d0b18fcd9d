use Rattle.std.proofs.Common.{rules}
use Rattle.members.specs.Members.{routes_of}
use Rattle.members.proofs.Choosing.{issued, issuer_near}
use Rattle.members.proofs.routes.Routes.issuer.Goals as goal

pub returns-clause-longest : goal.returns-clause-longest
returns-clause-longest c = issued (routes_of c.args.self.now) c.args.card.now c.map.result (search rules)

pub returns-clause-within : goal.returns-clause-within
returns-clause-within c = issuer_near (routes_of c.args.self.now) c.args.card.now c.map.result c.args.self.now.banks (search rules)
