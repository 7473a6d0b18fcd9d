use Rattle.std.proofs.Common.{rules}
use Rattle.switch.specs.States.{view}
use Rattle.switch.proofs.Entered.{requested}
use Rattle.switch.proofs.switch.Switch.enter.Goals as goal

pub returns-in-Request : goal.returns-in-Request
returns-in-Request g c =
    requested (view g.H.Host.meaning c.args.self.now) _ c.args.key.number c.args.key.issuer c.args.place c.args.terms c.post-answer.result (g.H.Host.meaning c.post-answer.new.self) c.code_by-code.result c.in-Request.is (search rules) c.code_by-code.ensures (search rules)
