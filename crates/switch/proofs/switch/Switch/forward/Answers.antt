use Rattle.switch.specs.States.{view}
use Rattle.switch.proofs.Asked.{put_forwards, undone_forwards}
use Rattle.switch.proofs.switch.Switch.forward.Goals as goal

pub returns-in-Owed : goal.returns-in-Owed
returns-in-Owed g c = undone_forwards (view g.H.Host.meaning c.args.self.now) _ _ _ _ _ c.turn.ensures c.in_ok-held.ensures c.in-Owed.is c.undo.ensures

pub returns-in_default : goal.returns-in_default
returns-in_default g c = put_forwards (view g.H.Host.meaning c.args.self.now) _ _ _ _ _ c.turn.ensures c.in_ok-held.ensures c.in_default.not-Owed c.put.ensures
