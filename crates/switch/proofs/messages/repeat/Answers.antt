use Rattle.std.proofs.Common.{◌≤◌, sym, subst}
use Rattle.switch.proofs.Repeats.{repeat_small}
use Rattle.switch.proofs.messages.repeat.Goals as goal

pub returns : goal.returns
returns c = record { code = c.repeated.ensures; small = subst (λ n. n ≤ 99) (sym c.repeated.ensures) (repeat_small c.args.entry.now _ c.requires) }
