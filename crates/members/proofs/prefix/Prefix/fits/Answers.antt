use Rattle.std.proofs.Common.{◌-◌, arith, rules}
use native.Mathlib.Nat.{one-le-pow}
use Rattle.members.proofs.Numerals.{digitwise}
use Rattle.members.proofs.prefix.Prefix.fits.Goals as goal

pub nonzero_div-result : goal.nonzero_div-result
nonzero_div-result c =
    omega (arith, c.pow.ensures, one-le-pow (c.args.card.now.count - c.args.self.now.count) 10 (omega arith))

pub returns-then-card-le-MOST_CARD_DIGITS-clause-digits : goal.returns-then-card-le-MOST_CARD_DIGITS-clause-digits
returns-then-card-le-MOST_CARD_DIGITS-clause-digits c = digitwise c.args.self.now c.args.card.now _ (search rules)
