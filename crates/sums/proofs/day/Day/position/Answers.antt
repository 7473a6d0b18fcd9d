use Rattle.std.proofs.Common.{sym, arith}
use Rattle.std.proofs.lemmas.Int.{ints}
use Rattle.sums.specs.Days.{sums_of}
use Rattle.sums.proofs.Nets.{balance_none, balance_more}
use Rattle.sums.proofs.day.Day.position.Goals as goal

pub loop-other-init : goal.loop-other-init
loop-other-init c = (sym (balance_none (sums_of c.args.self.now) c.args.bank), omega (arith, ints), omega (arith, ints))

pub loop-other-preserved : goal.loop-other-preserved
loop-other-preserved c =
    let more = balance_more (sums_of c.args.self.now) c.loop-other.other c.args.bank in
    let is = c.loop-other.invariant.0 in
    let low = c.loop-other.invariant.1 in
    let high = c.loop-other.invariant.2 in
    let got = c.between-sum.ensures.value in
    let least = c.between-sum.ensures.small.0 in
    let most = c.between-sum.ensures.small.1 in
    (omega (arith, ints), omega (arith, ints), omega (arith, ints))
