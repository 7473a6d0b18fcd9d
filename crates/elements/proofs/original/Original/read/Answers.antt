use Rattle.std.proofs.Common.{arith}
use Rattle.elements.proofs.Fractions.{no_part, put_together}
use Rattle.elements.proofs.original.Original.read.Goals as goal

pub returns-in_err-trace-clause-value : goal.returns-in_err-trace-clause-value
returns-in_err-trace-clause-value c =
    no_part c.args.digits.now 4 6 _ c.from_residual-in_err-trace.ensures c.in_err-trace.ensures.value (omega arith) (omega arith) (omega arith)

pub returns-in_err-moment-clause-value : goal.returns-in_err-moment-clause-value
returns-in_err-moment-clause-value c =
    no_part c.args.digits.now 10 10 _ c.from_residual-in_err-moment.ensures c.in_err-moment.ensures.value (omega arith) (omega arith) (omega arith)

pub returns-in_err-acquirer-clause-value : goal.returns-in_err-acquirer-clause-value
returns-in_err-acquirer-clause-value c =
    no_part c.args.digits.now 20 11 _ c.from_residual-in_err-acquirer.ensures c.in_err-acquirer.ensures.value (omega arith) (omega arith) (omega arith)

pub returns-in_err-forwarder-clause-value : goal.returns-in_err-forwarder-clause-value
returns-in_err-forwarder-clause-value c =
    no_part c.args.digits.now 31 11 _ c.from_residual-in_err-forwarder.ensures c.in_err-forwarder.ensures.value (omega arith) (omega arith) (omega arith)

pub returns-clause-value : goal.returns-clause-value
returns-clause-value c =
    put_together c.args.digits.now c.if-digits-ne-DIGITS.false
    c.in_ok-mti.mti c.in_ok-trace.trace c.in_ok-moment.moment c.in_ok-acquirer.acquirer c.in_ok-forwarder.forwarder
    c.in_ok-mti.ensures.value c.in_ok-trace.ensures.value c.in_ok-moment.ensures.value c.in_ok-acquirer.ensures.value c.in_ok-forwarder.ensures.value
