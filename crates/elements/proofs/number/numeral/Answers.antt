use Rattle.std.proofs.Common.{◌≡◌, ◌+◌, ◌*◌, drop, Some, sym, ap, subst, rules, arith}
use Rattle.elements.specs.Numbers.{radix, digit_in}
use Rattle.elements.proofs.Numerals.{Reading, goes_on, stops}
use Rattle.elements.proofs.number.numeral.Goals as goal

pub returns-in_err-digit-clause-value : goal.returns-in_err-digit-clause-value
returns-in_err-digit-clause-value c = search (rules, stops)

pub overflow_mul-number : goal.overflow_mul-number
overflow_mul-number c =
    let e : digit_in c.args.base (drop c.loop-place.place c.args.bytes.now) ≡ Some c.in_ok-digit.digit = search rules in
    let next = goes_on c.args.base c.args.bytes.now c.args.at c.args.n c.loop-place.place c.loop-place.number c.loop-place.invariant c.loop-place-test.true c.in_ok-digit.digit e in
    omega (arith, next.most, ap (λ r. c.loop-place.number * r) c.radix.ensures)

pub overflow_add-number : goal.overflow_add-number
overflow_add-number c =
    let e : digit_in c.args.base (drop c.loop-place.place c.args.bytes.now) ≡ Some c.in_ok-digit.digit = search rules in
    let next = goes_on c.args.base c.args.bytes.now c.args.at c.args.n c.loop-place.place c.loop-place.number c.loop-place.invariant c.loop-place-test.true c.in_ok-digit.digit e in
    omega (arith, next.most, ap (λ r. c.loop-place.number * r) c.radix.ensures)

pub loop-place-preserved : goal.loop-place-preserved
loop-place-preserved c =
    let e : digit_in c.args.base (drop c.loop-place.place c.args.bytes.now) ≡ Some c.in_ok-digit.digit = search rules in
    let next = goes_on c.args.base c.args.bytes.now c.args.at c.args.n c.loop-place.place c.loop-place.number c.loop-place.invariant c.loop-place-test.true c.in_ok-digit.digit e in
    let same : c.loop-place.number * c.radix.result + c.from.result ≡ c.loop-place.number * radix c.args.base + c.in_ok-digit.digit = λ j. c.loop-place.number * c.radix.ensures j + c.from.ensures j in
    subst (Reading c.args.base c.args.bytes.now c.args.at c.args.n (c.loop-place.place + 1)) (sym same) next.reading
