use Rattle.std.proofs.Common.{drop, take, rules}
use Rattle.std.specs.Str.Parse.{digits_value}
use Rattle.elements.specs.declared.fault.MessageFault.TheVariants.{Bitmap}
use Rattle.elements.specs.Table.{hexadecimal}
use Rattle.iso8583.specs.Reading.{wrong}
use Rattle.iso8583.proofs.Steps.{faulty}
use Rattle.iso8583.proofs.read.read_half.Goals as goal

pub returns : goal.returns
returns c =
    let cs = drop c.args.at c.args.bytes.now in
    faulty c.numeral.result c.map_err.result (λ i. Bitmap i) (wrong hexadecimal 16 c.args.at cs) (digits_value 16 (take 16 cs)) c.numeral.ensures.value (search rules)
