-- Element 90: type, trace number, moment, acquirer and forwarder of the original message.
use Rattle.std.specs.Prelude.{ℕ, ◌<◌, cond, ◌&&◌, List, length, Some, None, Option, ◌==◌}
use Rattle.std.specs.List.{between}
use Rattle.std.specs.Str.Parse.{digits_value}
use Rattle.elements.specs.Numbers.{all_decimal}
use Rattle.elements.specs.declared.original.Original.{Original}

-- 4, 6, 10, 11 and 11 digits
abbrev pub parts : List ℕ → Original
parts ds =
    record {
      mti = digits_value 10 (between 0 4 ds);
      trace = digits_value 10 (between 4 10 ds);
      moment = digits_value 10 (between 10 20 ds);
      acquirer = digits_value 10 (between 20 31 ds);
      forwarder = digits_value 10 (between 31 42 ds);
    }

abbrev pub original_of : List ℕ → Option Original
original_of ds = cond (length ds == 42 && all_decimal ds) (Some (parts ds)) None

-- each part is below the power of ten of its digits
pub record SizedOriginal (o : Original) : Type 0 where
  pub mti : o.mti < 10000
  pub trace : o.trace < 1000000
  pub moment : o.moment < 10000000000
  pub acquirer : o.acquirer < 100000000000
  pub forwarder : o.forwarder < 100000000000
