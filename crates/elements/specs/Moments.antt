-- Moments: MMDDhhmmss as a number.
use Rattle.std.specs.Prelude.{ℕ, ◌/◌, ◌%◌, Bool, cond, ◌&&◌, List, length, Some, None, Option, ◌==◌}
use Rattle.std.specs.Str.Parse.{digits_value}
use Rattle.elements.specs.Table.{within}
use Rattle.elements.specs.Numbers.{all_decimal}

abbrev pub month : ℕ → ℕ
month n = n / 100000000

abbrev pub day : ℕ → ℕ
day n = n / 1000000 % 100

abbrev pub hour : ℕ → ℕ
hour n = n / 10000 % 100

abbrev pub minute : ℕ → ℕ
minute n = n / 100 % 100

abbrev pub second : ℕ → ℕ
second n = n % 100

-- day 31 is taken in every month
abbrev pub is_moment : ℕ → Bool
is_moment n = within 1 12 (month n) && within 1 31 (day n) && within 0 23 (hour n) && within 0 59 (minute n) && within 0 59 (second n)

-- the moment with a number, seen as that number, if there is one
abbrev pub moment_numbered : ℕ → Option ℕ
moment_numbered n = cond (is_moment n) (Some n) None

-- the number of the moment that exactly ten digits write
abbrev pub moment_of : List ℕ → Option ℕ
moment_of ds = cond (length ds == 10 && all_decimal ds && is_moment (digits_value 10 ds)) (Some (digits_value 10 ds)) None
