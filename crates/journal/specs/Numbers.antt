-- The transaction number and its parts.
use Rattle.std.specs.Prelude.{ℕ, ◌+◌, ◌*◌, ◌/◌, ◌%◌, ◌^◌, ◌<◌}

-- the trace number in the last six digits, the moment (MMDDhhmmss) in the ten before them, the acquirer in front
unfoldable pub joined : ℕ → ℕ → ℕ → ℕ
joined a m t = a * 10 ^ 16 + m * 10 ^ 6 + t

unfoldable pub acquirer : ℕ → ℕ
acquirer n = n / 10 ^ 16

unfoldable pub moment : ℕ → ℕ
moment n = n / 10 ^ 6 % 10 ^ 10

unfoldable pub trace : ℕ → ℕ
trace n = n % 10 ^ 6

-- at most sixteen banks, moments of ten digits and trace numbers of six
pub record InRange (a m t : ℕ) : Type 0 where
  pub bank : a < 16
  pub ten_digits : m < 10 ^ 10
  pub six_digits : t < 10 ^ 6
