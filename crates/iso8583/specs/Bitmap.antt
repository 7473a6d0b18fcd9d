-- The bitmap as a number of 128 bits, of which bit 1 is the highest.
use Rattle.std.specs.Prelude.{ℕ, zero, suc, ◌+◌, ◌-◌, ◌*◌, ◌/◌, ◌%◌, ◌^◌, Bool, cond, not, ◌&&◌, Some, None, Option, ◌==◌}
use Rattle.elements.specs.Table.{table, known}

-- bit k says that element k is present; bit 1, that a second bitmap follows
abbrev pub marked : ℕ → ℕ → Bool
marked bits k = bits / 2 ^ (128 - k) % 2 == 1

-- the first bitmap and the second as one
abbrev pub joined : ℕ → ℕ → ℕ
joined high low = high * 2 ^ 64 + low

-- the first of n numbers, from i on, that passes a test
abbrev pub first : (ℕ → Bool) → ℕ → ℕ → Option ℕ
first test i zero = None
first test i (suc n) = cond (test i) (Some i) (first test (i + 1) n)

-- the element is marked, and the table does not have it
abbrev pub strange : ℕ → ℕ → Bool
strange bits k = marked bits k && not (known table k)
