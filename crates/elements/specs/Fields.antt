-- Numbers as digits, and an element as it stands in a message.
use Rattle.std.specs.Prelude.{ℕ, zero, suc, ◌+◌, ◌/◌, ◌%◌, cond, List, [], ◌∷◌, ◌++◌, length, nat_lt}
use Rattle.elements.specs.declared.table.Length.{Length}
use Rattle.elements.specs.declared.table.Length.TheVariants.{Fixed, UpTo}

-- the character of a digit: 0 to 9, then A to F
abbrev pub digit : ℕ → ℕ
digit d = cond (nat_lt d 10) (48 + d) (55 + d)

-- a number in n digits, the highest first
unfoldable pub spelled : ℕ → ℕ → ℕ → List ℕ
spelled base zero v = []
spelled base (suc n) v = spelled base n (v / base) ++ digit (v % base) ∷ []

-- an element in a message: its characters, after two length digits where its length varies
abbrev pub field : Length → List ℕ → List ℕ
field (Fixed n) cs = cs
field (UpTo limit) cs = spelled 10 2 (length cs) ++ cs
