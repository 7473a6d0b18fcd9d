-- How the elements of a message lie in its bytes.
use Rattle.std.specs.Prelude.{◌≡◌, ℕ, ◌+◌, ◌<◌, ◌≤◌, cond, List, [], ◌∷◌, ◌==◌}
use Rattle.iso8583.specs.declared.found.Found.{Found}
use Rattle.elements.specs.declared.table.Row.{Row}
use Rattle.elements.specs.Table.{table, lead}

-- how many length digits stand before an element of the table
abbrev pub lead_of : List Row → ℕ → ℕ
lead_of [] k = 0
lead_of (r ∷ rs) k = cond (r.element == k) (lead r.length) (lead_of rs k)

-- from place `at` on, elements above `low` in rising order, with nothing between them but their length digits, up to `end`
abbrev pub Tiled : ℕ → ℕ → List Found → ℕ → Type 0
Tiled at low [] end = at ≡ end
Tiled at low (e ∷ es) end =
    (low < e.element) × (e.start ≡ at + lead_of table e.element) × (e.start ≤ e.end) × Tiled e.end e.element es end
