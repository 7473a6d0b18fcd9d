-- What a writer's steps answer and leave.
use Rattle.std.specs.Prelude.{◌≡◌, ℕ, ◌+◌, ◌<◌, ◌≤◌, List, length, Some, None, Ok, Err, Option, Result}
use Rattle.elements.specs.declared.fault.MessageFault.{MessageFault}
use Rattle.composer.specs.declared.writer.Writer.{Writer}
use Rattle.elements.specs.declared.table.Row.{Row}
use Rattle.elements.specs.Table.{table}
use Rattle.composer.specs.Writing.{State, laid, chosen, starting, putting}

-- the elements that are still to come
abbrev pub rest_of : Writer → List Row
rest_of w = chosen table w.left

-- a writer with its buffer
abbrev pub state_of : List ℕ → Writer → State
state_of out w = record { out = out; used = w.used; rest = rest_of w }

-- a start, or a refusal that leaves the buffer as it was
abbrev pub Started : List ℕ → ℕ → List ℕ → Result Writer MessageFault → List ℕ → Type 0
Started out mti es (Ok w) out' = starting out mti es ≡ Ok (state_of out' w)
Started out mti es (Err f) out' = (starting out mti es ≡ Err f) × (out' ≡ out)

-- bytes laid into a buffer from a place on, and where they end; or none where they do not fit
abbrev pub Placed : List ℕ → ℕ → List ℕ → Option ℕ → List ℕ → Type 0
Placed out at new (Some end) out' = (end ≡ at + length new) × (end ≤ length out) × (out' ≡ laid out at new)
Placed out at new None out' = (length out < at + length new) × (out' ≡ out)

-- one element more, or a refusal that leaves writer and buffer as they were
abbrev pub Put : List ℕ → Writer → ℕ → List ℕ → Result (Unit {0}) MessageFault → List ℕ → Writer → Type 0
Put out w k cs (Ok u) out' w' = putting (state_of out w) k cs ≡ Ok (state_of out' w')
Put out w k cs (Err f) out' w' = (putting (state_of out w) k cs ≡ Err f) × (out' ≡ out) × (w' ≡ w)
