-- What a pass over some places finds. Only a private function cites this.
use Rattle.std.specs.Prelude.{◌≡◌, ℕ, ◌<◌, ◌≤◌, Bool, true, false, get_or, Some, None, Option, MatchOption}
use Rattle.journal.specs.declared.entry.Entry.{Entry}
use Rattle.journal.specs.declared.entry.Held.{Held}
use Rattle.journal.specs.Places.{Places}

-- no entry from one place on and before another passes the test
abbrev pub NonePasses : (Entry → Bool → Type 0) → Places → ℕ → ℕ → Type 0
NonePasses test ps from to = (k : ℕ) (e : Entry) → from ≤ k → k < to → get_or ps k None ≡ Some e → test e false

-- this one does, and none before it
pub record FirstPassing (test : Entry → Bool → Type 0) (ps : Places) (from to : ℕ) (held : Held) : Type 0 where
  pub low : from ≤ held.place
  pub high : held.place < to
  pub there : get_or ps held.place None ≡ Some held.entry
  pub passes : test held.entry true
  pub before : NonePasses test ps from held.place

pub record Finds (test : Entry → Bool → Type 0) (ps : Places) (from to : ℕ) (result : Option Held) : Type 0 where
  pub first : MatchOption result (NonePasses test ps from to) (λ held. FirstPassing test ps from to held)
