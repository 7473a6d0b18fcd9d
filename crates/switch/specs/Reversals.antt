-- Reversals: the steps in their order. The host is not asked.
use Rattle.std.specs.Prelude.{◌≡◌, ℕ, Bool, true, false, ◌&&◌, ◌||◌, is_some, Some, None, Option, ◌==◌, nat_le, slice_index_or}
use Rattle.elements.specs.Moments.{is_moment}
use Rattle.intake.specs.declared.order.Reversal.{Reversal}
use Rattle.journal.specs.Entries.{barred, effect, reversal_of}
use Rattle.journal.specs.Numbers.{joined, moment}
use Rattle.journal.specs.Places.{seek, lowest_free}
use Rattle.journal.specs.declared.entry.Effect.{Effect}
use Rattle.journal.specs.declared.entry.Effect.TheVariants.{Answers, Owes}
use Rattle.journal.specs.declared.entry.Entry.{Entry}
use Rattle.books.specs.Ledgers.{taken_back}
use Rattle.switch.specs.Requests.{Said, Only, unasked}
use Rattle.switch.specs.States.{State, with, entering}

-- the type of a request or an advice
abbrev pub presents : ℕ → Bool
presents mti = mti == 200 || mti == 201 || mti == 220 || mti == 221

-- element 7 and the moment in 90 are moments, the type in 90 is one of the four, and its acquirer is element 32's as a number
abbrev pub proper : Reversal → Bool
proper v =
    is_some v.particulars.moment && is_moment v.original.moment && presents v.original.mti && v.original.acquirer == v.particulars.acquirer

-- an entry that becomes owed, at its place
pub record BecomesOwed (s : State) (e : Entry) (r : Said) (t : State) : Type 0 where
  pub place : ℕ
  pub there : slice_index_or s.books.places place None ≡ Some e
  pub said : r ≡ unasked 0
  pub state : t ≡ with s (taken_back s.books place e) s.host

abbrev pub ByEffect : Effect → State → Entry → Said → State → Type 0
ByEffect (Answers code) s e r t = Only code s r t
ByEffect Owes s e r t = BecomesOwed s e r t

-- 96: no place is free; otherwise the number is barred, and the answer is 25
abbrev pub Bars : Option ℕ → State → ℕ → Said → State → Type 0
Bars None s number r t = Only 96 s r t
Bars (Some place) s number r t = (r ≡ unasked 25) × (t ≡ entering s place (barred number) s.host)

-- 25: the moment of an unknown number is at or below the horizon
abbrev pub Unknown : Bool → State → ℕ → Said → State → Type 0
Unknown true s number r t = Only 25 s r t
Unknown false s number r t = Bars (lowest_free s.books.places) s number r t

-- the number, made with 90's moment and trace number, is in the journal: state and reversal together decide
abbrev pub ByEntry : Option Entry → State → ℕ → ℕ → Said → State → Type 0
ByEntry (Some e) s number amount r t = ByEffect (effect e.state (reversal_of e amount)) s e r t
ByEntry None s number amount r t = Unknown (nat_le (moment number) s.books.horizon) s number r t

-- 30: the reversal is not proper
abbrev pub ByProper : Bool → State → ℕ → ℕ → Said → State → Type 0
ByProper false s number amount r t = Only 30 s r t
ByProper true s number amount r t = ByEntry (seek s.books.places number) s number amount r t

-- a reversal from the bank at this place
abbrev pub TakesBack : State → ℕ → Reversal → Said → State → Type 0
TakesBack s acquirer v r t =
    ByProper (proper v) s (joined acquirer v.original.moment v.original.trace) v.particulars.amount r t
