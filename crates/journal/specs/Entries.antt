-- What an entry says, and what a repeat or a reversal makes of it.
use Rattle.std.specs.Prelude.{ℕ, ◌/◌, Bool, true, false, cond, ◌&&◌, ◌==◌, nat_lt}
use Rattle.host.specs.declared.line.Details.{Details}
use Rattle.host.specs.declared.line.Key.{Key}
use Rattle.host.specs.declared.line.Side.{Side}
use Rattle.host.specs.declared.line.Side.TheVariants.{Debit, Credit}
use Rattle.journal.specs.declared.entry.Effect.{Effect}
use Rattle.journal.specs.declared.entry.Effect.TheVariants.{Answers, Owes}
use Rattle.journal.specs.declared.entry.Entry.{Entry}
use Rattle.journal.specs.declared.entry.Kind.{Kind}
use Rattle.journal.specs.declared.entry.Kind.TheVariants.{Request, Advice}
use Rattle.journal.specs.declared.entry.Reversal.{Reversal}
use Rattle.journal.specs.declared.entry.Reversal.TheVariants.{SameAmount, OtherAmount}
use Rattle.journal.specs.declared.entry.State.{State}
use Rattle.journal.specs.declared.entry.State.TheVariants.{Waiting, Completed, Declined, Owed, Reversed, Barred}
use Rattle.journal.specs.declared.entry.Terms.{Terms}

-- W, C, D, O, R, B
abbrev pub letter : State → ℕ
letter Waiting = 87
letter Completed = 67
letter Declined = 68
letter Owed = 79
letter Reversed = 82
letter Barred = 66

-- waiting or owed: the host has still to be asked
abbrev pub unsettled : State → Bool
unsettled Waiting = true
unsettled Completed = false
unsettled Declined = false
unsettled Owed = true
unsettled Reversed = false
unsettled Barred = false

-- what the entry's line is kept under
abbrev pub key_of : Entry → Key
key_of e = record { issuer = e.issuer; number = e.number }

-- owed or reversed
abbrev pub undone : State → Bool
undone Waiting = false
undone Completed = false
undone Declined = false
undone Owed = true
undone Reversed = true
undone Barred = false

-- a processing code of six digits begins with 00 to 19 for a debit, and from 20 on it is a credit
abbrev pub side_of : ℕ → Side
side_of processing = cond (nat_lt (processing / 10000) 20) Debit Credit

-- what the host books of a request or an advice
abbrev pub details_of : Terms → Details
details_of x = record { card = x.card; side = side_of x.processing; amount = x.amount }

abbrev pub details : Entry → Details
details e = details_of e.terms

-- a number alone
abbrev pub barred : ℕ → Entry
barred n =
    record { number = n; issuer = 0; terms = record { card = record { digits = 0; count = 0 }; processing = 0; amount = 0; kind = Request }; state = Barred; code = 21 }

-- an entry that a message makes
abbrev pub entered : ℕ → ℕ → Terms → State → ℕ → Entry
entered n issuer x state code = record { number = n; issuer = issuer; terms = x; state = state; code = code }

-- the same entry in another state
abbrev pub in_state : State → Entry → Entry
in_state state e = record { number = e.number; issuer = e.issuer; terms = e.terms; state = state; code = e.code }

-- the same entry, owed since it was reversed
abbrev pub owing : Entry → Entry
owing e = record { number = e.number; issuer = e.issuer; terms = e.terms; state = Owed; code = 21 }

abbrev pub same_kind : Kind → Kind → Bool
same_kind Request Request = true
same_kind Request Advice = false
same_kind Advice Request = false
same_kind Advice Advice = true

-- the same card digit by digit, processing code, amount and kind
abbrev pub same_terms : Entry → Terms → Bool
same_terms e x = e.terms.card.digits == x.card.digits && e.terms.card.count == x.card.count && e.terms.processing == x.processing && e.terms.amount == x.amount && same_kind e.terms.kind x.kind

-- what a request or an advice that comes again is answered, by the entry's state, whether the terms are the same, and the entry's code
abbrev pub repeated : State → Bool → ℕ → ℕ
repeated Barred same code = 21
repeated Waiting same code = cond same code 94
repeated Completed same code = cond same code 94
repeated Declined same code = cond same code 94
repeated Owed same code = cond same code 94
repeated Reversed same code = cond same code 94

-- a reversal tells an amount: the entry's, or another
abbrev pub reversal_of : Entry → ℕ → Reversal
reversal_of e amount = cond (e.terms.amount == amount) SameAmount OtherAmount

-- state and reversal together decide
abbrev pub effect : State → Reversal → Effect
effect Barred reversal = Answers 25
effect Declined reversal = Answers 21
effect Waiting OtherAmount = Answers 13
effect Completed OtherAmount = Answers 13
effect Owed OtherAmount = Answers 13
effect Reversed OtherAmount = Answers 13
effect Waiting SameAmount = Owes
effect Completed SameAmount = Owes
effect Owed SameAmount = Answers 0
effect Reversed SameAmount = Answers 0
