-- Requests and advices: the steps in their order, of which the first that applies answers.
use Rattle.std.specs.Prelude.{◌≡◌, ℕ, ◌/◌, Bool, true, false, Some, None, Option, ◌==◌, nat_le, nat_lt}
use Rattle.host.specs.Meaning.{Meaning, Posts}
use Rattle.host.specs.declared.ask.PostAnswer.{PostAnswer}
use Rattle.host.specs.declared.ask.PostAnswer.TheVariants.{Posted, Declined as Refused, Silence, Clash}
use Rattle.intake.specs.declared.order.Presentment.{Presentment}
use Rattle.journal.specs.Entries.{details_of, entered, same_terms, repeated}
use Rattle.journal.specs.Numbers.{joined, moment}
use Rattle.journal.specs.Places.{seek, lowest_free}
use Rattle.journal.specs.declared.entry.Entry.{Entry}
use Rattle.journal.specs.declared.entry.Kind.{Kind}
use Rattle.journal.specs.declared.entry.Kind.TheVariants.{Request, Advice}
use Rattle.journal.specs.declared.entry.State.{State as Standing}
use Rattle.journal.specs.declared.entry.State.TheVariants.{Waiting, Completed, Declined, Owed}
use Rattle.journal.specs.declared.entry.Terms.{Terms}
use Rattle.members.specs.Routing.{route_of}
use Rattle.switch.specs.States.{State, entering}

-- what comes of a message: its response code, and what the host answered if it was asked
pub record Said : Type 0 where
  pub code : ℕ
  pub asked : Option PostAnswer

abbrev pub unasked : ℕ → Said
unasked code = record { code = code; asked = None }

-- an answer that changes nothing
abbrev pub Only : ℕ → State → Said → State → Type 0
Only code s r t = (r ≡ unasked code) × (t ≡ s)

abbrev pub terms_of : Presentment → Terms
terms_of p = record { card = p.card; processing = p.processing; amount = p.particulars.amount; kind = p.kind }

-- by the host's answer to a new request: posted completes it, a decline is passed on, and after silence or clash a reversal is owed
abbrev pub state_by : PostAnswer → Standing
state_by Posted = Completed
state_by (Refused c) = Declined
state_by Silence = Owed
state_by Clash = Owed

abbrev pub code_by : PostAnswer → ℕ
code_by Posted = 0
code_by (Refused c) = c
code_by Silence = 91
code_by Clash = 91

abbrev pub entry_by : ℕ → ℕ → Terms → PostAnswer → Entry
entry_by number issuer x answer = entered number issuer x (state_by answer) (code_by answer)

-- a request is posted once, and need not stand
pub record Requested (s : State) (number issuer place : ℕ) (x : Terms) (r : Said) (t : State) : Type 0 where
  pub answer : PostAnswer
  pub after : Meaning
  pub posts : Posts s.host (record { issuer = issuer; number = number }) (details_of x) false answer after
  pub said : r ≡ record { code = code_by answer; asked = Some answer }
  pub state : t ≡ entering s place (entry_by number issuer x answer) after

-- an advice waits, its host unasked
abbrev pub Advised : State → ℕ → ℕ → ℕ → Terms → Said → State → Type 0
Advised s number issuer place x r t = (r ≡ unasked 0) × (t ≡ entering s place (entered number issuer x Waiting 0) s.host)

abbrev pub ByKind : Kind → State → ℕ → ℕ → ℕ → Terms → Said → State → Type 0
ByKind Request s number issuer place x r t = Requested s number issuer place x r t
ByKind Advice s number issuer place x r t = Advised s number issuer place x r t

-- 96: no place is free; a new entry takes the lowest one
abbrev pub ByRoom : Option ℕ → State → ℕ → ℕ → Terms → Said → State → Type 0
ByRoom None s number issuer x r t = Only 96 s r t
ByRoom (Some place) s number issuer x r t = ByKind x.kind s number issuer place x r t

-- 15: no route fits the card
abbrev pub ByRoute : Option ℕ → State → ℕ → Terms → Said → State → Type 0
ByRoute None s number x r t = Only 15 s r t
ByRoute (Some issuer) s number x r t = ByRoom (lowest_free s.books.places) s number issuer x r t

-- 90: the moment is at or below the horizon
abbrev pub ByHorizon : Bool → State → ℕ → Terms → Said → State → Type 0
ByHorizon true s number x r t = Only 90 s r t
ByHorizon false s number x r t = ByRoute (route_of s.routes x.card) s number x r t

-- the number is in the journal: a repeat
abbrev pub ByNumber : Option Entry → State → ℕ → Terms → Said → State → Type 0
ByNumber (Some e) s number x r t = Only (repeated e.state (same_terms e x) e.code) s r t
ByNumber None s number x r t = ByHorizon (nat_le (moment number) s.books.horizon) s number x r t

-- 13: the amount is zero
abbrev pub ByAmount : Bool → State → ℕ → Terms → Said → State → Type 0
ByAmount true s number x r t = Only 13 s r t
ByAmount false s number x r t = ByNumber (seek s.books.places number) s number x r t

-- 12: the processing code starts with a pair of digits above 29
abbrev pub ByProcessing : Bool → State → ℕ → Terms → Said → State → Type 0
ByProcessing false s number x r t = Only 12 s r t
ByProcessing true s number x r t = ByAmount (x.amount == 0) s number x r t

-- 30: element 7 is no moment
abbrev pub ByMoment : Option ℕ → State → ℕ → Presentment → Said → State → Type 0
ByMoment None s acquirer p r t = Only 30 s r t
ByMoment (Some m) s acquirer p r t =
    ByProcessing (nat_lt (p.processing / 10000) 30) s (joined acquirer m p.particulars.trace) (terms_of p) r t

-- a request or an advice from the bank at this place
abbrev pub Presents : State → ℕ → Presentment → Said → State → Type 0
Presents s acquirer p r t = ByMoment p.particulars.moment s acquirer p r t
