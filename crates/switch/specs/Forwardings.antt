-- Forwarding: the host gets a turn, and is then asked once for the next waiting or owed entry.
use Rattle.std.specs.Prelude.{◌≡◌, ℕ, true, Some, None, Option, slice_index_or}
use Rattle.host.specs.Meaning.{Meaning, Posts, Reverses, Turns}
use Rattle.host.specs.declared.ask.PostAnswer.{PostAnswer}
use Rattle.host.specs.declared.ask.PostAnswer.TheVariants as posting
use Rattle.host.specs.declared.ask.ReverseAnswer.{ReverseAnswer}
use Rattle.host.specs.declared.ask.ReverseAnswer.TheVariants as reversing
use Rattle.journal.specs.Entries.{details, in_state, key_of}
use Rattle.journal.specs.Places.{Unsettled, Next}
use Rattle.journal.specs.declared.entry.Entry.{Entry}
use Rattle.journal.specs.declared.entry.State.{State as Standing}
use Rattle.journal.specs.declared.entry.State.TheVariants.{Waiting, Completed, Owed, Reversed}
use Rattle.books.specs.Ledgers.{forwarded}
use Rattle.switch.specs.States.{State, with}
use Rattle.switch.specs.declared.forward.Told.{Told}

-- what a forwarding did: nothing was there to ask for, or a number was posted or reversed, with this answer
pub data Forwarding : Type 0 where
  idle : Forwarding
  put : ℕ → PostAnswer → Forwarding
  undone : ℕ → ReverseAnswer → Forwarding

-- waiting becomes completed only when posted
abbrev pub once_put : PostAnswer → Standing
once_put posting.Posted = Completed
once_put (posting.Declined c) = Waiting
once_put posting.Silence = Waiting
once_put posting.Clash = Waiting

-- owed becomes reversed only when done
abbrev pub once_undone : ReverseAnswer → Standing
once_undone reversing.Done = Reversed
once_undone reversing.Silence = Owed

-- the answer: the number and its state, or none
abbrev pub told_by : Forwarding → Option Told
told_by idle = None
told_by (put n answer) = Some (record { number = n; state = once_put answer })
told_by (undone n answer) = Some (record { number = n; state = once_undone answer })

-- no entry is waiting or owed; the mark stays
pub record Idles (s t : State) : Type 0 where
  pub none : (i : ℕ) → Unsettled (slice_index_or s.books.places i None) → ⊥
  pub after : Meaning
  pub turn : Turns s.host after
  pub state : t ≡ with s s.books after

-- the next entry is waiting: it is posted, and must stand
pub record Puts (s : State) (n : ℕ) (answer : PostAnswer) (t : State) : Type 0 where
  pub place : ℕ
  pub entry : Entry
  pub number : entry.number ≡ n
  pub next : Next s.books.places s.books.mark place entry
  pub waits : entry.state ≡ Waiting
  pub turned : Meaning
  pub turn : Turns s.host turned
  pub after : Meaning
  pub posts : Posts turned (key_of entry) (details entry) true answer after
  pub state : t ≡ with s (forwarded s.books place (in_state (once_put answer) entry)) after

-- the next entry is owed: it is reversed
pub record Undoes (s : State) (n : ℕ) (answer : ReverseAnswer) (t : State) : Type 0 where
  pub place : ℕ
  pub entry : Entry
  pub number : entry.number ≡ n
  pub next : Next s.books.places s.books.mark place entry
  pub owes : entry.state ≡ Owed
  pub turned : Meaning
  pub turn : Turns s.host turned
  pub after : Meaning
  pub reverses : Reverses turned (key_of entry) answer after
  pub state : t ≡ with s (forwarded s.books place (in_state (once_undone answer) entry)) after

-- the ask alone, once the turn was given
pub record PutNow (s : State) (place : ℕ) (e : Entry) (told : Told) (t : State) : Type 0 where
  pub answer : PostAnswer
  pub after : Meaning
  pub posts : Posts s.host (key_of e) (details e) true answer after
  pub tells : told ≡ record { number = e.number; state = once_put answer }
  pub state : t ≡ with s (forwarded s.books place (in_state (once_put answer) e)) after

pub record UndoneNow (s : State) (place : ℕ) (e : Entry) (told : Told) (t : State) : Type 0 where
  pub answer : ReverseAnswer
  pub after : Meaning
  pub reverses : Reverses s.host (key_of e) answer after
  pub tells : told ≡ record { number = e.number; state = once_undone answer }
  pub state : t ≡ with s (forwarded s.books place (in_state (once_undone answer) e)) after

abbrev pub Forwards : Forwarding → State → State → Type 0
Forwards idle s t = Idles s t
Forwards (put n answer) s t = Puts s n answer t
Forwards (undone n answer) s t = Undoes s n answer t

-- there is a forwarding that tells just this
pub record Forwarded (s : State) (told : Option Told) (t : State) : Type 0 where
  pub done : Forwarding
  pub tells : told_by done ≡ told
  pub does : Forwards done s t
