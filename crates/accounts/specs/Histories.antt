-- Calls of a balance book, one after the other, and what they say of its balances.
use Rattle.std.specs.Prelude.{◌≡◌, ℕ, Bool, cond, ◌&&◌, List, [], ◌∷◌, ◌++◌, ℤ, pos, ◌+ℤ◌, Some, None, Option, ◌==◌}
use Rattle.host.specs.Meaning.{Posts, Reverses, Forgets, Turns}
use Rattle.host.specs.declared.ask.ForgetAnswer.{ForgetAnswer}
use Rattle.host.specs.declared.ask.ForgetAnswer.TheVariants as forgetting
use Rattle.host.specs.declared.ask.PostAnswer.{PostAnswer}
use Rattle.host.specs.declared.ask.PostAnswer.TheVariants as posting
use Rattle.host.specs.declared.ask.ReverseAnswer.{ReverseAnswer}
use Rattle.host.specs.declared.ask.ReverseAnswer.TheVariants as reversing
use Rattle.host.specs.declared.line.Card.{Card}
use Rattle.host.specs.declared.line.Details.{Details}
use Rattle.host.specs.declared.line.Key.{Key}
use Rattle.host.specs.declared.line.Line.{Line}
use Rattle.host.specs.declared.line.Line.TheVariants.{Absent}
use Rattle.accounts.specs.Balances.{same_card, balance_of, booked, undoing}
use Rattle.accounts.specs.Views.{Book, Places, AnswersPost, AnswersReverse}
use Rattle.accounts.specs.declared.exchange.Answer.TheVariants as answer
use Rattle.accounts.specs.declared.exchange.Call.TheVariants as call
use Rattle.accounts.specs.declared.exchange.Exchange.{Exchange}

-- a call with its answer: the key, then what else was said
pub data Event : Type 0 where
  post : Key → Details → Bool → PostAnswer → Event
  reverse : Key → ReverseAnswer → Event
  forget : Key → ForgetAnswer → Event
  line : Key → Line → Event
  turn : Event

-- each call does what its contract says
abbrev pub Step : Book → Event → Book → Type 0
Step s (post key d must r) t = Posts s.host key d must r t.host × AnswersPost s key d must r t
Step s (reverse key r) t = Reverses s.host key r t.host × AnswersReverse s key r t
Step s (forget key r) t = Forgets s.host key r t.host × ((t.accounts ≡ s.accounts) × Places s key t)
Step s (line key l) t = (l ≡ s.host.lines key.issuer key.number) × (t ≡ s)
Step s turn t = Turns s.host t.host × ((t.accounts ≡ s.accounts) × (t.free ≡ s.free))

-- a history, the latest call first, leads from one book to another
abbrev pub Runs : List Event → Book → Book → Type 0
Runs [] s t = t ≡ s
Runs (e ∷ h) s t = (m : Book) × Runs h s m × Step m e t

-- what the caller said and was told
abbrev pub exchange_of : Event → Exchange
exchange_of (post key d must r) = record { call = call.Post key d must; answer = Some (answer.Post r) }
exchange_of (reverse key r) = record { call = call.Reverse key; answer = Some (answer.Reverse r) }
exchange_of (forget key r) = record { call = call.Forget key; answer = Some (answer.Forget r) }
exchange_of (line key l) = record { call = call.Line key; answer = Some (answer.Line l) }
exchange_of turn = record { call = call.Turn; answer = Some answer.Turn }

-- in the order of time
abbrev pub exchanges : List Event → List Exchange
exchanges [] = []
exchanges (e ∷ h) = exchanges h ++ exchange_of e ∷ []

-- there is a history with just these calls and answers
pub record Ran (s : Book) (xs : List Exchange) (t : Book) : Type 0 where
  pub history : List Event
  pub these : exchanges history ≡ xs
  pub runs : Runs history s t

-- what the calls and answers so far say of an issuer and a number: it is not booked, it is booked, or it was booked back
pub data Standing : Type 0 where
  unbooked back : Standing
  stands : Details → Standing

abbrev pub by_post : Details → PostAnswer → Standing → Standing
by_post d posting.Posted unbooked = stands d
by_post d posting.Posted back = back
by_post d posting.Posted (stands e) = stands e
by_post d (posting.Declined c) st = st
by_post d posting.Silence st = st
by_post d posting.Clash st = st

abbrev pub by_reverse : ReverseAnswer → Standing → Standing
by_reverse reversing.Done st = back
by_reverse reversing.Silence st = st

-- once forgotten, a number may be booked anew
abbrev pub by_forget : ForgetAnswer → Standing → Standing
by_forget forgetting.Done st = unbooked
by_forget forgetting.NotNow st = st

abbrev pub by_event : Event → ℕ → ℕ → Standing → Standing
by_event (post key d must r) a b st = cond (key.issuer == a && key.number == b) (by_post d r st) st
by_event (reverse key r) a b st = cond (key.issuer == a && key.number == b) (by_reverse r st) st
by_event (forget key r) a b st = cond (key.issuer == a && key.number == b) (by_forget r st) st
by_event (line key l) a b st = st
by_event turn a b st = st

abbrev pub standing : List Event → ℕ → ℕ → Standing
standing [] a b = unbooked
standing (e ∷ h) a b = by_event e a b (standing h a b)

-- what a booking adds to the balance of a card
abbrev pub booking : Details → Card → ℤ
booking d c = cond (same_card d.card c) (booked d.side d.amount (pos 0)) (pos 0)

abbrev pub booking_back : Details → Card → ℤ
booking_back d c = booking (undoing d) c

-- a post that is answered posted books, unless it is booked or was booked back
abbrev pub post_adds : Standing → Details → PostAnswer → Card → ℤ
post_adds unbooked d posting.Posted c = booking d c
post_adds unbooked d (posting.Declined n) c = pos 0
post_adds unbooked d posting.Silence c = pos 0
post_adds unbooked d posting.Clash c = pos 0
post_adds back d r c = pos 0
post_adds (stands e) d r c = pos 0

-- a reverse that is done books back what is booked
abbrev pub reverse_adds : Standing → ReverseAnswer → Card → ℤ
reverse_adds unbooked r c = pos 0
reverse_adds back r c = pos 0
reverse_adds (stands e) reversing.Done c = booking_back e c
reverse_adds (stands e) reversing.Silence c = pos 0

abbrev pub adds : List Event → Event → Card → ℤ
adds h (post key d must r) c = post_adds (standing h key.issuer key.number) d r c
adds h (reverse key r) c = reverse_adds (standing h key.issuer key.number) r c
adds h (forget key r) c = pos 0
adds h (line key l) c = pos 0
adds h turn c = pos 0

-- all bookings and bookings back of a history
abbrev pub tally : List Event → Card → ℤ
tally [] c = pos 0
tally (e ∷ h) c = tally h c +ℤ adds h e c

abbrev pub plus : Option ℤ → ℤ → Option ℤ
plus None x = None
plus (Some b) x = Some (b +ℤ x)

-- every balance is what it was, with each booking once and each booking back once
abbrev pub Balanced : List Event → Book → Book → Type 0
Balanced h s t = (c : Card) → balance_of t.accounts c ≡ plus (balance_of s.accounts c) (tally h c)

abbrev pub NoLines : Book → Type 0
NoLines s = (i k : ℕ) → s.host.lines i k ≡ Absent
