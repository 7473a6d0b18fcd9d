-- What the balance book means, and what else its calls are told by.
use Rattle.std.specs.Prelude.{◌≡◌, ℕ, Bool, false, List, take}
use Rattle.host.specs.Meaning.{Meaning}
use Rattle.host.specs.declared.ask.PostAnswer.{PostAnswer}
use Rattle.host.specs.declared.ask.ReverseAnswer.{ReverseAnswer}
use Rattle.host.specs.declared.line.Details.{Details}
use Rattle.host.specs.declared.line.Key.{Key}
use Rattle.lines.specs.Answers.{places_left}
use Rattle.lines.specs.Rows.{shown, free}
use Rattle.accounts.specs.Answers.{book_answer, book_reverse, accounts_after_post, accounts_after_reverse}
use Rattle.accounts.specs.declared.accounts.Account.{Account}
use Rattle.accounts.specs.declared.accounts.Accounts.{Accounts}
use Rattle.accounts.specs.declared.book.BalanceBook.{BalanceBook}

-- the accounts that were opened, in their order
abbrev pub accounts_of : Accounts → List Account
accounts_of a = take a.count a.places

-- the lines of its table; it holds no pair
abbrev pub kept_by : BalanceBook → Meaning
kept_by s = record { lines = shown s.lines.rows; held = λ _ _. false; asks = s.log.asks; turns = s.log.turns; latest = s.log.latest }

-- a book: its meaning as a host, its accounts, and how many of its places for lines are free
pub record Book : Type 0 where
  pub host : Meaning
  pub accounts : List Account
  pub free : ℕ

abbrev pub view : BalanceBook → Book
view s = record { host = kept_by s; accounts = accounts_of s.accounts; free = free s.lines.rows }

-- places are taken and given back with the line of the key
abbrev pub Places : Book → Key → Book → Type 0
Places s key t = t.free ≡ places_left (s.host.lines key.issuer key.number) (t.host.lines key.issuer key.number) s.free

-- which answer, and which booking
pub record AnswersPost (s : Book) (key : Key) (d : Details) (must : Bool) (r : PostAnswer) (t : Book) : Type 0 where
  pub answer : r ≡ book_answer s.accounts s.free (s.host.lines key.issuer key.number) d must
  pub accounts : t.accounts ≡ accounts_after_post s.accounts (s.host.lines key.issuer key.number) d r
  pub places : Places s key t

pub record AnswersReverse (s : Book) (key : Key) (r : ReverseAnswer) (t : Book) : Type 0 where
  pub answer : r ≡ book_reverse s.accounts s.free (s.host.lines key.issuer key.number)
  pub accounts : t.accounts ≡ accounts_after_reverse s.accounts (s.host.lines key.issuer key.number) r
  pub places : Places s key t
