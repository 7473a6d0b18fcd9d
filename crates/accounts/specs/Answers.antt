-- What the balance book answers, and what it books.
use Rattle.std.specs.Prelude.{◌≡◌, ℕ, Bool, true, cond, not, ◌&&◌, List, ℤ, pos, Some, None, Option, ◌==◌, int_lt}
use Rattle.host.specs.declared.ask.PostAnswer.{PostAnswer}
use Rattle.host.specs.declared.ask.PostAnswer.TheVariants as posting
use Rattle.host.specs.declared.ask.ReverseAnswer.{ReverseAnswer}
use Rattle.host.specs.declared.ask.ReverseAnswer.TheVariants as reversing
use Rattle.host.specs.declared.line.Details.{Details}
use Rattle.host.specs.declared.line.Line.{Line}
use Rattle.host.specs.declared.line.Line.TheVariants.{Absent, Posted, Adrift, Leaving, Closed}
use Rattle.lines.specs.Answers.{same, repeated, is_debit}
use Rattle.accounts.specs.Balances.{balance_of, booked, bounded, stays, with_booking, undoing}
use Rattle.accounts.specs.declared.accounts.Account.{Account}

-- a debit above the balance that need not stand
abbrev pub overdrawn : ℤ → Details → Bool → Bool
overdrawn balance d must = is_debit d.side && not must && int_lt balance (pos d.amount)

-- with no line found, the book declines by the first of: 14 unknown card, 96 no place free, 05 the balance would leave its bounds,
-- 51 overdrawn; otherwise it posts
abbrev pub within_balance : Option ℤ → ℕ → Details → Bool → PostAnswer
within_balance None free d must = posting.Declined 14
within_balance (Some balance) free d must =
    cond (free == 0) (posting.Declined 96)
    (cond (bounded (booked d.side d.amount balance))
    (cond (overdrawn balance d must) (posting.Declined 51) posting.Posted)
    (posting.Declined 5))

-- an adrift line, which the book never makes, is met with silence
abbrev pub book_answer : List Account → ℕ → Line → Details → Bool → PostAnswer
book_answer accounts free Absent d must = within_balance (balance_of accounts d.card) free d must
book_answer accounts free (Posted e) d must = repeated e d
book_answer accounts free (Adrift e) d must = cond (same e d) posting.Silence posting.Clash
book_answer accounts free (Leaving e) d must = posting.Silence
book_answer accounts free Closed d must = posting.Declined 21

-- booked once: where a line becomes posted
abbrev pub accounts_after_post : List Account → Line → Details → PostAnswer → List Account
accounts_after_post accounts Absent d posting.Posted = with_booking accounts d
accounts_after_post accounts Absent d (posting.Declined c) = accounts
accounts_after_post accounts Absent d posting.Silence = accounts
accounts_after_post accounts Absent d posting.Clash = accounts
accounts_after_post accounts (Posted e) d r = accounts
accounts_after_post accounts (Adrift e) d r = accounts
accounts_after_post accounts (Leaving e) d r = accounts
accounts_after_post accounts Closed d r = accounts

-- what was booked goes back, unless the balance would leave its bounds
abbrev pub returned : List Account → Details → ReverseAnswer
returned accounts e = cond (stays (balance_of accounts e.card) (undoing e)) reversing.Done reversing.Silence

-- a reverse is silent where a new closed line finds no place, and where the balance would leave its bounds
abbrev pub book_reverse : List Account → ℕ → Line → ReverseAnswer
book_reverse accounts free Absent = cond (free == 0) reversing.Silence reversing.Done
book_reverse accounts free (Posted e) = returned accounts e
book_reverse accounts free (Adrift e) = reversing.Done
book_reverse accounts free (Leaving e) = returned accounts e
book_reverse accounts free Closed = reversing.Done

abbrev pub booked_back : List Account → Details → ReverseAnswer → List Account
booked_back accounts e reversing.Done = with_booking accounts (undoing e)
booked_back accounts e reversing.Silence = accounts

-- booked back once: where a posted or leaving line is closed
abbrev pub accounts_after_reverse : List Account → Line → ReverseAnswer → List Account
accounts_after_reverse accounts Absent r = accounts
accounts_after_reverse accounts (Posted e) r = booked_back accounts e r
accounts_after_reverse accounts (Adrift e) r = accounts
accounts_after_reverse accounts (Leaving e) r = booked_back accounts e r
accounts_after_reverse accounts Closed r = accounts

-- what a posted or leaving line has booked can go back
abbrev pub StaysBack : List Account → Line → Type 0
StaysBack accounts Absent = Unit {0}
StaysBack accounts (Posted e) = stays (balance_of accounts e.card) (undoing e) ≡ true
StaysBack accounts (Adrift e) = Unit {0}
StaysBack accounts (Leaving e) = stays (balance_of accounts e.card) (undoing e) ≡ true
StaysBack accounts Closed = Unit {0}
