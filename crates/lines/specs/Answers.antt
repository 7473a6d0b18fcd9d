-- What a line that is found answers to a post and to a reverse, and what it comes to.
use Rattle.std.specs.Prelude.{ℕ, ◌+◌, ◌-◌, Bool, true, false, cond, not, ◌&&◌, ◌||◌, ◌==◌, nat_lt}
use Rattle.host.specs.declared.ask.PostAnswer.{PostAnswer}
use Rattle.host.specs.declared.ask.PostAnswer.TheVariants as posting
use Rattle.host.specs.declared.ask.ReverseAnswer.{ReverseAnswer}
use Rattle.host.specs.declared.ask.ReverseAnswer.TheVariants as reversing
use Rattle.host.specs.declared.line.Details.{Details}
use Rattle.host.specs.declared.line.Side.{Side}
use Rattle.host.specs.declared.line.Side.TheVariants.{Debit, Credit}
use Rattle.host.specs.declared.line.Line.{Line}
use Rattle.host.specs.declared.line.Line.TheVariants.{Absent, Posted, Adrift, Leaving, Closed}

abbrev pub same_side : Side → Side → Bool
same_side Debit Debit = true
same_side Debit Credit = false
same_side Credit Debit = false
same_side Credit Credit = true

-- the same card, digit by digit, the same side and the same amount
abbrev pub same : Details → Details → Bool
same e d = e.card.digits == d.card.digits && e.card.count == d.card.count && same_side e.side d.side && e.amount == d.amount

abbrev pub is_debit : Side → Bool
is_debit Debit = true
is_debit Credit = false

-- with a line found, a host that is not silent answers by it alone
abbrev pub repeated : Details → Details → PostAnswer
repeated e d = cond (same e d) posting.Posted posting.Clash

-- a reverse is silent where a new closed line finds no place
abbrev pub reverse_answer : ℕ → Line → ReverseAnswer
reverse_answer free Absent = cond (free == 0) reversing.Silence reversing.Done
reverse_answer free (Posted d) = reversing.Done
reverse_answer free (Adrift d) = reversing.Done
reverse_answer free (Leaving d) = reversing.Done
reverse_answer free Closed = reversing.Done

-- the line that a post leaves, by its answer
abbrev pub left_by : Line → Details → PostAnswer → Line
left_by Absent d posting.Posted = Posted d
left_by Absent d (posting.Declined c) = Absent
left_by Absent d posting.Silence = Adrift d
left_by Absent d posting.Clash = Absent
left_by (Posted e) d r = Posted e
left_by (Adrift e) d posting.Posted = Posted e
left_by (Adrift e) d (posting.Declined c) = Adrift e
left_by (Adrift e) d posting.Silence = Adrift e
left_by (Adrift e) d posting.Clash = Adrift e
left_by (Leaving e) d r = Leaving e
left_by Closed d r = Closed

-- there is a line
abbrev pub present : Line → Bool
present Absent = false
present (Posted d) = true
present (Adrift d) = true
present (Leaving d) = true
present Closed = true

-- a table that has this line and so many free places can take that one in its stead
abbrev pub room_for : Line → Line → ℕ → Bool
room_for found line free = not (present line) || present found || nat_lt 0 free

-- how many places are then free: a new line takes one, and a line that goes gives its own back
abbrev pub places_left : Line → Line → ℕ → ℕ
places_left found line free =
    cond (present line) (cond (present found) free (free - 1)) (cond (present found) (free + 1) free)
