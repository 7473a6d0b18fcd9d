-- What the limit host answers to a post, by the line found and by what else it knows.
use Rattle.std.specs.Prelude.{ℕ, cond, ◌&&◌, ◌==◌, nat_lt}
use Rattle.host.specs.declared.ask.PostAnswer.{PostAnswer}
use Rattle.host.specs.declared.ask.PostAnswer.TheVariants as posting
use Rattle.host.specs.declared.line.Details.{Details}
use Rattle.host.specs.declared.line.Line.{Line}
use Rattle.host.specs.declared.line.Line.TheVariants.{Absent, Posted, Adrift, Leaving, Closed}
use Rattle.lines.specs.Answers.{is_debit, repeated}

-- with none found, the limit host declines by the first of: no place free, a debit above the limit
abbrev pub within_limit : ℕ → ℕ → Details → PostAnswer
within_limit limit free d = cond (free == 0) (posting.Declined 96) (cond (is_debit d.side && nat_lt limit d.amount) (posting.Declined 61) posting.Posted)

-- what the limit host answers to a post
abbrev pub limit_answer : ℕ → ℕ → Line → Details → PostAnswer
limit_answer limit free Absent d = within_limit limit free d
limit_answer limit free (Posted e) d = repeated e d
limit_answer limit free (Adrift e) d = repeated e d
limit_answer limit free (Leaving e) d = posting.Silence
limit_answer limit free Closed d = posting.Declined 21
