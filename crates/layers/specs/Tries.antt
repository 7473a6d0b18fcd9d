-- What the host below a retry was asked.
use Rattle.std.specs.Prelude.{◌≡◌, ℕ, ◌+◌, ◌%◌, ◌^◌, ◌≤◌, Bool, cond, Some, nat_lt}
use Rattle.host.specs.declared.ask.Ask.TheVariants.{Post, Reverse}
use Rattle.host.specs.declared.ask.PostAnswer.{PostAnswer}
use Rattle.host.specs.declared.ask.PostAnswer.TheVariants.{Posted, Declined, Silence, Clash}
use Rattle.host.specs.declared.ask.ReverseAnswer.{ReverseAnswer}
use Rattle.host.specs.declared.ask.ReverseAnswer.TheVariants as reversing
use Rattle.host.specs.declared.line.Details.{Details}
use Rattle.host.specs.declared.line.Key.{Key}
use Rattle.host.specs.Meaning.{Meaning}

-- what a decline is once a silence went before it
abbrev pub softened : PostAnswer → PostAnswer
softened Posted = Posted
softened (Declined c) = Silence
softened Silence = Silence
softened Clash = Clash

-- the host below was asked k times and answered `said` to the last, by its count and its latest ask; it was silent to the last
-- only where there was no time left
pub record Tried (m : Meaning) (times : ℕ) (key : Key) (d : Details) (must_stand : Bool) (r : PostAnswer) (n : Meaning) : Type 0 where
  pub k : ℕ
  pub said : PostAnswer
  pub some : 1 ≤ k
  pub most : k ≤ times + 1
  pub asks : n.asks ≡ (m.asks + k) % 2 ^ 32
  pub turns : n.turns ≡ m.turns
  pub latest : n.latest ≡ Some (Post key d must_stand said)
  pub passed : r ≡ cond (nat_lt 1 k) (softened said) said
  pub stopped : said ≡ Silence → k ≡ times + 1

pub record Undone (m : Meaning) (times : ℕ) (key : Key) (r : ReverseAnswer) (n : Meaning) : Type 0 where
  pub k : ℕ
  pub some : 1 ≤ k
  pub most : k ≤ times + 1
  pub asks : n.asks ≡ (m.asks + k) % 2 ^ 32
  pub turns : n.turns ≡ m.turns
  pub latest : n.latest ≡ Some (Reverse key r)
  pub stopped : r ≡ reversing.Silence → k ≡ times + 1
