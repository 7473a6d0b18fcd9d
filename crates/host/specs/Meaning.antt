-- What a host means, and what each of its calls does to that.
use Rattle.std.specs.Prelude.{◌≡◌, ℕ, ◌+◌, ◌%◌, ◌^◌, ◌≤◌, Bool, true, false, cond, ◌||◌, Some, Option, ◌≢◌}
use Rattle.host.specs.declared.ask.Ask.{Ask}
use Rattle.host.specs.declared.ask.Ask.TheVariants.{Post, Reverse}
use Rattle.host.specs.declared.ask.ForgetAnswer.{ForgetAnswer}
use Rattle.host.specs.declared.ask.ForgetAnswer.TheVariants as forgetting
use Rattle.host.specs.declared.ask.PostAnswer.{PostAnswer}
use Rattle.host.specs.declared.ask.PostAnswer.TheVariants as posting
use Rattle.host.specs.declared.ask.ReverseAnswer.{ReverseAnswer}
use Rattle.host.specs.declared.ask.ReverseAnswer.TheVariants as reversing
use Rattle.host.specs.declared.line.Details.{Details}
use Rattle.host.specs.declared.line.Key.{Key}
use Rattle.host.specs.declared.line.Line.{Line}
use Rattle.host.specs.declared.line.Line.TheVariants.{Absent, Posted, Adrift, Leaving, Closed}

-- at most one line for each issuer and number, which pairs are held, how many asks and turns there were, and the latest ask
pub record Meaning : Type 0 where
  pub lines : ℕ → ℕ → Line
  pub held : ℕ → ℕ → Bool
  pub asks : ℕ
  pub turns : ℕ
  pub latest : Option Ask

-- counts are kept modulo 2^32
abbrev pub counted : ℕ → ℕ
counted n = (n + 1) % 2 ^ 32

-- every decline has a code of 1 to 99
abbrev pub Code : ℕ → Type 0
Code c = (1 ≤ c) × (c ≤ 99)

-- what a post may answer, by the line found, and the line that it leaves
abbrev pub Posting : Line → Details → PostAnswer → Line → Type 0
Posting Absent d posting.Posted after = after ≡ Posted d
Posting Absent d (posting.Declined c) after = Code c × (after ≡ Absent)
Posting Absent d posting.Silence after = after ≡ Adrift d
Posting Absent d posting.Clash after = ⊥
Posting (Posted e) d posting.Posted after = (e ≡ d) × (after ≡ Posted e)
Posting (Posted e) d (posting.Declined c) after = ⊥
Posting (Posted e) d posting.Silence after = (e ≡ d) × (after ≡ Posted e)
Posting (Posted e) d posting.Clash after = (e ≢ d) × (after ≡ Posted e)
Posting (Adrift e) d posting.Posted after = (e ≡ d) × (after ≡ Posted e)
Posting (Adrift e) d (posting.Declined c) after = (e ≡ d) × Code c × (after ≡ Adrift e)
Posting (Adrift e) d posting.Silence after = (e ≡ d) × (after ≡ Adrift e)
Posting (Adrift e) d posting.Clash after = (e ≢ d) × (after ≡ Adrift e)
Posting (Leaving e) d posting.Posted after = ⊥
Posting (Leaving e) d (posting.Declined c) after = ⊥
Posting (Leaving e) d posting.Silence after = after ≡ Leaving e
Posting (Leaving e) d posting.Clash after = ⊥
Posting Closed d posting.Posted after = ⊥
Posting Closed d (posting.Declined c) after = Code c × (after ≡ Closed)
Posting Closed d posting.Silence after = after ≡ Closed
Posting Closed d posting.Clash after = ⊥

-- done closes the line, also where there was none; silence makes a posted or adrift line leaving, and changes no other
abbrev pub reversed : Line → ReverseAnswer → Line
reversed l reversing.Done = Closed
reversed Absent reversing.Silence = Absent
reversed (Posted d) reversing.Silence = Leaving d
reversed (Adrift d) reversing.Silence = Leaving d
reversed (Leaving d) reversing.Silence = Leaving d
reversed Closed reversing.Silence = Closed

-- an adrift or leaving line cannot be forgotten
abbrev pub unsettled : Line → Bool
unsettled Absent = false
unsettled (Posted d) = false
unsettled (Adrift d) = true
unsettled (Leaving d) = true
unsettled Closed = false

-- forget says not now on a held pair and on an unsettled line
abbrev pub forgetting_answer : Bool → Line → ForgetAnswer
forgetting_answer held l = cond (held || unsettled l) forgetting.NotNow forgetting.Done

-- not now changes nothing; done leaves no line
abbrev pub forgotten : ForgetAnswer → Line → Line
forgotten forgetting.NotNow l = l
forgotten forgetting.Done l = Absent

-- all lines but that of a key are as they were
abbrev pub Elsewhere : Meaning → Key → Meaning → Type 0
Elsewhere m key n = (i k : ℕ) → ((i ≡ key.issuer) × (k ≡ key.number) → ⊥) → n.lines i k ≡ m.lines i k

pub record Posts (m : Meaning) (key : Key) (d : Details) (must_stand : Bool) (r : PostAnswer) (n : Meaning) : Type 0 where
  pub here : Posting (m.lines key.issuer key.number) d r (n.lines key.issuer key.number)
  pub elsewhere : Elsewhere m key n
  pub asks : n.asks ≡ counted m.asks
  pub turns : n.turns ≡ m.turns
  pub latest : n.latest ≡ Some (Post key d must_stand r)

pub record Reverses (m : Meaning) (key : Key) (r : ReverseAnswer) (n : Meaning) : Type 0 where
  pub here : n.lines key.issuer key.number ≡ reversed (m.lines key.issuer key.number) r
  pub elsewhere : Elsewhere m key n
  pub asks : n.asks ≡ counted m.asks
  pub turns : n.turns ≡ m.turns
  pub latest : n.latest ≡ Some (Reverse key r)

-- forget is decided by the meaning alone
pub record Forgets (m : Meaning) (key : Key) (r : ForgetAnswer) (n : Meaning) : Type 0 where
  pub answer : r ≡ forgetting_answer (m.held key.issuer key.number) (m.lines key.issuer key.number)
  pub here : n.lines key.issuer key.number ≡ forgotten r (m.lines key.issuer key.number)
  pub elsewhere : Elsewhere m key n
  pub held : (i k : ℕ) → n.held i k ≡ m.held i k
  pub asks : n.asks ≡ m.asks
  pub turns : n.turns ≡ m.turns
  pub latest : n.latest ≡ m.latest

-- a turn is counted; which pairs are held may change, and nothing else does
pub record Turns (m : Meaning) (n : Meaning) : Type 0 where
  pub lines : (i k : ℕ) → n.lines i k ≡ m.lines i k
  pub asks : n.asks ≡ m.asks
  pub turns : n.turns ≡ counted m.turns
  pub latest : n.latest ≡ m.latest
