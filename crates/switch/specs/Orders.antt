-- What the private steps of a message answer: a response code, whatever the host was asked and answered.
use Rattle.std.specs.Prelude.{ℕ, ◌*◌, ◌^◌, ◌<◌, ◌≤◌, Option}
use Rattle.host.specs.declared.ask.PostAnswer.{PostAnswer}
use Rattle.intake.specs.declared.order.Order.{Order}
use Rattle.intake.specs.declared.order.Presentment.{Presentment}
use Rattle.intake.specs.declared.order.Reversal.{Reversal}
use Rattle.journal.specs.declared.entry.Terms.{Terms}
use Rattle.switch.specs.Handled.{Does}
use Rattle.switch.specs.Requests.{Said, ByKind, Presents}
use Rattle.switch.specs.Reversals.{TakesBack}
use Rattle.switch.specs.States.{State}

-- a step that comes to a code of two digits
pub record Coded (Comes : Said → Type 0) (code : ℕ) : Type 0 where
  pub asked : Option PostAnswer
  pub comes : Comes (record { code = code; asked = asked })
  pub small : code ≤ 99

-- the numbers of a new entry are not too large
pub record Fits (number issuer : ℕ) (x : Terms) : Type 0 where
  pub number_is : number < 16 * 10 ^ 16
  pub bank : issuer < 16
  pub amount : x.amount < 10 ^ 12

abbrev pub EnteredSo : State → ℕ → ℕ → ℕ → Terms → ℕ → State → Type 0
EnteredSo s number issuer place x code t = Coded (λ r. ByKind x.kind s number issuer place x r t) code

abbrev pub PresentedSo : State → ℕ → Presentment → ℕ → State → Type 0
PresentedSo s acquirer p code t = Coded (λ r. Presents s acquirer p r t) code

abbrev pub TakenBackSo : State → ℕ → Reversal → ℕ → State → Type 0
TakenBackSo s acquirer v code t = Coded (λ r. TakesBack s acquirer v r t) code

abbrev pub Obeyed : State → ℕ → Order → ℕ → State → Type 0
Obeyed s acquirer o code t = Coded (λ r. Does s acquirer o r t) code
