-- How large the numbers of an order can be.
use Rattle.std.specs.Prelude.{ℕ, ◌^◌, ◌<◌, ◌≤◌, Some, None, Option}
use Rattle.elements.specs.Originals.{SizedOriginal}
use Rattle.host.specs.declared.line.Card.{Card}
use Rattle.intake.specs.declared.order.Particulars.{Particulars}
use Rattle.intake.specs.declared.order.Presentment.{Presentment}
use Rattle.intake.specs.declared.order.Reversal.{Reversal}
use Rattle.intake.specs.declared.order.Order.{Order}
use Rattle.intake.specs.declared.order.Order.TheVariants.{Presented, Reversed}

-- at most ten digits, if there is a moment
abbrev pub TenDigits : Option ℕ → Type 0
TenDigits None = Unit {0}
TenDigits (Some n) = n < 10000000000

pub record SizedParticulars (p : Particulars) : Type 0 where
  pub amount : p.amount < 1000000000000
  pub moment : TenDigits p.moment
  pub trace : p.trace < 1000000
  pub acquirer : p.acquirer < 100000000000

pub record SizedCard (c : Card) : Type 0 where
  pub some : 1 ≤ c.count
  pub most : c.count ≤ 19
  pub digits : c.digits < 10 ^ c.count

pub record SizedPresentment (p : Presentment) : Type 0 where
  pub card : SizedCard p.card
  pub processing : p.processing < 1000000
  pub particulars : SizedParticulars p.particulars

pub record SizedReversal (r : Reversal) : Type 0 where
  pub particulars : SizedParticulars r.particulars
  pub original : SizedOriginal r.original

abbrev pub Sized : Order → Type 0
Sized (Presented p) = SizedPresentment p
Sized (Reversed r) = SizedReversal r
