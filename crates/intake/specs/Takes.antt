-- What a call of the switch is answered before the books are looked at.
use Rattle.std.specs.Prelude.{◌≡◌, ℕ, ◌≤◌, List, length, Ok, Err, Result}
use Rattle.elements.specs.declared.fault.SwitchFault.{SwitchFault}
use Rattle.iso8583.specs.declared.message.Message.{Message}
use Rattle.iso8583.specs.Messages.{Lies}
use Rattle.intake.specs.declared.order.Order.{Order}
use Rattle.intake.specs.Orders.{ordered}
use Rattle.intake.specs.Sizes.{Sized}

-- the order that the bytes ask for, with what follows of it
pub record Takes (bs : List ℕ) (room : ℕ) (m : Message) (o : Order) : Type 0 where
  pub is : ordered bs room ≡ Ok o
  pub lies : Lies bs m
  pub small : Sized o
  pub known : m.layout.mti ≤ 421
  pub short : length bs ≤ 2048
  pub roomy : 96 ≤ room

-- an order, or the fault that is found first
abbrev pub Taken : List ℕ → ℕ → Result (Message × Order) SwitchFault → Type 0
Taken bs room (Ok p) = Takes bs room p.0 p.1
Taken bs room (Err f) = ordered bs room ≡ Err f
