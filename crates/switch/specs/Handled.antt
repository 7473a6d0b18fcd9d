-- A message handled: bytes in, bytes out.
use Rattle.std.specs.Prelude.{◌≡◌, ℕ, List, length, Some, None, Ok, Err, Option, Result}
use Rattle.elements.specs.declared.fault.SwitchFault.{SwitchFault}
use Rattle.elements.specs.declared.fault.SwitchFault.TheVariants.{Acquirer}
use Rattle.composer.specs.Writing.{laid}
use Rattle.intake.specs.Orders.{ordered, told_by}
use Rattle.intake.specs.declared.order.Order.{Order}
use Rattle.intake.specs.declared.order.Order.TheVariants.{Presented, Reversed}
use Rattle.members.specs.Codes.{place_in}
use Rattle.replies.specs.Replies.{answer}
use Rattle.switch.specs.Requests.{Said, Presents}
use Rattle.switch.specs.Reversals.{TakesBack}
use Rattle.switch.specs.States.{State}

-- what an order from the bank at this place comes to
abbrev pub Does : State → ℕ → Order → Said → State → Type 0
Does s acquirer (Presented p) r t = Presents s acquirer p r t
Does s acquirer (Reversed v) r t = TakesBack s acquirer v r t

-- a refusal changes nothing: not the switch, and no byte of the buffer
abbrev pub Refused : SwitchFault → State → List ℕ → Result ℕ SwitchFault → State → List ℕ → Type 0
Refused fault s out r t out' = (r ≡ Err fault) × (t ≡ s) × (out' ≡ out)

-- one reply, which fills the front of the buffer
pub record Replied (s : State) (acquirer : ℕ) (o : Order) (bs out : List ℕ) (r : Result ℕ SwitchFault) (t : State) (out' : List ℕ) : Type 0 where
  pub said : Said
  pub does : Does s acquirer o said t
  pub told : r ≡ Ok (length (answer bs said.code))
  pub written : out' ≡ laid out 0 (answer bs said.code)

-- 12: element 32 names no bank
abbrev pub ByBank : Option ℕ → Order → State → List ℕ → List ℕ → Result ℕ SwitchFault → State → List ℕ → Type 0
ByBank None o s bs out r t out' = Refused (Acquirer (told_by o).place) s out r t out'
ByBank (Some acquirer) o s bs out r t out' = Replied s acquirer o bs out r t out'

-- 1 to 11: what the bytes ask for
abbrev pub ByOrder : Result Order SwitchFault → State → List ℕ → List ℕ → Result ℕ SwitchFault → State → List ℕ → Type 0
ByOrder (Err fault) s bs out r t out' = Refused fault s out r t out'
ByOrder (Ok o) s bs out r t out' = ByBank (place_in s.banks (told_by o).acquirer) o s bs out r t out'

-- a message of any bytes, and a buffer for the reply
abbrev pub Handles : State → List ℕ → List ℕ → Result ℕ SwitchFault → State → List ℕ → Type 0
Handles s bs out r t out' = ByOrder (ordered bs (length out)) s bs out r t out'
