-- How a fault is told: number, layer, element and place.
use Rattle.std.specs.Prelude.{ℕ, List, ◌∷◌, ◌++◌, codes}
use Rattle.std.specs.Fmt.{decimal}
use Rattle.elements.specs.declared.fault.Layer.{Layer}
use Rattle.elements.specs.declared.fault.Layer.TheVariants as layer
use Rattle.elements.specs.declared.fault.Refusal.{Refusal}
use Rattle.elements.specs.declared.fault.ElementFault.TheVariants.{Truncated, Length, Character}
use Rattle.elements.specs.declared.fault.MessageFault.{MessageFault}
use Rattle.elements.specs.declared.fault.MessageFault.TheVariants.{Mti, Bitmap, Unknown, Empty, Element, Trailing, Order, Room}
use Rattle.elements.specs.declared.fault.SwitchFault.{SwitchFault}
use Rattle.elements.specs.declared.fault.SwitchFault.TheVariants.{Long, Buffer, Message, Mti as Untaken, Missing, Acquirer, Banks, Routes, Cutover, Reading}

abbrev pub told : ℕ → Layer → ℕ → ℕ → Refusal
told number layer element place = record { number = number; layer = layer; element = element; place = place }

abbrev pub refusal : MessageFault → Refusal
refusal (Mti i) = told 3 layer.Message 0 i
refusal (Bitmap i) = told 4 layer.Message 0 i
refusal (Unknown k i) = told 5 layer.Message k i
refusal Empty = told 5 layer.Message 0 20
refusal (Element (Truncated k i)) = told 6 layer.Element k i
refusal (Element (Length k i)) = told 7 layer.Element k i
refusal (Element (Character k i)) = told 8 layer.Element k i
refusal (Trailing i) = told 9 layer.Message 0 i
refusal (Order k) = told 13 layer.Message k 0
refusal (Room k) = told 14 layer.Message k 0

-- a fault of the switch; one of its message is told as the message's own
abbrev pub turned_away : SwitchFault → Refusal
turned_away Long = told 1 layer.Switch 0 0
turned_away Buffer = told 2 layer.Switch 0 0
turned_away (Message f) = refusal f
turned_away Untaken = told 10 layer.Switch 0 0
turned_away (Missing k) = told 11 layer.Switch k 0
turned_away (Acquirer i) = told 12 layer.Switch 32 i
turned_away Banks = told 15 layer.Switch 0 0
turned_away Routes = told 16 layer.Switch 0 0
turned_away Cutover = told 17 layer.Switch 0 0
turned_away Reading = told 18 layer.Switch 0 0

abbrev pub layer_text : Layer → List ℕ
layer_text layer.Element = codes "element"
layer_text layer.Message = codes "message"
layer_text layer.Switch = codes "switch"

-- a refusal as it is printed: its four parts, with a blank (32) between them
abbrev pub refusal_text : Refusal → List ℕ
refusal_text r = decimal r.number ++ 32 ∷ layer_text r.layer ++ 32 ∷ decimal r.element ++ 32 ∷ decimal r.place
