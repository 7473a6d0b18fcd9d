-- Elements as the table has them. Only private functions cite this file.
use Rattle.std.specs.Prelude.{◌≡◌, ℕ, ◌≤◌, Bool, true, false, cond, ◌&&◌, List, [], ◌∷◌, length, is_some, Ok, Err, Result, ◌==◌}
use Rattle.elements.specs.declared.fault.SwitchFault.{SwitchFault}
use Rattle.elements.specs.declared.fault.SwitchFault.TheVariants.{Missing}
use Rattle.elements.specs.declared.table.Format.{Format}
use Rattle.elements.specs.declared.table.Format.TheVariants.{Numeric, Alphanumeric, Printable}
use Rattle.elements.specs.declared.table.Length.{Length}
use Rattle.elements.specs.declared.table.Length.TheVariants.{Fixed, UpTo}
use Rattle.elements.specs.declared.table.Row.{Row}
use Rattle.elements.specs.Table.{table, blank, fits, admits, within}
use Rattle.iso8583.specs.declared.message.Element.{Element}
use Rattle.iso8583.specs.declared.message.Message.{Message}
use Rattle.iso8583.specs.Messages.{found_of}
use Rattle.iso8583.specs.Reading.{unless}
use Rattle.iso8583.specs.declared.found.Found.{Found}
use Rattle.intake.specs.declared.order.Particulars.{Particulars}
use Rattle.intake.specs.Orders.{elements_of, text_of, chars_of, first_place, missing, particulars_of}

-- the element's row of the table
abbrev pub row_of : List Row → ℕ → Row
row_of [] k = blank
row_of (r ∷ rs) k = cond (r.element == k) r (row_of rs k)

abbrev pub every : (ℕ → Bool) → List ℕ → Bool
every good [] = true
every good (c ∷ cs) = good c && every good cs

-- a length and characters that the row allows
abbrev pub conforms : Row → List ℕ → Bool
conforms r cs = admits r.length (length cs) && every (fits r.format) cs

-- the most characters that an element may have
abbrev pub most : Length → ℕ
most (Fixed n) = n
most (UpTo n) = n

abbrev pub numeric : Format → Bool
numeric Numeric = true
numeric Alphanumeric = false
numeric Printable = false

-- an element of digits whose number fits 64 bits
abbrev pub is_figure : Row → Bool
is_figure r = numeric r.format && within 1 19 (most r.length)

-- the most digits of the elements that are read as one number, and 0 for any other: what the table has, in a form that is
-- computed at each call
abbrev pub figures : ℕ → ℕ
figures k = cond (k == 2) 19 (cond (k == 3) 6 (cond (k == 4) 12 (cond (k == 11) 6 (cond (k == 32) 11 0))))

-- the message has the element
abbrev pub has : Message → ℕ → Bool
has m k = is_some (found_of (elements_of m) k)

-- its characters
abbrev pub chars_in : Message → ℕ → List ℕ
chars_in m k = chars_of (text_of m) (elements_of m) k

-- an element that was found: its characters, as the table has them, and where they start
pub record Stands (m : Message) (k : ℕ) (e : Element) : Type 0 where
  pub chars : e.chars.now ≡ chars_in m k
  pub offset : e.offset ≡ first_place (found_of (elements_of m) k)
  pub sound : conforms (row_of table k) e.chars.now ≡ true
  pub late : 20 ≤ e.offset

-- what is read of an element, or that the message does not have it
abbrev pub Required : {A : Type 0} → Message → ℕ → (A → Type 0) → Result A SwitchFault → Type 0
Required m k P (Ok a) = (has m k ≡ true) × P a
Required m k P (Err f) = (has m k ≡ false) × (f ≡ Missing k)

-- what every message that the switch takes has to tell, or the first of it that is missing
abbrev pub told : List ℕ → List Found → Result Particulars SwitchFault
told bs es = unless (missing es (4 ∷ 7 ∷ 11 ∷ 32 ∷ [])) (λ k. Missing k) (particulars_of bs es)
