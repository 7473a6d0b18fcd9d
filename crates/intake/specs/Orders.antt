-- What a message asks of the switch, or why the switch does not take it.
use Rattle.std.specs.Prelude.{ℕ, ◌-◌, cond, ◌||◌, List, [], ◌∷◌, length, is_some, Some, None, Ok, Err, Option, Result, ◌==◌, nat_lt}
use Rattle.std.specs.List.{between}
use Rattle.std.specs.Str.Parse.{digits_value}
use Rattle.elements.specs.declared.fault.MessageFault.{MessageFault}
use Rattle.elements.specs.declared.fault.SwitchFault.{SwitchFault}
use Rattle.elements.specs.declared.fault.SwitchFault.TheVariants.{Long, Buffer, Message as Faulty, Mti, Missing}
use Rattle.elements.specs.Moments.{moment_of}
use Rattle.elements.specs.Originals.{parts}
use Rattle.host.specs.declared.line.Card.{Card}
use Rattle.iso8583.specs.declared.found.Found.{Found}
use Rattle.iso8583.specs.declared.message.Message.{Message}
use Rattle.iso8583.specs.Messages.{found_of, parts_of}
use Rattle.iso8583.specs.Reading.{after, unless, reading}
use Rattle.journal.specs.declared.entry.Kind.{Kind}
use Rattle.journal.specs.declared.entry.Kind.TheVariants.{Request, Advice}
use Rattle.intake.specs.declared.order.Service.{Service}
use Rattle.intake.specs.declared.order.Service.TheVariants.{Present, Reverse}
use Rattle.intake.specs.declared.order.Particulars.{Particulars}
use Rattle.intake.specs.declared.order.Presentment.{Presentment}
use Rattle.intake.specs.declared.order.Reversal.{Reversal}
use Rattle.intake.specs.declared.order.Order.{Order}
use Rattle.intake.specs.declared.order.Order.TheVariants.{Presented, Reversed}

-- the characters of an element that was found
abbrev pub characters : List ℕ → Option Found → List ℕ
characters bs None = []
characters bs (Some f) = between f.start f.end bs

-- the characters of an element, of those found in the bytes
abbrev pub chars_of : List ℕ → List Found → ℕ → List ℕ
chars_of bs es k = characters bs (found_of es k)

-- where the characters of an element start
abbrev pub first_place : Option Found → ℕ
first_place None = 0
first_place (Some f) = f.start

-- elements 4, 7, 11 and 32; the place of 32 is that of its two length digits
abbrev pub particulars_of : List ℕ → List Found → Particulars
particulars_of bs es =
    record {
      amount = digits_value 10 (chars_of bs es 4);
      moment = moment_of (chars_of bs es 7);
      trace = digits_value 10 (chars_of bs es 11);
      acquirer = digits_value 10 (chars_of bs es 32);
      place = first_place (found_of es 32) - 2;
    }

-- a card by its digits and how many they are
abbrev pub card_of : List ℕ → Card
card_of cs = record { digits = digits_value 10 cs; count = length cs }

abbrev pub presentment_of : Kind → List ℕ → List Found → Presentment
presentment_of k bs es =
    record {
      kind = k;
      card = card_of (chars_of bs es 2);
      processing = digits_value 10 (chars_of bs es 3);
      particulars = particulars_of bs es;
    }

abbrev pub reversal_of : List ℕ → List Found → Reversal
reversal_of bs es = record { particulars = particulars_of bs es; original = parts (chars_of bs es 90) }

abbrev pub told_by : Order → Particulars
told_by (Presented p) = p.particulars
told_by (Reversed r) = r.particulars

-- of the elements that a type requires, the first that was not found
abbrev pub missing : List Found → List ℕ → Option ℕ
missing es [] = None
missing es (k ∷ ks) = cond (is_some (found_of es k)) (missing es ks) (Some k)

abbrev pub presented : Kind → List ℕ → List Found → Result Order SwitchFault
presented k bs es = unless (missing es (2 ∷ 3 ∷ 4 ∷ 7 ∷ 11 ∷ 32 ∷ [])) (λ m. Missing m) (Presented (presentment_of k bs es))

abbrev pub reversed : List ℕ → List Found → Result Order SwitchFault
reversed bs es = unless (missing es (4 ∷ 7 ∷ 11 ∷ 32 ∷ 90 ∷ [])) (λ m. Missing m) (Reversed (reversal_of bs es))

-- what the types ask for: 0200 and 0201 are requests, 0220 and 0221 advices, 0400, 0401, 0420 and 0421 reversals
abbrev pub service_of : ℕ → Option Service
service_of mti =
    cond (mti == 200 || mti == 201) (Some (Present Request))
    (cond (mti == 220 || mti == 221) (Some (Present Advice))
    (cond (mti == 400 || mti == 401 || mti == 420 || mti == 421) (Some Reverse)
    None))

-- a type that the switch takes (10), with nothing missing (11)
abbrev pub asked : Option Service → List ℕ → List Found → Result Order SwitchFault
asked None bs es = Err Mti
asked (Some (Present k)) bs es = presented k bs es
asked (Some Reverse) bs es = reversed bs es

-- the bytes of a message that was read, and the elements found in them
abbrev pub text_of : Message → List ℕ
text_of m = m.bytes.now

abbrev pub elements_of : Message → List Found
elements_of m = (parts_of m).elements

abbrev pub asked_by : Message → Result Order SwitchFault
asked_by m = asked (service_of m.layout.mti) (text_of m) (elements_of m)

-- a message's fault is the switch's
abbrev pub lifted : {A : Type 0} → Result A MessageFault → Result A SwitchFault
lifted (Ok a) = Ok a
lifted (Err f) = Err (Faulty f)

-- the message is not too long (1), and there is room enough for the reply (2)
abbrev pub fitting : ℕ → ℕ → Result (Unit {0}) SwitchFault
fitting size room = cond (nat_lt 2048 size) (Err Long) (cond (nat_lt room 96) (Err Buffer) (Ok tt))

-- both sizes, then what the reader finds (3 to 9), then type and elements
abbrev pub ordered : List ℕ → ℕ → Result Order SwitchFault
ordered bs room =
    after (fitting (length bs) room) (λ _.
    after (lifted (reading bs)) (λ p.
    asked (service_of p.mti) bs p.elements))
