-- A reply is never refused: it is written whole, and read again.
use Rattle.std.proofs.Common.{◌≡◌, ℕ, ◌+◌, ◌≤◌, List, length, take, drop, Ok, Result, sym, refl, ap, ◌∙◌, subst, arith}
use Rattle.std.proofs.lemmas.List.{take_at}
use Rattle.elements.specs.declared.fault.MessageFault.{MessageFault}
use Rattle.elements.specs.Table.{table}
use Rattle.iso8583.specs.declared.message.Message.{Message}
use Rattle.composer.specs.Composes.{Steps}
use Rattle.composer.specs.Contents.{composed}
use Rattle.composer.specs.Writing.{laid}
use Rattle.composer.proofs.Rounds.{yielded_again}
use Rattle.replies.specs.Picks.{items_for}
use Rattle.replies.specs.Replies.{Reads, answer, bytes_of, reply_type, said, type_of}
use Rattle.replies.proofs.Along.{along, nine_along, chars_said}
use Rattle.replies.proofs.Requests.{type_read}
use Rattle.replies.proofs.Says.{answer_says, answer_short}

pub record Whole (bs : List ℕ) (code : ℕ) (out : List ℕ) (r : Result ℕ MessageFault) (out' : List ℕ) : Type 0 where
  pub answered : r ≡ Ok (length (answer bs code))
  pub short : length (answer bs code) ≤ 92
  pub written : out' ≡ laid out 0 (answer bs code)
  pub reads : Reads bs code (take (length (answer bs code)) out')

pub whole : (m : Message) (code : ℕ) (out out' : List ℕ) (r : Result ℕ MessageFault) → code ≤ 99 → m.layout.mti ≤ 9989 → 96 ≤ length out → Steps (composed out (reply_type m.layout.mti) (items_for (bytes_of m) code)) r out' → Whole (bytes_of m) code out r out'
unfolding items_for
whole m code out out' r small typed room steps =
    let bs = bytes_of m in
    let text = answer bs code in
    let is = along table (said bs code) in
    let short = answer_short bs code small in
    let type : type_of bs ≡ m.layout.mti = type_read m in
    let four : reply_type (type_of bs) ≤ 9999 = omega arith in
    let says = answer_says bs code small four in
    let goes =
    (λ j. composed out (reply_type (sym type j)) (nine_along bs code j))
    ∙ yielded_again out (reply_type (type_of bs)) is text says (omega arith) in
    let written : out' ≡ laid out 0 text = steps.1 ∙ ap (λ c. c.out) goes in
    let front : take (length text) out' ≡ text = ap (take (length text)) written ∙ take_at text (drop (0 + length text) out) (length text) refl in
    record {
      answered = steps.0 ∙ ap (λ c. c.answer) goes;
      short = short;
      written = written;
      reads = subst (Reads bs code) (sym front) (record { items = is; read = says; says = chars_said bs code });
    }
