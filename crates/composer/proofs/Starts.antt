-- The start of a writer, by its tests.
use Rattle.std.proofs.Common.{◌≡◌, ℕ, ◌+◌, ◌<◌, ◌≤◌, List, length, Ok, Err, sym, ap, ◌∙◌, arith}
use Rattle.std.proofs.lemmas.Bool.{cond-true, cond-false, le-leb, lt-leb}
use Rattle.elements.specs.declared.fault.MessageFault.{MessageFault}
use Rattle.elements.specs.declared.fault.MessageFault.TheVariants.{Mti, Room}
use Rattle.iso8583.specs.Reading.{after, body}
use Rattle.elements.specs.Table.{table}
use Rattle.composer.specs.Writing.{head, laid, chosen, announced, begun, starting}
use Rattle.composer.proofs.Lays.{length-head}
use Rattle.iso8583.proofs.Steps.{after_ok, after_err}

module _ (out : List ℕ) (mti : ℕ) (es : List ℕ) where
  pub mti_refused : 9999 < mti → starting out mti es ≡ Err (Mti 0)
  mti_refused h = cond-false _ _ _ (lt-leb mti 9999 h)

  module _ (h : mti ≤ 9999) where
    four : starting out mti es ≡ after (announced es) (begun out mti)
    four = cond-true _ _ _ (le-leb mti 9999 h)

    pub marks_refused : (f : MessageFault) → Err f ≡ announced es → starting out mti es ≡ Err f
    marks_refused f e = four ∙ sym (after_err (begun out mti) e)

    module _ (bits : ℕ) (e : Ok bits ≡ announced es) where
      by_room : starting out mti es ≡ begun out mti bits
      by_room = four ∙ sym (after_ok (begun out mti) e)

      pub head_refused : length out < body bits → starting out mti es ≡ Err (Room 0)
      head_refused l = by_room ∙ cond-false _ _ _ (lt-leb (length (head mti bits)) (length out) (omega (arith, length-head mti bits)))

      pub started : body bits ≤ length out → starting out mti es ≡ Ok (record { out = laid out 0 (head mti bits); used = body bits; rest = chosen table bits })
      started l =
          let long = length-head mti bits in
          let used : 0 + length (head mti bits) ≡ body bits = omega arith in
          by_room ∙ cond-true _ _ _ (le-leb (length (head mti bits)) (length out) (omega arith))
          ∙ ap (λ n. Ok (record { out = laid out 0 (head mti bits); used = n; rest = chosen table bits })) used
