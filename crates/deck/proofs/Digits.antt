-- What the digits of a line write, or why they write nothing.
use Rattle.std.proofs.Common.{◌≡◌, ℕ, ◌%◌, true, false, true≢false, if◌then◌else◌, ◌⊎◌, inl, inr, List, length, Ok, Err, None, is_some, refl, sym, ◌∙◌, arith}
use Rattle.std.specs.List.{list_all}
use Rattle.std.specs.Result.{result_ok}
use Rattle.std.specs.Char.{is_ascii_hexdigit}
use Rattle.std.proofs.lemmas.Bool.{cases_eq}
use Rattle.std.proofs.lemmas.Bool.Decides.{nat_tests}
use Rattle.std.proofs.lemmas.List.Sums.{AllPass-from_list_all, list_all-from_AllPass}
use Rattle.hex.specs.Hex.{decode_of, is_hex_digit}
use Rattle.hex.specs.declared.error.FromHexError.{FromHexError}
use Rattle.hex.specs.declared.error.FromHexError.TheVariants.{OddLength, OutOfMemory}
use Rattle.hex.proofs.HexLemmas.{decode_of-ok, decode_of-digits, decode_of-err}
use Rattle.deck.specs.Text.{hex_bytes}
use Rattle.deck.specs.Deck.{hex_fault}
use Rattle.deck.specs.declared.LineFault.TheVariants.{Digits, Memory}

-- std and `decode` mean the same characters
pub same_digit : (c : ℕ) → is_ascii_hexdigit c ≡ is_hex_digit c
same_digit c = grind (arith, nat_tests)

-- with a wrong digit there are no bytes
pub wrong : (digits : List ℕ) → list_all is_hex_digit digits ≡ false → hex_bytes digits ≡ None
wrong digits some_wrong = elim (decode_of digits) as (λ r. decode_of digits ≡ r → result_ok r ≡ None) [
  | Ok bytes ↦ λ e. absurd (true≢false (sym (list_all-from_AllPass is_hex_digit digits (decode_of-ok digits bytes e).1) ∙ some_wrong))
  | Err e ↦ λ _. refl
] refl

-- where all digits are right, `decode` fails for memory alone, or since one digit is left over
pub failed : (digits : List ℕ) (e : FromHexError) → list_all is_hex_digit digits ≡ true → (length digits % 2 ≡ 1 → e ≡ OddLength) → (e ≡ OutOfMemory) ⊎ (decode_of digits ≡ Err e) → hex_fault e ≡ if is_some (hex_bytes digits) then Memory else Digits
failed digits e right odd (inl memory) = elim (cases_eq (length digits % 2) 1) [
  | inl left_over ↦ cc (odd left_over)
  | inr even ↦ rw (memory, (decode_of-digits digits (omega arith) (AllPass-from_list_all is_hex_digit digits right)).1) refl
]
failed digits e right odd (inr bad) = elim (decode_of-err digits e bad) [
  | inl left_over ↦ rw (bad, left_over.1) refl
  | inr at ↦ rw (bad, at.1) refl
]
