-- A set of elements that are told one by one.
use Rattle.std.proofs.Common.{◌≡◌, ℕ, ◌^◌, ◌<◌, ◌≤◌, min, true, false, ◌||◌, List, [], ◌∷◌, ◌++◌, Some, None, Option, Ok, Err, Result, MatchResult, sym, ap, ◌∙◌, subst, ⊎_elim, arith}
use lib.Bits.{bit_or, or_lt}
use Rattle.std.proofs.lemmas.Bool.{cases_Bool}
use Rattle.elements.proofs.Rows.{known_range, proper_table}
use Rattle.elements.specs.declared.fault.MessageFault.{MessageFault}
use Rattle.elements.specs.declared.fault.MessageFault.TheVariants.{Unknown}
use Rattle.iso8583.specs.Bitmap.{marked, first}
use Rattle.iso8583.specs.Reading.{unless}
use Rattle.elements.specs.Table.{table, known}
use Rattle.composer.specs.Announced.{gathered}
use Rattle.composer.specs.Writing.{sets, marks, bits_from, outside, announced}
use Rattle.iso8583.proofs.Bits.{marked_or}
use Rattle.iso8583.proofs.Outcomes.{never, same_ok, unless_ok}
use Rattle.composer.proofs.Bitmaps.{bits_below, bits_at}
use Rattle.composer.proofs.Sets.{marks-push, stranger_stays, stranger_first, stranger_falls, bits_same, bits_back}

-- what is below 2 or above 128, the table does not have
pub unknown : (k : ℕ) → (1 < k → 128 < k) → known table k ≡ false
unknown k h = ⊎_elim (λ t. let r = known_range table 1 k proper_table t in absurd (omega (arith, h r.0, r.1))) (λ f. f) (cases_Bool (known table k))

lowest_told : (o : Option ℕ) (bits low : ℕ) → Err low ≡ unless o (λ k. k) bits → o ≡ Some low
lowest_told None bits low h = absurd (never h)
lowest_told (Some k) bits low h = cc

module _ (es : List ℕ) (e : ℕ) where
  abbrev more : List ℕ
  more = es ++ e ∷ []

  -- where all are known
  module _ (bits : ℕ) (so_far : Ok bits ≡ gathered es) where
    parts : (first (outside es) 0 256 ≡ None) × (bits_from (marks es) 128 ≡ bits)
    parts = unless_ok (first (outside es) 0 256) (λ k. k) (bits_from (marks es) 128) bits (sym so_far)

    pub known_more : (own : ℕ) → own < 2 ^ 128 → ((k : ℕ) → 1 ≤ k → k ≤ 128 → marked own k ≡ sets e k) → known table e ≡ true → Ok (bit_or bits own) ≡ gathered more
    known_more own small set t =
        let is : bits ≡ bits_from (marks es) 128 = sym parts.1 in
        let below : bits < 2 ^ 128 = subst (λ b. b < 2 ^ 128) parts.1 (bits_below (marks es) 128) in
        let all : bit_or bits own ≡ bits_from (marks more) 128 =
        sym (bits_back 128 (bit_or bits own) (or_lt 128 bits own below small))
        ∙ bits_same (marked (bit_or bits own)) (marks more) 128 (λ k l h.
        marked_or bits own k ∙ (λ i. (ap (λ b. marked b k) is ∙ bits_at (marks es) 128 k l h) i || set k l h i) ∙ sym (marks-push es e k)) in
        ap (λ b. Ok b) all ∙ ap (λ o. unless o (λ k. k) (bits_from (marks more) 128)) (sym (stranger_stays es e t ∙ parts.0))

    pub stranger_more : e < 256 → known table e ≡ false → Err e ≡ gathered more
    stranger_more small f = ap (λ o. unless o (λ k. k) (bits_from (marks more) 128)) (sym (stranger_first es e small f parts.0))

  -- where one is not
  module _ (low : ℕ) (so_far : Err low ≡ gathered es) where
    lowest : first (outside es) 0 256 ≡ Some low
    lowest = lowest_told (first (outside es) 0 256) (bits_from (marks es) 128) low so_far

    pub known_later : known table e ≡ true → Err low ≡ gathered more
    known_later t = ap (λ o. unless o (λ k. k) (bits_from (marks more) 128)) (sym (stranger_stays es e t ∙ lowest))

    pub stranger_later : e < 256 → known table e ≡ false → Err (min low e) ≡ gathered more
    stranger_later small f = ap (λ o. unless o (λ k. k) (bits_from (marks more) 128)) (sym (stranger_falls es e small f low lowest))

-- all told
announces : (o : Option ℕ) (bits : ℕ) (set : Result ℕ ℕ) (r : Result ℕ MessageFault) → set ≡ unless o (λ k. k) bits → MatchResult set (λ b. r ≡ Ok b) (λ k. r ≡ Err (Unknown k 0)) → r ≡ unless o (λ k. Unknown k 0) bits
announces None bits (Ok b) r e m = m ∙ ap (λ x. Ok x) (same_ok e)
announces None bits (Err k) r e m = absurd (never e)
announces (Some k) bits (Ok b) r e m = absurd (never (sym e))
announces (Some k) bits (Err j) r e m = let same : j ≡ k = cc in m ∙ ap (λ x. Err (Unknown x 0)) same

pub all_gathered : (es : List ℕ) (set : Result ℕ ℕ) (r : Result ℕ MessageFault) → set ≡ gathered es → MatchResult set (λ b. r ≡ Ok b) (λ k. r ≡ Err (Unknown k 0)) → r ≡ announced es
all_gathered es set r e m = announces (first (outside es) 0 256) (bits_from (marks es) 128) set r e m
