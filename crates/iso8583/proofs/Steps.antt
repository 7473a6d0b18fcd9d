-- Steps that may refuse, one after the other.
use Rattle.std.proofs.Common.{◌≡◌, ℕ, IsErrAnd, MatchResult, Ok, Err, Some, None, Option, Result, ap, ◌∙◌, subst}
use Rattle.std.proofs.lemmas.Result.{err_from_is_err_and}
use Rattle.iso8583.specs.Reading.{after, unless}

module _ {A B F : Type 0} where
  pub after_ok : {s : Result A F} {a : A} (next : A → Result B F) → Ok a ≡ s → next a ≡ after s next
  after_ok next e = ap (λ r. after r next) e

  pub after_err : {s : Result A F} {f : F} (next : A → Result B F) → Err f ≡ s → Err f ≡ after s next
  after_err next e = ap (λ r. after r next) e

-- a place that is told as a fault
pub faulty : {F : Type 0} (r : Result ℕ ℕ) (s : Result ℕ F) (fault : ℕ → F) (o : Option ℕ) (v : ℕ) → r ≡ unless o (λ i. i) v → MatchResult r (λ x. s ≡ Ok x) (λ i. IsErrAnd s (λ f. f ≡ fault i)) → s ≡ unless o fault v
faulty r s fault None v e m = let P : Result ℕ ℕ → Type 0 = λ x. MatchResult x (λ n. s ≡ Ok n) (λ i. IsErrAnd s (λ f. f ≡ fault i)) in subst P e m
faulty r s fault (Some i) v e m =
    let P : Result ℕ ℕ → Type 0 = λ x. MatchResult x (λ n. s ≡ Ok n) (λ j. IsErrAnd s (λ f. f ≡ fault j)) in
    let p = err_from_is_err_and s (subst P e m) in
    p.1 ∙ ap (λ y. Err y) p.2
