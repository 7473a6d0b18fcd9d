-- What an answer without a fault tells of the tests before it.
use Rattle.std.proofs.Common.{◌≡◌, ℕ, Bool, true, false, cond, Some, None, Ok, Err, Option, Result, refl, arith}
use Rattle.iso8583.specs.Reading.{after, unless}

module _ {A F : Type 0} where
  pub never : {a : A} {f : F} → Err f ≡ Ok a → ⊥
  never {a} {f} h = let z : ◌≡◌ {A = ℕ} 0 1 = cc in omega arith

  pub same_ok : {a b : A} → ◌≡◌ {A = Result A F} (Ok a) (Ok b) → a ≡ b
  same_ok h = cc

  pub chosen_ok : (b : Bool) (x : Result A F) (f : F) (a : A) → cond b x (Err f) ≡ Ok a → (b ≡ true) × (x ≡ Ok a)
  chosen_ok true x f a h = (refl, h)
  chosen_ok false x f a h = absurd (never h)

  pub unless_ok : (o : Option ℕ) (fault : ℕ → F) (x a : A) → unless o fault x ≡ Ok a → (o ≡ None) × (x ≡ a)
  unless_ok None fault x a h = (refl, same_ok h)
  unless_ok (Some i) fault x a h = absurd (never h)

module _ {A B F : Type 0} where
  pub after_is_ok : (s : Result A F) (next : A → Result B F) (b : B) → after s next ≡ Ok b → (a : A) × (s ≡ Ok a) × (next a ≡ Ok b)
  after_is_ok (Ok a) next b h = (a, refl, h)
  after_is_ok (Err f) next b h = absurd (never h)
