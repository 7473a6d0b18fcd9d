-- A whole message, from its start and its elements.
use Rattle.std.proofs.lemmas.Bool.Decides.{nat_tests}
use Rattle.std.proofs.Common.{◌≡◌, ℕ, List, [], ◌∷◌, map, Ok, Err, Result, refl, ap, arith}
use Rattle.elements.specs.declared.fault.MessageFault.{MessageFault}
use Rattle.iso8583.specs.declared.message.Element.{Element}
use Rattle.composer.specs.Composes.{Steps, items}
use Rattle.composer.specs.Contents.{Item, all_put, composed}
use Rattle.composer.specs.Writing.{State, starting}

pub numbers_of_items : (es : List Element) → map (λ e. e.number) es ≡ map (λ i. i.number) (items es)
numbers_of_items [] = refl
numbers_of_items (e ∷ es) = ap (λ ns. e.number ∷ ns) (numbers_of_items es)

-- a start, before all elements
module _ (out : List ℕ) (mti : ℕ) (is : List Item) where
  pub begins : {s : State} {r : Result ℕ MessageFault} {out' : List ℕ} → starting out mti (map (λ i. i.number) is) ≡ Ok s → Steps (all_put s is) r out' → Steps (composed out mti is) r out'
  begins {s} {r} {out'} e put = grind (arith, nat_tests)

  pub refused : {f : MessageFault} {r : Result ℕ MessageFault} {out' : List ℕ} → (starting out mti (map (λ i. i.number) is) ≡ Err f) × (out' ≡ out) → r ≡ Err f → Steps (composed out mti is) r out'
  refused {f} {r} {out'} e is-err = grind (arith, nat_tests)
