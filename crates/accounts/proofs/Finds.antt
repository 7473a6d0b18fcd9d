-- The first account of a card is the one that its balance is read from, and where a booking goes.
use Rattle.std.proofs.Common.{◌≡◌, ℕ, ◌<◌, ◌∷◌, ◌++◌, List, [], Some, None, length, get_or, set, take, drop, replicate, position, refl, arith}
use Rattle.std.specs.List.{position_or_len}
use Rattle.std.proofs.lemmas.Bool.Decides.{nat_tests}
use Rattle.std.proofs.lemmas.List.{length-take, get_or-take, drop-replicate}
use Rattle.std.proofs.lemmas.List.Folds.{find_at}
use Rattle.std.proofs.lemmas.List.Quantifiers.{position-Some}
use Rattle.std.proofs.lemmas.Option.{slice_get-get_or}
use Rattle.std.proofs.Math.Seq.{take-set-lt, drop-append_seam}
use Rattle.host.specs.declared.line.Card.{Card}
use Rattle.host.specs.declared.line.Details.{Details}
use Rattle.accounts.specs.declared.accounts.Account.{Account}
use Rattle.accounts.specs.Balances.{same_card, balance_of, booked_on, with_booking}
use Rattle.accounts.specs.Opening.{no_account, blank_from}

pub read : (xs : List Account) (c : Card) (i : ℕ) (e : Account) → position (λ x. same_card x.card c) xs ≡ Some i → balance_of xs c ≡ Some (get_or xs i e).balance
read xs c i e p = let f = find_at (λ x. same_card x.card c) xs in let h = slice_get-get_or xs i e in grind (arith, nat_tests)

first : (xs : List Account) (d : Details) (e : Account) → set xs (position_or_len (λ x. same_card x.card d.card) xs) (booked_on (get_or xs (position_or_len (λ x. same_card x.card d.card) xs) e) d) ≡ with_booking xs d
first [] d e = refl
first (a ∷ xs) d e = let h = first xs d e in grind (arith, nat_tests)

pub booking : (xs : List Account) (d : Details) (i : ℕ) (e : Account) → position (λ x. same_card x.card d.card) xs ≡ Some i → set xs i (booked_on (get_or xs i e) d) ≡ with_booking xs d
booking xs d i e p = let h = first xs d e in grind (arith, nat_tests)

pub no_booking : (xs : List Account) (d : Details) → position (λ x. same_card x.card d.card) xs ≡ None → with_booking xs d ≡ xs
no_booking [] d p = refl
no_booking (a ∷ xs) d p = let h : position (λ x. same_card x.card d.card) xs ≡ None → with_booking xs d ≡ xs = no_booking xs d in grind (arith, nat_tests)

-- the same in a row of places, of which the first n have an account
module _ (ps : List Account) (n : ℕ) (i : ℕ) (e : Account) where
  here : (c : Card) → position (λ x. same_card x.card c) (take n ps) ≡ Some i → i < n
  here c p = omega (arith, simp length-take at ((position-Some (λ x. same_card x.card c) (take n ps) i e p).0))

  pub read_here : (c : Card) → position (λ x. same_card x.card c) (take n ps) ≡ Some i → balance_of (take n ps) c ≡ Some (get_or ps i e).balance
  read_here c p = rw (← get_or-take n ps i e (here c p)) (read (take n ps) c i e p)

  pub booking_here : (d : Details) → position (λ x. same_card x.card d.card) (take n ps) ≡ Some i → take n (set ps i (booked_on (get_or ps i e) d)) ≡ with_booking (take n ps) d
  booking_here d p =
      let k = here d.card p in
      rw (take-set-lt n ps i (booked_on (get_or ps i e) d) k, ← get_or-take n ps i e k) (booking (take n ps) d i e p)

-- behind accounts that are laid over blank places
pub laid : (xs ys : List Account) (a : Account) → ys ≡ xs → a ≡ no_account → drop (length xs) (ys ++ drop (length xs) (replicate 256 a)) ≡ blank_from (length xs)
unfolding blank_from
laid xs ys a e b = rw (e, b, drop-append_seam xs (drop (length xs) (replicate 256 no_account)), drop-replicate (length xs) 256 no_account)
