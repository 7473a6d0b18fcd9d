-- The bounds of the sums are kept by each change of the books.
use Rattle.std.proofs.Common.{◌≡◌, ℕ, zero, suc, ◌+◌, ◌<◌, ◌≤◌, true, false, [], ◌∷◌, length, get_or, set, IfSome, Some, None, Option, sym, refl, ap, ◌∙◌, subst, arith, length-set, MatchOption}
use Rattle.std.proofs.lemmas.Bool.Decides.{nat_tests}
use Rattle.journal.specs.Entries.{side_of, owing, in_state}
use Rattle.journal.specs.Entries as entries
use Rattle.journal.specs.Numbers.{acquirer}
use Rattle.journal.specs.Places.{Places, seek, Found, taken, undone, lowest_free, one_if}
use Rattle.journal.specs.declared.entry.Entry.{Entry}
use Rattle.journal.specs.declared.entry.Held.{Held}
use Rattle.journal.specs.declared.entry.State.{State}
use Rattle.journal.proofs.Tallies.{taken_at_most, undone_at_most, taken_new, undone_new, taken_over, undone_over}
use Rattle.sums.specs.Sums.{Sums, ApprovedWithin, ReversedWithin}
use Rattle.sums.proofs.Within.{approved_more, reversed_more, approved_rises, reversed_rises}
use Rattle.books.specs.Ledgers.{reversed, counted}
use Rattle.books.specs.Sizes.{small, small_at, all_small}

-- sizes
pub small-set : (ps : Places) (i : ℕ) (p : Option Entry) → all_small ps ≡ true → small_at p ≡ true → all_small (set ps i p) ≡ true
small-set [] i p h k = refl
small-set (q ∷ ps) zero p h k = grind arith
small-set (q ∷ ps) (suc i) p h k = let rest = small-set ps i p in grind arith

small_place : (ps : Places) (i : ℕ) → all_small ps ≡ true → small_at (get_or ps i None) ≡ true
small_place [] i h = refl
small_place (q ∷ ps) zero h = grind arith
small_place (q ∷ ps) (suc i) h = let rest = small_place ps i in grind arith

pub small_here : (ps : Places) (i : ℕ) (e : Entry) → all_small ps ≡ true → get_or ps i None ≡ Some e → small e ≡ true
small_here ps i e h is = sym (ap small_at is) ∙ small_place ps i h

-- an entry that was found is small
pub found_small : (ps : Places) (n : ℕ) (r : Option Held) → all_small ps ≡ true → MatchOption r (seek ps n ≡ None) (λ held. Found ps n held.place held.entry) → IfSome r (λ held. small held.entry ≡ true)
found_small ps n None h f = tt
found_small ps n (Some held) h f = small_here ps held.place held.entry h f.there

-- owed by a reversal, it is so still: its code is then 21
pub small_owing : (e : Entry) → small e ≡ true → small (owing e) ≡ true
small_owing e h = grind (arith, nat_tests)

amount_small : (e : Entry) → small e ≡ true → e.terms.amount ≤ 1000000000000
amount_small e h = grind (arith, nat_tests)

-- what today approved and reversed is within what the journal has
pub record Within (ps : Places) (s : Sums) : Type 0 where
  pub approvals : ApprovedWithin (taken ps) s
  pub reversals : ReversedWithin (undone ps) s

-- a new entry: one place more is taken
counts_within : (st : State) (n : ℕ) (s : Sums) (e : Entry) → e.terms.amount ≤ 1000000000000 → ApprovedWithin n s → ApprovedWithin (n + 1) (counted st s e)
counts_within st n s e h w m p q =
    let more = approved_more n s (acquirer e.number) e.issuer (side_of e.terms.processing) e.terms.amount h w m p q in
    let less = approved_rises n (n + 1) s (omega arith) w m p q in
    grind arith

still_within : (st : State) (n : ℕ) (s : Sums) (e : Entry) → ReversedWithin n s → ReversedWithin n (counted st s e)
still_within st n s e w m p q = let same = w m p q in grind arith

module _ (ps : Places) (i : ℕ) (e : Entry) (s : Sums) (full : length ps ≡ 512) (free : lowest_free ps ≡ Some i) (w : Within ps s) where
  pub room_for_one : ApprovedWithin 511 s
  room_for_one =
      let more = taken_new ps i e free in
      let most = taken_at_most (set ps i (Some e)) in
      let same = length-set ps i (Some e) in
      approved_rises (taken ps) 511 s (omega arith) w.approvals

  pub taking_within : (qs : Places) (t : Sums) → qs ≡ set ps i (Some e) → t ≡ counted e.state s e → small e ≡ true → Within qs t
  taking_within qs t places sums size =
      let k = ap taken places ∙ taken_new ps i e free in
      let u = ap undone places ∙ undone_new ps i e free in
      record {
        approvals = subst (λ n. ApprovedWithin n t) (sym k) (subst (ApprovedWithin (taken ps + 1)) (sym sums) (counts_within e.state (taken ps) s e (amount_small e size) w.approvals));
        reversals = reversed_rises (undone ps) (undone qs) t (omega arith) (subst (ReversedWithin (undone ps)) (sym sums) (still_within e.state (undone ps) s e w.reversals));
      }

-- an entry that becomes owed: one more is undone
module _ (ps : Places) (i : ℕ) (e : Entry) (s : Sums) (full : length ps ≡ 512) (inside : i < 512) (here : get_or ps i None ≡ Some e) (before : entries.undone e.state ≡ false) (w : Within ps s) where
  undone_more : undone (set ps i (Some (owing e))) ≡ undone ps + 1
  undone_more = let u = undone_over ps i e (owing e) (omega arith) here in let z = ap one_if before in omega arith

  pub room_to_reverse : ReversedWithin 511 s
  room_to_reverse =
      let most = undone_at_most (set ps i (Some (owing e))) in
      let few = taken_at_most (set ps i (Some (owing e))) in
      let same = length-set ps i (Some (owing e)) in
      let more = undone_more in
      reversed_rises (undone ps) 511 s (omega arith) w.reversals

  pub owing_within : (qs : Places) (t : Sums) → qs ≡ set ps i (Some (owing e)) → t ≡ reversed s e → small e ≡ true → Within qs t
  owing_within qs t places sums size =
      let k = ap taken places ∙ taken_over ps i e (owing e) (omega arith) here in
      let u = ap undone places ∙ undone_more in
      record {
        approvals = subst (λ n. ApprovedWithin n t) (sym k) (subst (ApprovedWithin (taken ps)) (sym sums) w.approvals);
        reversals = subst (λ n. ReversedWithin n t) (sym u) (subst (ReversedWithin (undone ps + 1)) (sym sums) (reversed_more (undone ps) s (acquirer e.number) e.issuer (side_of e.terms.processing) e.terms.amount (amount_small e size) w.reversals));
      }

-- an entry in another state, which is undone if it was
pub forwarding_within : (ps qs : Places) (i : ℕ) (e : Entry) (st : State) (s : Sums) → length ps ≡ 512 → i < 512 → get_or ps i None ≡ Some e → entries.undone st ≡ entries.undone e.state → qs ≡ set ps i (Some (in_state st e)) → Within ps s → Within qs s
forwarding_within ps qs i e st s full inside here same places w =
    let k = ap taken places ∙ taken_over ps i e (in_state st e) (omega arith) here in
    let v = undone_over ps i e (in_state st e) (omega arith) here in
    let z = ap one_if same in
    let u : undone qs ≡ undone ps = ap undone places ∙ omega arith in
    record { approvals = subst (λ n. ApprovedWithin n s) (sym k) w.approvals; reversals = subst (λ n. ReversedWithin n s) (sym u) w.reversals }
