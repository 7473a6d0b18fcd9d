-- What a new entry adds to the sums, and that their bounds are kept.
use Rattle.std.proofs.Common.{◌≡◌, ℕ, zero, suc, true, ◌⊎◌, replicate, None, sym, refl, ap, ◌∙◌, subst, ⊎_elim, arith}
use Rattle.journal.specs.Entries.{side_of}
use Rattle.journal.specs.Numbers.{acquirer}
use Rattle.journal.specs.Places.{Places}
use Rattle.journal.specs.declared.entry.Entry.{Entry}
use Rattle.journal.specs.declared.entry.State.{State}
use Rattle.journal.specs.declared.entry.State.TheVariants.{Waiting, Completed}
use Rattle.sums.specs.Counting.{with_one}
use Rattle.sums.specs.declared.figures.Kind.TheVariants.{Approval, Reversal}
use Rattle.sums.specs.declared.payment.Payment.{Payment}
use Rattle.sums.specs.Sums.{Sums, no_sums, with_approval, with_reversal, ApprovedWithin, ReversedWithin}
use Rattle.sums.proofs.Within.{approved_rises, reversed_rises, none_approved, none_reversed}
use Rattle.books.specs.Ledgers.{approved, reversed, counted}
use Rattle.books.specs.Sizes.{all_small}

pub counts : (st : State) (s : Sums) (e : Entry) → (st ≡ Waiting) ⊎ (st ≡ Completed) → counted st s e ≡ approved s e
counts st s e is = ⊎_elim (λ w. ap (λ x. counted x s e) w) (λ c. ap (λ x. counted x s e) c) is

-- a payment that is the entry's
pub as_approved : (s t : Sums) (e : Entry) (x : Payment) → t ≡ with_one Approval s x → (x.acquirer ≡ acquirer e.number) × (x.issuer ≡ e.issuer) → x.side ≡ side_of e.terms.processing → x.amount ≡ e.terms.amount → t ≡ approved s e
as_approved s t e x is banks side amount = is ∙ (λ i. with_approval s (banks.0 i) (banks.1 i) (side i) (amount i))

pub as_reversed : (s t : Sums) (e : Entry) (x : Payment) → t ≡ with_one Reversal s x → (x.acquirer ≡ acquirer e.number) × (x.issuer ≡ e.issuer) → x.side ≡ side_of e.terms.processing → x.amount ≡ e.terms.amount → t ≡ reversed s e
as_reversed s t e x is banks side amount = is ∙ (λ i. with_reversal s (banks.0 i) (banks.1 i) (side i) (amount i))

-- an empty journal
nothing_small : (n : ℕ) → all_small (replicate n None) ≡ true
nothing_small zero = refl
nothing_small (suc n) = nothing_small n

pub empty_small : (ps : Places) (n : ℕ) → ps ≡ replicate n None → all_small ps ≡ true
empty_small ps n is = ap all_small is ∙ nothing_small n

pub nothing_approved : (n : ℕ) (s : Sums) → s ≡ no_sums → ApprovedWithin n s
nothing_approved n s is = subst (ApprovedWithin n) (sym is) (approved_rises 0 n no_sums (omega arith) none_approved)

pub nothing_reversed : (n : ℕ) (s : Sums) → s ≡ no_sums → ReversedWithin n s
nothing_reversed n s is = subst (ReversedWithin n) (sym is) (reversed_rises 0 n no_sums (omega arith) none_reversed)
