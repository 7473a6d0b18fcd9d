-- One more transaction, at its place and in the sums.
use Rattle.std.proofs.Common.{◌≡◌, ℕ, ◌+◌, ◌<◌, ◌≤◌, cond, ◌&&◌, eqb, List, length, refl, ap, ◌∙◌, subst, arith}
use mathlib.Core.Path.{fun_ext}
use Rattle.host.specs.declared.line.Side.{Side}
use Rattle.host.specs.declared.line.Side.TheVariants.{Debit, Credit}
use Rattle.sums.specs.Counting.{Holds, Counted, tally_in, counting, with_one, Room}
use Rattle.sums.specs.Sums.{number_of, amount_of, Figure, approvals, reversals, Sums, worth, with_approval, with_reversal, ApprovedWithin, ReversedWithin}
use Rattle.sums.specs.Tables.{figures_at, figure_in, table_sums, Square}
use Rattle.sums.specs.declared.figures.Figures.{Figures}
use Rattle.sums.specs.declared.figures.Kind.{Kind}
use Rattle.sums.specs.declared.payment.Payment.{Payment}
use Rattle.sums.specs.declared.figures.Kind.TheVariants.{Approval, Reversal}
use Rattle.sums.proofs.Placed.{placed, in_rows, in_columns, grows}
use Rattle.sums.proofs.Within.{approved_more, approved_stays, reversed_more, reversed_stays}

-- what a transaction adds to a figure
abbrev added : Kind → Side → ℕ → Figure → ℕ
added Approval side amount (approvals m) = worth m side amount
added Approval side amount (reversals m) = 0
added Reversal side amount (approvals m) = 0
added Reversal side amount (reversals m) = worth m side amount

counting_adds : (x : Figures) (kind : Kind) (side : Side) (amount : ℕ) (f : Figure) → figure_in (counting x kind side amount) f ≡ figure_in x f + added kind side amount f
counting_adds x kind side amount f = grind arith

-- the sums with one more transaction, of any two banks and any amount
abbrev pub with_any : Kind → Sums → ℕ → ℕ → Side → ℕ → Sums
with_any Approval s acquirer issuer side amount = with_approval s acquirer issuer side amount
with_any Reversal s acquirer issuer side amount = with_reversal s acquirer issuer side amount

-- a payment is one
pub one_is : (kind : Kind) (s : Sums) (a : Payment) → with_any kind s a.acquirer a.issuer a.side a.amount ≡ with_one kind s a
one_is Approval s a = refl
one_is Reversal s a = refl

-- the sums of a table with one more transaction
module _ (t : List (List Figures)) (p q : ℕ) (side : Side) (amount : ℕ) (x : Figures) (full : length t ≡ 16) (square : Square t) (row : p < 16) (column : q < 16) where
  abbrev after : Sums
  after = table_sums (placed t p q x)

  abbrev Counts : Kind → Type 0
  Counts kind = x ≡ counting (figures_at t p q) kind side amount

  grown : (kind : Kind) → Counts kind → (f : Figure) (i j : ℕ) → after f i j ≡ table_sums t f i j + cond (eqb i p && eqb j q) (added kind side amount f) 0
  grown kind is =
      grows t p q x (added kind side amount) (in_rows t p full row) (in_columns t p q square row column) (λ f. ap (λ (y : Figures). figure_in y f) is ∙ counting_adds (figures_at t p q) kind side amount f)

  each : (kind : Kind) → Counts kind → (f : Figure) (i j : ℕ) → after f i j ≡ with_any kind (table_sums t) p q side amount f i j
  each kind is f i j = let g = grown kind is f i j in grind arith

  pub counted_placed : (kind : Kind) → Counts kind → after ≡ with_any kind (table_sums t) p q side amount
  counted_placed kind is = fun_ext (λ f. fun_ext (λ i. fun_ext (λ j. each kind is f i j)))

-- and of a payment
pub payment_placed : (kind : Kind) (t : List (List Figures)) (a : Payment) (x : Figures) → length t ≡ 16 → Square t → x ≡ counting (figures_at t a.acquirer a.issuer) kind a.side a.amount → table_sums (placed t a.acquirer a.issuer x) ≡ with_one kind (table_sums t) a
payment_placed kind t a x full square is =
    counted_placed t a.acquirer a.issuer a.side a.amount x full square a.banks.0 a.banks.1 kind is ∙ one_is kind (table_sums t) a

-- the day's limit stays
pub approved_after : (kind : Kind) (s : Sums) (acquirer issuer : ℕ) (side : Side) (amount : ℕ) → amount ≤ 1000000000000 → Room kind s → ApprovedWithin 512 s → ApprovedWithin 512 (with_any kind s acquirer issuer side amount)
approved_after Approval s acquirer issuer side amount small room within = approved_more 511 s acquirer issuer side amount small room
approved_after Reversal s acquirer issuer side amount small room within = approved_stays 512 s acquirer issuer side amount within

pub reversed_after : (kind : Kind) (s : Sums) (acquirer issuer : ℕ) (side : Side) (amount : ℕ) → amount ≤ 1000000000000 → Room kind s → ReversedWithin 512 s → ReversedWithin 512 (with_any kind s acquirer issuer side amount)
reversed_after Approval s acquirer issuer side amount small room within = reversed_stays 512 s acquirer issuer side amount within
reversed_after Reversal s acquirer issuer side amount small room within = reversed_more 511 s acquirer issuer side amount small room

pub payment_approved : (kind : Kind) (s : Sums) (a : Payment) → Room kind s → ApprovedWithin 512 s → ApprovedWithin 512 (with_one kind s a)
payment_approved kind s a room within =
    subst (ApprovedWithin 512) (one_is kind s a) (approved_after kind s a.acquirer a.issuer a.side a.amount a.small room within)

pub payment_reversed : (kind : Kind) (s : Sums) (a : Payment) → Room kind s → ReversedWithin 512 s → ReversedWithin 512 (with_one kind s a)
payment_reversed kind s a room within =
    subst (ReversedWithin 512) (one_is kind s a) (reversed_after kind s a.acquirer a.issuer a.side a.amount a.small room within)

-- a place holds no more than the sums of its table
pub room_holds : (kind : Kind) (t : List (List Figures)) (p q : ℕ) (side : Side) → Room kind (table_sums t) → Holds 511 (tally_in (figures_at t p q) kind side)
room_holds Approval t p q side room = record { number = room (number_of side) p q; amount = room (amount_of side) p q }
room_holds Reversal t p q side room = record { number = room (number_of side) p q; amount = room (amount_of side) p q }

pub counted : (t : List (List Figures)) (p q : ℕ) → ApprovedWithin 512 (table_sums t) → ReversedWithin 512 (table_sums t) → Counted (figures_at t p q)
counted t p q within back =
    record {
      credits = record { number = within (number_of Credit) p q; amount = within (amount_of Credit) p q };
      credit_reversals = record { number = back (number_of Credit) p q; amount = back (amount_of Credit) p q };
      debits = record { number = within (number_of Debit) p q; amount = within (amount_of Debit) p q };
      debit_reversals = record { number = back (number_of Debit) p q; amount = back (amount_of Debit) p q };
    }
