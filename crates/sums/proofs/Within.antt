-- How many transactions the figures hold at most.
use Rattle.std.proofs.Common.{ℕ, ◌+◌, ◌≤◌, arith}
use Rattle.host.specs.declared.line.Side.{Side}
use Rattle.sums.specs.Sums.{Measure, Sums, approvals, reversals, share, no_sums, with_approval, with_reversal, most, ApprovedWithin, ReversedWithin}

share_most : (m : Measure) (acquirer issuer : ℕ) (side : Side) (amount p q : ℕ) → amount ≤ 1000000000000 → share m acquirer issuer side amount p q ≤ most m 1
share_most m acquirer issuer side amount p q h = grind arith

one_above : (m : Measure) (n figure more : ℕ) → figure ≤ most m n → more ≤ most m 1 → figure + more ≤ most m (n + 1)
one_above m n figure more h k = grind arith

most_rises : (m : Measure) (n k : ℕ) → n ≤ k → most m n ≤ most m k
most_rises m n k h = grind arith

-- an approval is one transaction more
pub approved_more : (n : ℕ) (s : Sums) (acquirer issuer : ℕ) (side : Side) (amount : ℕ) → amount ≤ 1000000000000 → ApprovedWithin n s → ApprovedWithin (n + 1) (with_approval s acquirer issuer side amount)
approved_more n s acquirer issuer side amount h within m p q = one_above m n (s (approvals m) p q) (share m acquirer issuer side amount p q) (within m p q) (share_most m acquirer issuer side amount p q h)

pub reversed_more : (n : ℕ) (s : Sums) (acquirer issuer : ℕ) (side : Side) (amount : ℕ) → amount ≤ 1000000000000 → ReversedWithin n s → ReversedWithin (n + 1) (with_reversal s acquirer issuer side amount)
reversed_more n s acquirer issuer side amount h within m p q = one_above m n (s (reversals m) p q) (share m acquirer issuer side amount p q) (within m p q) (share_most m acquirer issuer side amount p q h)

-- neither adds to the figures of the other
pub approved_stays : (n : ℕ) (s : Sums) (acquirer issuer : ℕ) (side : Side) (amount : ℕ) → ApprovedWithin n s → ApprovedWithin n (with_reversal s acquirer issuer side amount)
approved_stays n s acquirer issuer side amount within = within

pub reversed_stays : (n : ℕ) (s : Sums) (acquirer issuer : ℕ) (side : Side) (amount : ℕ) → ReversedWithin n s → ReversedWithin n (with_approval s acquirer issuer side amount)
reversed_stays n s acquirer issuer side amount within = within

pub none_approved : ApprovedWithin 0 no_sums
none_approved m p q = omega arith

pub none_reversed : ReversedWithin 0 no_sums
none_reversed m p q = omega arith

pub approved_rises : (n k : ℕ) (s : Sums) → n ≤ k → ApprovedWithin n s → ApprovedWithin k s
approved_rises n k s h within m p q = let a = within m p q in let b = most_rises m n k h in omega arith

pub reversed_rises : (n k : ℕ) (s : Sums) → n ≤ k → ReversedWithin n s → ReversedWithin k s
reversed_rises n k s h within m p q = let a = within m p q in let b = most_rises m n k h in omega arith
