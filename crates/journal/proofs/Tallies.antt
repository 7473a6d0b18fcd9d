-- Sums over the places, and the least moment.
use Rattle.std.proofs.Common.{◌≡◌, ℕ, List, min, zero, suc, ◌+◌, ◌<◌, ◌≤◌, Bool, true, false, [], ◌∷◌, length, get_or, set, replicate, Some, None, Option, refl, ap, ◌∙◌, arith}
use Rattle.journal.specs.declared.entry.Entry.{Entry}
use Rattle.std.proofs.lemmas.List.Sums.{sum_by-cons}
use Rattle.std.specs.List.{count_by, fold, reduce, filter_map, cons_option}
use Rattle.journal.specs.Places.{Places, lowest_free, lesser, is_open, as_unsettled, open_moment, least_unsettled, tally, one_if, as_taken, as_undone, taken, undone}
use Rattle.journal.proofs.Stores.{lowest_is_free}

-- a write takes one place's share out of a sum, and puts another in
pub tally-set : (weight : Option Entry → ℕ) (ps : Places) (i : ℕ) (p : Option Entry) → i < length ps → tally weight (set ps i p) + weight (get_or ps i None) ≡ tally weight ps + weight p
tally-set weight [] i p lt = absurd (omega arith)
tally-set weight (q ∷ ps) zero p lt = omega arith
tally-set weight (q ∷ ps) (suc i) p lt = let rest = tally-set weight ps i p (omega arith) in omega arith

-- one sum is at most another where each share is
pub tally_at_most : (v w : Option Entry → ℕ) → ((p : Option Entry) → v p ≤ w p) → (ps : Places) → tally v ps ≤ tally w ps
tally_at_most v w each [] = omega arith
tally_at_most v w each (p ∷ ps) = let here = each p in let rest = tally_at_most v w each ps in omega arith

pub tally_nothing : (weight : Option Entry → ℕ) → weight None ≡ 0 → (n : ℕ) → tally weight (replicate n None) ≡ 0
tally_nothing weight none zero = refl
tally_nothing weight none (suc n) = let rest = tally_nothing weight none n in omega arith

-- no more entries than places
pub taken_at_most : (ps : Places) → taken ps ≤ length ps
taken_at_most [] = omega arith
taken_at_most (None ∷ ps) = let rest = taken_at_most ps in omega arith
taken_at_most (Some e ∷ ps) = let rest = taken_at_most ps in omega arith

one_at_most : (b : Bool) → one_if b ≤ 1
one_at_most true = omega arith
one_at_most false = omega arith

-- no more undone than taken
undone_share : (p : Option Entry) → as_undone p ≤ as_taken p
undone_share None = omega arith
undone_share (Some e) = one_at_most _

pub undone_at_most : (ps : Places) → undone ps ≤ taken ps
undone_at_most ps = tally_at_most as_undone as_taken undone_share ps

-- a new entry takes one place more, and is one more of the undone if it is owed or reversed
pub tally_new : (weight : Option Entry → ℕ) (ps : Places) (i : ℕ) (e : Entry) → weight None ≡ 0 → lowest_free ps ≡ Some i → tally weight (set ps i (Some e)) ≡ tally weight ps + weight (Some e)
tally_new weight ps i e none lowest =
    let f = lowest_is_free ps i lowest in
    let there = ap weight f.there in
    let moved = tally-set weight ps i (Some e) f.inside in omega arith

pub taken_new : (ps : Places) (i : ℕ) (e : Entry) → lowest_free ps ≡ Some i → taken (set ps i (Some e)) ≡ taken ps + 1
taken_new ps i e lowest = tally_new as_taken ps i e refl lowest

pub undone_new : (ps : Places) (i : ℕ) (e : Entry) → lowest_free ps ≡ Some i → undone (set ps i (Some e)) ≡ undone ps + as_undone (Some e)
undone_new ps i e lowest = tally_new as_undone ps i e refl lowest

-- an entry over another
pub taken_over : (ps : Places) (i : ℕ) (x e : Entry) → i < length ps → get_or ps i None ≡ Some x → taken (set ps i (Some e)) ≡ taken ps
taken_over ps i x e lt there =
    let was = ap as_taken there in let moved = tally-set as_taken ps i (Some e) lt in omega arith

pub undone_over : (ps : Places) (i : ℕ) (x e : Entry) → i < length ps → get_or ps i None ≡ Some x → undone (set ps i (Some e)) + as_undone (Some x) ≡ undone ps + as_undone (Some e)
undone_over ps i x e lt there =
    let was = ap as_undone there in let moved = tally-set as_undone ps i (Some e) lt in omega arith

-- the lesser of numbers that may be missing, in any grouping
pub lesser_none : (a : Option ℕ) → lesser a None ≡ a
lesser_none None = refl
lesser_none (Some m) = refl

pub lesser_lesser : (a b c : Option ℕ) → lesser (lesser a b) c ≡ lesser a (lesser b c)
lesser_lesser None b c = refl
lesser_lesser (Some m) None c = refl
lesser_lesser (Some m) (Some n) None = refl
lesser_lesser (Some m) (Some n) (Some k) = ap Some (omega arith)

-- as the library counts the open places, and finds the least moment
pub open_counted : (ps : Places) → count_by is_open ps ≡ tally as_unsettled ps
open_counted [] = refl
open_counted (p ∷ ps) = let rest = open_counted ps in simp sum_by-cons (grind arith)

min_fold : (m n : ℕ) (ns : List ℕ) → fold min (min m n) ns ≡ min m (fold min n ns)
min_fold m n [] = refl
min_fold m n (k ∷ ns) = let e : min (min m n) k ≡ min m (min n k) = omega arith in rw e (min_fold m (min n k) ns)

least_more : (o : Option ℕ) (ns : List ℕ) → reduce min (cons_option o ns) ≡ lesser o (reduce min ns)
least_more None ns = refl
least_more (Some m) [] = refl
least_more (Some m) (n ∷ ns) = ap Some (min_fold m n ns)

pub least_is : (ps : Places) → reduce min (filter_map open_moment ps) ≡ least_unsettled ps
least_is [] = refl
least_is (p ∷ ps) = least_more (open_moment p) (filter_map open_moment ps) ∙ ap (lesser (open_moment p)) (least_is ps)
