-- What the places say of a number, and which place is free: from each place to the whole row.
use Rattle.std.proofs.Common.{◌≡◌, ℕ, zero, suc, ◌<◌, Bool, true, false, MatchOption, eqb, [], ◌∷◌, length, get_or, replicate, Some, None, Option, sym, refl, ap, ◌∙◌, subst, ⊎_elim, arith}
use Rattle.std.proofs.lemmas.List.{get_or_past}
use Rattle.std.proofs.lemmas.Bool.{cases_eq, cases_lt, eqb-true, cond-false}
use Rattle.journal.specs.declared.entry.Entry.{Entry}
use Rattle.journal.specs.declared.entry.Held.{Held}
use Rattle.journal.specs.Passes.{NonePasses, Finds}
use Rattle.std.specs.List.{position}
use mathlib.Core.Logic.{∥∥₁_elim}
use base.Stored.{coded_ℕ}
use denote.Struct.Props.{≡_prop}
use Rattle.std.specs.Option.{is_none}
use Rattle.journal.specs.Places.{Places, seek, Apart, lowest_free, Numbered, Found}

-- the first place has the number, or has another
pub seek_here : (x : Entry) (ps : Places) (n : ℕ) → x.number ≡ n → seek (Some x ∷ ps) n ≡ Some x
seek_here x ps n same = grind arith

pub seek_past : (x : Entry) (ps : Places) (n : ℕ) → (x.number ≡ n → ⊥) → seek (Some x ∷ ps) n ≡ seek ps n
seek_past x ps n other = grind arith

-- where nothing is found, the first place has another number and nothing is found behind it
pub not_found : (x : Entry) (ps : Places) (n : ℕ) → seek (Some x ∷ ps) n ≡ None → (x.number ≡ n → ⊥) × (seek ps n ≡ None)
not_found x ps n none = grind arith

-- what a pass over the places finds, in the words of a test
abbrev pub Gives : (Entry → Bool) → Entry → Bool → Type 0
Gives test e b = test e ≡ b

pub by_test : (T : Entry → Bool → Type 0) (test : Entry → Bool) (ps : Places) (from to : ℕ) (o : Option Held) → Finds T ps from to o → ((e : Entry) (b : Bool) → T e b → test e ≡ b) → Finds (Gives test) ps from to o
by_test T test ps from to None found says = record { first = λ k e l h there. says e false (found.first k e l h there) }
by_test T test ps from to (Some held) found says =
    let f = found.first in
    record {
      first = record {
        low = f.low;
        high = f.high;
        there = f.there;
        passes = says held.entry true f.passes;
        before = λ k e l h there. says e false (f.before k e l h there);
      };
    }

abbrev pub numbered : ℕ → Entry → Bool
numbered n e = eqb e.number n

-- the first place with a number has the entry that is found; where no place has it, nothing is found
pub seek_first : (ps : Places) (i n : ℕ) (e : Entry) → NonePasses (Gives (numbered n)) ps 0 i → get_or ps i None ≡ Some e → numbered n e ≡ true → seek ps n ≡ Some e
seek_first [] i n e before there same = absurd (cc)
seek_first (p ∷ ps) zero n e before there same = grind arith
seek_first (None ∷ ps) (suc i) n e before there same = seek_first ps i n e (λ k x l h at. before (suc k) x (omega arith) (omega arith) at) there same
seek_first (Some x ∷ ps) (suc i) n e before there same =
    cond-false _ (Some x) (seek ps n) (before 0 x (omega arith) (omega arith) refl) ∙ seek_first ps i n e (λ k x l h at. before (suc k) x (omega arith) (omega arith) at) there same

pub seek_none : (ps : Places) (n : ℕ) → NonePasses (Gives (numbered n)) ps 0 (length ps) → seek ps n ≡ None
seek_none [] n none = refl
seek_none (None ∷ ps) n none = seek_none ps n (λ k x l h at. none (suc k) x (omega arith) (omega arith) at)
seek_none (Some x ∷ ps) n none =
    cond-false _ (Some x) (seek ps n) (none 0 x (omega arith) (omega arith) refl) ∙ seek_none ps n (λ k x l h at. none (suc k) x (omega arith) (omega arith) at)

pub none_numbered : (ps : Places) (n : ℕ) → seek ps n ≡ None → (k : ℕ) → Numbered (get_or ps k None) n → ⊥
none_numbered [] n none k h = h
none_numbered (None ∷ ps) n none zero h = h
none_numbered (None ∷ ps) n none (suc k) h = none_numbered ps n none k h
none_numbered (Some x ∷ ps) n none zero h = (not_found x ps n none).0 h
none_numbered (Some x ∷ ps) n none (suc k) h = none_numbered ps n (not_found x ps n none).1 k h

-- an entry in its place is the one that its number finds
pub seek_at : (ps : Places) (i : ℕ) (e : Entry) → Apart ps → get_or ps i None ≡ Some e → seek ps e.number ≡ Some e
seek_at [] i e apart there = absurd (cc)
seek_at (None ∷ ps) zero e apart there = absurd (cc)
seek_at (None ∷ ps) (suc i) e apart there = seek_at ps i e apart there
seek_at (Some x ∷ ps) zero e apart there = grind arith
seek_at (Some x ∷ ps) (suc i) e apart there = let found = seek_at ps i e apart.1 there in let none = apart.0 in grind arith

-- and its number is at no other place
pub alone_at : (ps : Places) (i k n : ℕ) → Apart ps → Numbered (get_or ps i None) n → Numbered (get_or ps k None) n → k ≡ i
alone_at [] i k n apart here there = absurd here
alone_at (p ∷ ps) zero zero n apart here there = refl
alone_at (None ∷ ps) zero (suc k) n apart here there = absurd here
alone_at (Some x ∷ ps) zero (suc k) n apart here there = let none = none_numbered ps n in let alone = apart.0 in grind arith
alone_at (None ∷ ps) (suc i) zero n apart here there = absurd there
alone_at (Some x ∷ ps) (suc i) zero n apart here there = let none = none_numbered ps n in let alone = apart.0 in grind arith
alone_at (None ∷ ps) (suc i) (suc k) n apart here there = ap suc (alone_at ps i k n apart here there)
alone_at (Some x ∷ ps) (suc i) (suc k) n apart here there = ap suc (alone_at ps i k n apart.1 here there)

-- an entry that is found has a place
pub record Placed (ps : Places) (n : ℕ) (e : Entry) : Type 0 where
  pub place : ℕ
  pub inside : place < length ps
  pub there : get_or ps place None ≡ Some e
  pub number_is : e.number ≡ n

pub placed_on : (p : Option Entry) (ps : Places) (n : ℕ) (e : Entry) → Placed ps n e → Placed (p ∷ ps) n e
placed_on p ps n e at =
    record { place = suc at.place; inside = omega (arith, at.inside); there = at.there; number_is = at.number_is }

pub at_seek : (ps : Places) (n : ℕ) (e : Entry) → seek ps n ≡ Some e → Placed ps n e
at_seek [] n e found = absurd (cc)
at_seek (None ∷ ps) n e found = placed_on None ps n e (at_seek ps n e found)
at_seek (Some x ∷ ps) n e found =
    ⊎_elim
    (λ same. record { place = 0; inside = omega arith; there = grind arith; number_is = grind arith })
    (λ other. placed_on (Some x) ps n e (at_seek ps n e (grind arith)))
    (cases_eq x.number n)

-- the lowest free place, as the library finds it
pub lowest_is : (ps : Places) → position (λ (o : Option Entry). is_none o) ps ≡ lowest_free ps
lowest_is [] = refl
lowest_is (None ∷ ps) = grind arith
lowest_is (Some x ∷ ps) = let rest = lowest_is ps in grind arith

-- only a place of the row can say what a free place does not
pub in_row : (ps : Places) (P : Option Entry → Type 0) → (P None → ⊥) → (k : ℕ) → P (get_or ps k None) → k < length ps
in_row ps P free k h = ⊎_elim (λ l. l) (λ l. absurd (free (subst P (get_or_past ps k None l) h))) (cases_lt k (length ps))

-- in a row of free places nothing is found, and no number stands twice
pub seek_nothing : (m n : ℕ) → seek (replicate m None) n ≡ None
seek_nothing zero n = refl
seek_nothing (suc m) n = seek_nothing m n

pub apart_nothing : (m : ℕ) → Apart (replicate m None)
apart_nothing zero = tt
apart_nothing (suc m) = apart_nothing m

-- what a pass finds that looks for a number is what is sought, and nothing else has its number
pub sought : (ps : Places) (n : ℕ) (o : Option Held) → length ps ≡ 512 → ∥ Apart ps ∥₁ → Finds (Gives (numbered n)) ps 0 512 o → MatchOption o (seek ps n ≡ None) (λ held. Found ps n held.place held.entry)
sought ps n None full once found = seek_none ps n (λ k e l h at. found.first k e l (omega arith) at)
sought ps n (Some held) full once found =
    let f = found.first in
    let is : held.entry.number ≡ n = eqb-true held.entry.number n f.passes in
    let here = subst (λ (q : Option Entry). Numbered q n) (sym f.there) is in
    record {
      inside = f.high;
      there = f.there;
      number_is = is;
      sought = seek_first ps held.place n held.entry f.before f.there f.passes;
      alone = λ k there. ∥∥₁_elim once (≡_prop coded_ℕ k held.place) (λ apart. alone_at ps held.place k n apart here there);
    }
