-- The places of the journal, and what is read from them.
use Rattle.std.specs.Prelude.{◌≡◌, ℕ, suc, ◌+◌, ◌%◌, ◌<◌, min, Bool, true, false, cond, T, ◌⊎◌, List, [], ◌∷◌, get_or, Some, None, Option, ◌==◌, slice_index_or}
use Rattle.journal.specs.declared.entry.Entry.{Entry}
use Rattle.journal.specs.Entries as entries
use Rattle.journal.specs.Numbers.{moment}

-- a place holds an entry or is free
abbrev pub Places : Type 0
Places = List (Option Entry)

-- the first entry of a number
abbrev pub seek : Places → ℕ → Option Entry
seek [] n = None
seek (None ∷ ps) n = seek ps n
seek (Some e ∷ ps) n = cond (e.number == n) (Some e) (seek ps n)

-- no number at two places
abbrev pub Apart : Places → Type 0
Apart [] = Unit {0}
Apart (None ∷ ps) = Apart ps
Apart (Some e ∷ ps) = (seek ps e.number ≡ None) × Apart ps

-- a place's index, seen from one place before
abbrev pub one_on : Option ℕ → Option ℕ
one_on None = None
one_on (Some i) = Some (suc i)

abbrev pub lowest_free : Places → Option ℕ
lowest_free [] = None
lowest_free (None ∷ ps) = Some 0
lowest_free (Some e ∷ ps) = one_on (lowest_free ps)

-- the place holds an entry of this number
abbrev pub Numbered : Option Entry → ℕ → Type 0
Numbered None n = ⊥
Numbered (Some e) n = e.number ≡ n

-- the place holds an entry that is waiting or owed
abbrev pub is_open : Option Entry → Bool
is_open None = false
is_open (Some e) = entries.unsettled e.state

abbrev pub Unsettled : Option Entry → Type 0
Unsettled p = T (is_open p)

-- an entry and its place, found by its number, which no other place has
pub record Found (ps : Places) (number place : ℕ) (e : Entry) : Type 0 where
  pub inside : place < 512
  pub there : get_or ps place None ≡ Some e
  pub number_is : e.number ≡ number
  pub sought : seek ps number ≡ Some e
  pub alone : (k : ℕ) → Numbered (slice_index_or ps k None) number → k ≡ place

-- the first unsettled place from the mark on and round: at some distance from it, and none is nearer
pub record First (ps : Places) (mark place : ℕ) : Type 0 where
  pub distance : ℕ
  pub near : distance < 512
  pub round : place ≡ (mark + distance) % 512
  pub here : Unsettled (slice_index_or ps place None)
  pub before : (d : ℕ) → d < distance → Unsettled (slice_index_or ps ((mark + d) % 512) None) → ⊥

-- that place with its entry
pub record Next (ps : Places) (mark place : ℕ) (e : Entry) : Type 0 where
  pub inside : place < 512
  pub there : get_or ps place None ≡ Some e
  pub open_still : T (entries.unsettled e.state)
  pub first : First ps mark place

-- the entry may be written at this place: its number is nowhere, or here
abbrev pub MayHold : Places → ℕ → ℕ → Type 0
MayHold ps place number = (seek ps number ≡ None) ⊎ Numbered (slice_index_or ps place None) number

-- the lesser of two numbers that may be missing
abbrev pub lesser : Option ℕ → Option ℕ → Option ℕ
lesser None o = o
lesser (Some m) None = Some m
lesser (Some m) (Some n) = Some (min m n)

abbrev pub only_if : Bool → ℕ → Option ℕ
only_if true m = Some m
only_if false m = None

-- the moment of an unsettled entry
abbrev pub open_moment : Option Entry → Option ℕ
open_moment None = None
open_moment (Some e) = only_if (entries.unsettled e.state) (moment e.number)

-- the least moment among waiting and owed
abbrev pub least_unsettled : Places → Option ℕ
least_unsettled [] = None
least_unsettled (p ∷ ps) = lesser (open_moment p) (least_unsettled ps)

-- a sum over the places
abbrev pub tally : (Option Entry → ℕ) → Places → ℕ
tally weight [] = 0
tally weight (p ∷ ps) = weight p + tally weight ps

abbrev pub one_if : Bool → ℕ
one_if true = 1
one_if false = 0

abbrev pub as_unsettled : Option Entry → ℕ
as_unsettled p = one_if (is_open p)

abbrev pub as_taken : Option Entry → ℕ
as_taken None = 0
as_taken (Some e) = 1

abbrev pub as_undone : Option Entry → ℕ
as_undone None = 0
as_undone (Some e) = one_if (entries.undone e.state)

-- how many entries are waiting or owed
abbrev pub unsettled_count : Places → ℕ
unsettled_count ps = tally as_unsettled ps

-- how many places hold an entry
abbrev pub taken : Places → ℕ
taken ps = tally as_taken ps

-- how many entries are owed or reversed
abbrev pub undone : Places → ℕ
undone ps = tally as_undone ps
