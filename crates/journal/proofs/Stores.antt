-- What a write at one place does to the whole row.
use Rattle.std.proofs.Common.{◌≡◌, ℕ, zero, suc, ◌<◌, [], ◌∷◌, length, get_or, set, Some, None, Option, sym, refl, ◌∙◌, ⊎_elim, arith}
use Rattle.journal.specs.declared.entry.Entry.{Entry}
use Rattle.journal.specs.Places.{Places, seek, Apart, lowest_free, Numbered, MayHold}
use Rattle.journal.proofs.Seeks.{seek_here, seek_past, not_found, seek_at}

-- e is stored: its number finds it, every other number finds what it found, and no number stands twice
pub record Stored (ps : Places) (e : Entry) (qs : Places) : Type 0 where
  pub here : seek qs e.number ≡ Some e
  pub others : (n : ℕ) → (e.number ≡ n → ⊥) → seek qs n ≡ seek ps n
  pub apart : Apart qs

-- one place more in front
past_free : {ps : Places} {e : Entry} {qs : Places} → Stored ps e qs → Stored (None ∷ ps) e (None ∷ qs)
past_free s = record { here = s.here; others = s.others; apart = s.apart }

past_taken : (x : Entry) {ps : Places} {e : Entry} {qs : Places} → (x.number ≡ e.number → ⊥) → seek ps x.number ≡ None → Stored ps e qs → Stored (Some x ∷ ps) e (Some x ∷ qs)
past_taken x {ps} {e} {qs} other alone s =
    record {
      here = seek_past x qs e.number other ∙ s.here;
      others = λ n ne. let behind = s.others n ne in grind arith;
      apart = (s.others x.number (λ same. other (sym same)) ∙ alone, s.apart);
    }

-- written at the first place, which other numbers did not find
in_front : (p : Option Entry) (ps : Places) (e : Entry) → seek ps e.number ≡ None → Apart ps → ((n : ℕ) → (e.number ≡ n → ⊥) → seek (p ∷ ps) n ≡ seek ps n) → Stored (p ∷ ps) e (Some e ∷ ps)
in_front p ps e alone apart same =
    record { here = seek_here e ps e.number refl; others = λ n other. seek_past e ps n other ∙ sym (same n other); apart = (alone, apart) }

-- a new number at a free place
pub stored_free : (ps : Places) (i : ℕ) (e : Entry) → i < length ps → get_or ps i None ≡ None → seek ps e.number ≡ None → Apart ps → Stored ps e (set ps i (Some e))
stored_free [] i e lt there none apart = absurd (omega arith)
stored_free (None ∷ ps) zero e lt there none apart = in_front None ps e none apart (λ n other. refl)
stored_free (Some x ∷ ps) zero e lt there none apart = absurd (cc)
stored_free (None ∷ ps) (suc i) e lt there none apart = past_free (stored_free ps i e (omega arith) there none apart)
stored_free (Some x ∷ ps) (suc i) e lt there none apart =
    let behind = not_found x ps e.number none in
    past_taken x behind.0 apart.0 (stored_free ps i e (omega arith) there behind.1 apart.1)

-- the lowest free place is one, and it is free
pub record IsFree (ps : Places) (i : ℕ) : Type 0 where
  pub inside : i < length ps
  pub there : get_or ps i None ≡ None

pub lowest_is_free : (ps : Places) (i : ℕ) → lowest_free ps ≡ Some i → IsFree ps i
lowest_is_free [] i is = absurd (cc)
lowest_is_free (None ∷ ps) i is = record { inside = grind arith; there = grind arith }
lowest_is_free (Some x ∷ ps) zero is = grind arith
lowest_is_free (Some x ∷ ps) (suc i) is =
    let f = lowest_is_free ps i (grind arith) in record { inside = omega (arith, f.inside); there = f.there }

pub stored_new : (ps : Places) (i : ℕ) (e : Entry) → lowest_free ps ≡ Some i → seek ps e.number ≡ None → Apart ps → Stored ps e (set ps i (Some e))
stored_new ps i e lowest none apart = let f = lowest_is_free ps i lowest in stored_free ps i e f.inside f.there none apart

-- an entry over one of the same number
pub stored_over : (ps : Places) (i : ℕ) (x e : Entry) → Apart ps → get_or ps i None ≡ Some x → x.number ≡ e.number → Stored ps e (set ps i (Some e))
stored_over [] i x e apart there same = absurd (cc)
stored_over (None ∷ ps) zero x e apart there same = absurd (cc)
stored_over (None ∷ ps) (suc i) x e apart there same = past_free (stored_over ps i x e apart there same)
stored_over (Some y ∷ ps) zero x e apart there same =
    let alone = apart.0 in in_front (Some y) ps e (grind arith) apart.1 (λ n other. grind arith)
stored_over (Some y ∷ ps) (suc i) x e apart there same =
    let found = seek_at ps i x apart.1 there in
    let alone = apart.0 in
    past_taken y (grind arith) apart.0 (stored_over ps i x e apart.1 there same)

-- a place that is cleared: no other number loses its entry, and none stands twice
pub seek_cleared : (ps : Places) (i n : ℕ) → seek ps n ≡ None → seek (set ps i None) n ≡ None
seek_cleared [] i n none = none
seek_cleared (None ∷ ps) zero n none = none
seek_cleared (Some x ∷ ps) zero n none = grind arith
seek_cleared (None ∷ ps) (suc i) n none = seek_cleared ps i n none
seek_cleared (Some x ∷ ps) (suc i) n none = let behind = seek_cleared ps i n in grind arith

pub apart_cleared : (ps : Places) (i : ℕ) → Apart ps → Apart (set ps i None)
apart_cleared [] i apart = tt
apart_cleared (None ∷ ps) zero apart = apart
apart_cleared (Some x ∷ ps) zero apart = apart.1
apart_cleared (None ∷ ps) (suc i) apart = apart_cleared ps i apart
apart_cleared (Some x ∷ ps) (suc i) apart = (seek_cleared ps i x.number apart.0, apart_cleared ps i apart.1)

pub cleared_others : (ps : Places) (i : ℕ) (e : Entry) → get_or ps i None ≡ Some e → (n : ℕ) → (e.number ≡ n → ⊥) → seek (set ps i None) n ≡ seek ps n
cleared_others [] i e there n other = refl
cleared_others (None ∷ ps) zero e there n other = refl
cleared_others (Some x ∷ ps) zero e there n other = grind arith
cleared_others (None ∷ ps) (suc i) e there n other = cleared_others ps i e there n other
cleared_others (Some x ∷ ps) (suc i) e there n other = let behind = cleared_others ps i e there n other in grind arith

pub cleared_here : (ps : Places) (i : ℕ) (e : Entry) → Apart ps → get_or ps i None ≡ Some e → seek (set ps i None) e.number ≡ None
cleared_here [] i e apart there = refl
cleared_here (None ∷ ps) zero e apart there = absurd (cc)
cleared_here (Some x ∷ ps) zero e apart there = let alone = apart.0 in grind arith
cleared_here (None ∷ ps) (suc i) e apart there = cleared_here ps i e apart there
cleared_here (Some x ∷ ps) (suc i) e apart there =
    let found = seek_at ps i e apart.1 there in
    let behind = cleared_here ps i e apart.1 there in
    let alone = apart.0 in grind arith

-- a number that is nowhere else may be written at any place
apart_fresh : (ps : Places) (i : ℕ) (e : Entry) → Apart ps → seek ps e.number ≡ None → Apart (set ps i (Some e))
apart_fresh [] i e apart none = tt
apart_fresh (None ∷ ps) zero e apart none = (none, apart)
apart_fresh (Some x ∷ ps) zero e apart none = ((not_found x ps e.number none).1, apart.1)
apart_fresh (None ∷ ps) (suc i) e apart none = apart_fresh ps i e apart none
apart_fresh (Some x ∷ ps) (suc i) e apart none =
    let behind = not_found x ps e.number none in
    (unfound ps i e x.number apart.0 (λ same. behind.0 (sym same)), apart_fresh ps i e apart.1 behind.1)
  where
    unfound : (ps : Places) (i : ℕ) (e : Entry) (n : ℕ) → seek ps n ≡ None → (e.number ≡ n → ⊥) → seek (set ps i (Some e)) n ≡ None
    unfound [] i e n none other = none
    unfound (None ∷ ps) zero e n none other = grind arith
    unfound (Some x ∷ ps) zero e n none other = grind arith
    unfound (None ∷ ps) (suc i) e n none other = unfound ps i e n none other
    unfound (Some x ∷ ps) (suc i) e n none other = let behind = unfound ps i e n in grind arith

numbered_entry : (p : Option Entry) (n : ℕ) → Numbered p n → (x : Entry) × (p ≡ Some x) × (x.number ≡ n)
numbered_entry None n h = absurd h
numbered_entry (Some x) n h = (x, refl, h)

pub apart_put : (ps : Places) (i : ℕ) (e : Entry) → MayHold ps i e.number → Apart ps → Apart (set ps i (Some e))
apart_put ps i e may apart =
    ⊎_elim
    (λ none. apart_fresh ps i e apart none)
    (λ own. let x = numbered_entry (get_or ps i None) e.number own in (stored_over ps i x.0 e apart x.1 x.2).apart)
    may
