-- What a change at one place of a table does to its lines.
use Rattle.std.proofs.Common.{◌≡◌, ℕ, zero, suc, ◌+◌, ◌<◌, Bool, true, false, cond, not, ltb, List, [], ◌∷◌, length, get_or, set, replicate, Some, None, Option, is_some, sym, refl, ap, ◌∙◌, ⊎_elim, arith, length-set}
use Rattle.std.specs.List.{position, position_or_len}
use Rattle.std.specs.Option.{IsSome, option_or}
use Rattle.std.proofs.lemmas.Bool.Decides.{nat_tests}
use Rattle.std.proofs.lemmas.List.{get_or-set_same, get_or-set_other}
use Rattle.std.proofs.lemmas.List.Quantifiers.{position-Some}
use Rattle.std.proofs.lemmas.List.Sums.{prefix_len_passes}
use Rattle.std.proofs.lemmas.Bool.{cond-true, cond-false, cases_Bool, and_parts, not-true, ltb-false, both_ways}
use Rattle.host.specs.declared.line.Key.{Key}
use Rattle.host.specs.declared.line.Line.{Line}
use Rattle.host.specs.declared.line.Line.TheVariants.{Absent, Posted, Adrift, Leaving, Closed}
use Rattle.host.specs.declared.ask.ReverseAnswer.TheVariants.{Done}
use Rattle.lines.specs.declared.table.Row.{Row}
use Rattle.lines.specs.Answers.{reverse_answer, present, room_for, places_left}
use Rattle.lines.specs.Rows.{taken_by, line_at, shown, one_free, free, place_of, lowest_free, alone, distinct, Others, Leaves}

-- an empty table
pub empty_shown : (n issuer number : ℕ) → shown (replicate n None) issuer number ≡ Absent
empty_shown zero issuer number = refl
empty_shown (suc n) issuer number = empty_shown n issuer number

pub empty_distinct : (n : ℕ) → distinct (replicate n None) ≡ true
empty_distinct zero = refl
empty_distinct (suc n) = empty_distinct n

pub empty_free : (n : ℕ) → free (replicate n None) ≡ n
empty_free zero = refl
empty_free (suc n) = let e = empty_free n in omega arith

-- a place that is free, or has the key
abbrev pub Ours : Option Row → Key → Type 0
Ours None key = Unit {0}
Ours (Some r) key = taken_by (Some r) key.issuer key.number ≡ true

own : (key : Key) (l : Line) → taken_by (Some (record { key = key; line = l })) key.issuer key.number ≡ true
own key l = grind (arith, nat_tests)

taken_ours : (p : Option Row) (key : Key) → taken_by p key.issuer key.number ≡ true → Ours p key
taken_ours None key t = tt
taken_ours (Some r) key t = t

-- such a place has no other key
other_keys : (p : Option Row) (key : Key) (i k : ℕ) → Ours p key → ((i ≡ key.issuer) × (k ≡ key.number) → ⊥) → taken_by p i k ≡ false
other_keys None key i k o n = refl
other_keys (Some r) key i k o n = grind (arith, nat_tests)

-- no place has the key
none_absent : (ps : List (Option Row)) (key : Key) → ((k : ℕ) → k < length ps → taken_by (get_or ps k None) key.issuer key.number ≡ false) → shown ps key.issuer key.number ≡ Absent
none_absent [] key h = refl
none_absent (p ∷ ps) key h = cond-false _ _ _ (h 0 (omega arith)) ∙ none_absent ps key (λ k l. h (suc k) (omega arith))

-- a place that has a key shows a line
absent_none : (ps : List (Option Row)) (key : Key) (k : ℕ) → distinct ps ≡ true → shown ps key.issuer key.number ≡ Absent → taken_by (get_or ps k None) key.issuer key.number ≡ false
absent_none [] key k d e = refl
absent_none (None ∷ ps) key zero d e = refl
absent_none (None ∷ ps) key (suc k) d e = absent_none ps key k d e
absent_none (Some r ∷ ps) key zero d e = grind arith
absent_none (Some r ∷ ps) key (suc k) d e = grind (arith, absent_none ps key k)

no_key : (p : Option Row) (ps : List (Option Row)) (key : Key) → alone p ps ≡ true → taken_by p key.issuer key.number ≡ true → shown ps key.issuer key.number ≡ Absent
no_key None ps key o t = absurd (both_ways false refl t)
no_key (Some r) ps key o t = grind (arith, nat_tests)

-- no other place has the key
abbrev pub Sole : List (Option Row) → ℕ → Key → Type 0
Sole ps i key = (k : ℕ) → k < length ps → (k ≡ i → ⊥) → taken_by (get_or ps k None) key.issuer key.number ≡ false

sole_tail : (p : Option Row) (ps : List (Option Row)) (i : ℕ) (key : Key) → Sole (p ∷ ps) (suc i) key → Sole ps i key
sole_tail p ps i key s k l n = s (suc k) (omega arith) (λ e. n (omega arith))

pub sole_taken : (ps : List (Option Row)) (i : ℕ) (key : Key) → distinct ps ≡ true → i < length ps → taken_by (get_or ps i None) key.issuer key.number ≡ true → Sole ps i key
sole_taken [] i key o h t k l n = refl
sole_taken (p ∷ ps) zero key o h t zero l n = absurd (n refl)
sole_taken (p ∷ ps) zero key o h t (suc k) l n = grind (arith, no_key p ps key, absent_none ps key k)
sole_taken (p ∷ ps) (suc i) key o h t zero l n = grind (arith, no_key p ps key, absent_none ps key i)
sole_taken (p ∷ ps) (suc i) key o h t (suc k) l n = grind (arith, sole_taken ps i key)

-- such a place tells the line of the key
pub shown_sole : (ps : List (Option Row)) (i : ℕ) (key : Key) → i < length ps → Ours (get_or ps i None) key → Sole ps i key → shown ps key.issuer key.number ≡ line_at (get_or ps i None) Absent
shown_sole [] i key h o s = absurd (omega arith)
shown_sole (None ∷ ps) zero key h o s = none_absent ps key (λ k l. s (suc k) (omega arith) (λ e. omega arith))
shown_sole (Some r ∷ ps) zero key h o s = cond-true _ _ _ o
shown_sole (p ∷ ps) (suc i) key h o s = cond-false _ _ _ (s 0 (omega arith) (λ e. omega arith)) ∙ shown_sole ps i key (omega arith) o (sole_tail p ps i key s)

-- a change at a place: all other lines stay
others-set : (ps : List (Option Row)) (i : ℕ) (key : Key) (q : Option Row) → i < length ps → Ours (get_or ps i None) key → Ours q key → Others ps key (set ps i q)
others-set [] i key q h o w j k n = refl
others-set (p ∷ ps) zero key q h o w j k n = rw (other_keys q key j k w n, other_keys p key j k o n) refl
others-set (p ∷ ps) (suc i) key q h o w j k n = rw (others-set ps i key q (omega arith) o w j k n) refl

sole-set : (ps : List (Option Row)) (i : ℕ) (key : Key) (q : Option Row) → Sole ps i key → Sole (set ps i q) i key
sole-set ps i key q s k l n = rw (get_or-set_other ps i k q None n) (s k (omega (arith, length-set ps i q)) n)

-- what a place holds where it has a line for the key, or none
abbrev pub Holding : Option Row → Key → Line → Type 0
Holding None key l = l ≡ Absent
Holding (Some r) key l = (r ≡ record { key = key; line = l }) × (present l ≡ true)

holding_ours : (q : Option Row) (key : Key) (l : Line) → Holding q key l → Ours q key
holding_ours None key l w = tt
holding_ours (Some r) key l w = rw w.0 (own key l)

holding_line : (q : Option Row) (key : Key) (l : Line) → Holding q key l → line_at q Absent ≡ l
holding_line None key l w = sym w
holding_line (Some r) key l w = rw w.0 refl

-- each place stays alone with its key
alone_holding : (q : Option Row) (key : Key) (l : Line) (ps : List (Option Row)) → Holding q key l → shown ps key.issuer key.number ≡ Absent → alone q ps ≡ true
alone_holding None key l ps w e = refl
alone_holding (Some r) key l ps w e = rw (w.0, w.1, e) refl

alone_stays : (p : Option Row) (ps qs : List (Option Row)) (key : Key) → alone p ps ≡ true → taken_by p key.issuer key.number ≡ false → Others ps key qs → alone p qs ≡ true
alone_stays None ps qs key o t e = refl
alone_stays (Some r) ps qs key o t e = rw (e r.key.issuer r.key.number (λ s. both_ways _ t (grind (arith, nat_tests)))) o

pub distinct-set : (ps : List (Option Row)) (i : ℕ) (key : Key) (l : Line) (q : Option Row) → distinct ps ≡ true → i < length ps → Ours (get_or ps i None) key → Sole ps i key → Holding q key l → distinct (set ps i q) ≡ true
distinct-set [] i key l q o h u s w = refl
distinct-set (p ∷ ps) zero key l q o h u s w =
    let a = alone_holding q key l ps w (none_absent ps key (λ k m. s (suc k) (omega arith) (λ e. omega arith))) in
    grind arith
distinct-set (p ∷ ps) (suc i) key l q o h u s w =
    let parts = and_parts (alone p ps) (distinct ps) o in
    let a = alone_stays p ps (set ps i q) key parts.0 (s 0 (omega arith) (λ e. omega arith)) (others-set ps i key q (omega arith) u (holding_ours q key l w)) in
    let b = distinct-set ps i key l q parts.1 (omega arith) u (sole_tail p ps i key s) w in
    grind arith

-- how many places are then free
free-set : (ps : List (Option Row)) (i : ℕ) (q : Option Row) → i < length ps → free (set ps i q) + one_free (get_or ps i None) ≡ free ps + one_free q
free-set [] i q h = absurd (omega arith)
free-set (p ∷ ps) zero q h = omega arith
free-set (p ∷ ps) (suc i) q h = let r = free-set ps i q (omega arith) in omega arith

present_at : (ps : List (Option Row)) (i : ℕ) → distinct ps ≡ true → i < length ps → one_free (get_or ps i None) ≡ cond (present (line_at (get_or ps i None) Absent)) 0 1
present_at [] i o h = absurd (omega arith)
present_at (None ∷ ps) zero o h = refl
present_at (Some r ∷ ps) zero o h = grind arith
present_at (p ∷ ps) (suc i) o h = grind (arith, present_at ps i)

holding_free : (q : Option Row) (key : Key) (l : Line) → Holding q key l → one_free q ≡ cond (present l) 0 1
holding_free None key l w = rw w refl
holding_free (Some r) key l w = rw w.1 refl

-- the place of the key, or a free one, comes to hold this line
pub leaves-set : (ps : List (Option Row)) (i : ℕ) (key : Key) (l : Line) (q : Option Row) → distinct ps ≡ true → i < length ps → Ours (get_or ps i None) key → Sole ps i key → Holding q key l → Leaves ps key l (set ps i q)
leaves-set ps i key l q o h u s w =
    let at = get_or-set_same ps i q None h in
    let ours = holding_ours q key l w in
    record {
      here = shown_sole (set ps i q) i key (omega (arith, length-set ps i q)) (rw at ours) (sole-set ps i key q s) ∙ rw at (holding_line q key l w);
      others = others-set ps i key q h u ours;
      left = rw (shown_sole ps i key h u s) (grind (arith, nat_tests, free-set ps i q h, present_at ps i o h, holding_free q key l w));
    }

-- what a search for a place that passes a test tells
none_at : {X : Type 0} (p : X → Bool) (xs : List X) → position p xs ≡ None → (k : ℕ) (d : X) → k < length xs → p (get_or xs k d) ≡ false
none_at p xs e k d l =
    ⊎_elim
    (λ t. absurd (let h = sym (cond-true _ _ _ t) ∙ e in cc))
    (λ f. not-true _ (prefix_len_passes (λ x. not (p x)) xs k d (let m = ltb-false _ _ f in omega arith)))
    (cases_Bool (ltb (position_or_len p xs) (length xs)))

pub not_there : (ps : List (Option Row)) (key : Key) → place_of ps key ≡ None → shown ps key.issuer key.number ≡ Absent
not_there ps key e = none_absent ps key (λ k l. none_at _ ps e k None l)

-- nothing changes where a line stays as it is
places_stay : (l : Line) (n : ℕ) → places_left l l n ≡ n
places_stay Absent n = refl
places_stay (Posted d) n = refl
places_stay (Adrift d) n = refl
places_stay (Leaving d) n = refl
places_stay Closed n = refl

pub leaves_same : (ps : List (Option Row)) (key : Key) (l : Line) → shown ps key.issuer key.number ≡ l → Leaves ps key l ps
leaves_same ps key l e = record { here = e; others = λ i m o. refl; left = rw e (sym (places_stay l (free ps))) }

-- nor where no place has the key, and none is to have it
pub leaves_none : (ps : List (Option Row)) (key : Key) → place_of ps key ≡ None → Leaves ps key Absent ps
leaves_none ps key n = leaves_same ps key Absent (not_there ps key n)

-- the place that a key has is the only one
pub found : (ps : List (Option Row)) (i : ℕ) (key : Key) → distinct ps ≡ true → place_of ps key ≡ Some i → (i < length ps) × Ours (get_or ps i None) key × Sole ps i key
found ps i key o e =
    let at = position-Some _ ps i None e in
    (at.0, taken_ours _ key at.1, sole_taken ps i key o at.0 at.1)

-- free places
all_taken : (ps : List (Option Row)) → ((k : ℕ) → k < length ps → not (is_some (get_or ps k None)) ≡ false) → free ps ≡ 0
all_taken [] h = refl
all_taken (None ∷ ps) h = absurd (both_ways true (h 0 (omega arith)) refl)
all_taken (Some r ∷ ps) h = let e = all_taken ps (λ k l. h (suc k) (omega arith)) in omega arith

free_one : (p : Option Row) → not (is_some p) ≡ true → p ≡ None
free_one None h = refl
free_one (Some r) h = absurd (both_ways false refl h)

some_free : (ps : List (Option Row)) (i : ℕ) → i < length ps → get_or ps i None ≡ None → 0 < free ps
some_free [] i h e = absurd (omega arith)
some_free (p ∷ ps) zero h e = omega (arith, ap one_free e)
some_free (p ∷ ps) (suc i) h e = let r = some_free ps i (omega arith) e in omega arith

free_is : (ps : List (Option Row)) (o : Option ℕ) → lowest_free ps ≡ o → is_some o ≡ ltb 0 (free ps)
free_is ps None e = let z = all_taken ps (λ k l. none_at _ ps e k None l) in grind (arith, nat_tests)
free_is ps (Some i) e = let at = position-Some _ ps i None e in let z = some_free ps i at.0 (free_one _ at.1) in grind (arith, nat_tests)

pub free_known : (ps : List (Option Row)) → is_some (lowest_free ps) ≡ ltb 0 (free ps)
free_known ps = free_is ps (lowest_free ps) refl

-- the place that the key has, or else a free one
place_found : (ps : List (Option Row)) (i : ℕ) (key : Key) (o p : Option ℕ) → place_of ps key ≡ o → lowest_free ps ≡ p → distinct ps ≡ true → option_or o p ≡ Some i → (i < length ps) × Ours (get_or ps i None) key × Sole ps i key
place_found ps i key (Some j) p e f d h = found ps i key d (e ∙ h)
place_found ps i key None p e f d h =
    let at = position-Some _ ps i None (f ∙ h) in
    (at.0, rw (free_one _ at.1) tt, λ k l n. none_at _ ps e k None l)

pub placed : (ps : List (Option Row)) (i : ℕ) (key : Key) → distinct ps ≡ true → option_or (place_of ps key) (lowest_free ps) ≡ Some i → (i < length ps) × Ours (get_or ps i None) key × Sole ps i key
placed ps i key d h = place_found ps i key (place_of ps key) (lowest_free ps) refl refl d h

place_is : (ps : List (Option Row)) (key : Key) (l : Line) (o : Option ℕ) → place_of ps key ≡ o → present l ≡ true → room_for (shown ps key.issuer key.number) l (free ps) ≡ true → IsSome (option_or o (lowest_free ps))
place_is ps key l (Some i) e w h = refl
place_is ps key l None e w h = free_known ps ∙ rw (not_there ps key e, w) at h

-- where there is room for a line, there is a place for it
pub has_place : (ps : List (Option Row)) (key : Key) (l : Line) → present l ≡ true → room_for (shown ps key.issuer key.number) l (free ps) ≡ true → IsSome (option_or (place_of ps key) (lowest_free ps))
has_place ps key l w h = place_is ps key l (place_of ps key) refl w h

-- where there is no place for a key, it has no line, and no place is free
unplaced_is : (ps : List (Option Row)) (key : Key) (o p : Option ℕ) → place_of ps key ≡ o → lowest_free ps ≡ p → option_or o p ≡ None → (shown ps key.issuer key.number ≡ Absent) × (free ps ≡ 0)
unplaced_is ps key (Some i) p e f h = absurd (cc)
unplaced_is ps key None p e f h = (not_there ps key e, all_taken ps (λ k l. none_at _ ps (f ∙ h) k None l))

pub unplaced : (ps : List (Option Row)) (key : Key) → option_or (place_of ps key) (lowest_free ps) ≡ None → (shown ps key.issuer key.number ≡ Absent) × (free ps ≡ 0)
unplaced ps key h = unplaced_is ps key (place_of ps key) (lowest_free ps) refl refl h

-- where there is one, the key has a line or a place is free, so that a reverse is done
done_if : (l : Line) (n : ℕ) → (present l ≡ false → 0 < n) → reverse_answer n l ≡ Done
done_if Absent n h = let w = h refl in grind (arith, nat_tests)
done_if (Posted d) n h = refl
done_if (Adrift d) n h = refl
done_if (Leaving d) n h = refl
done_if Closed n h = refl

pub done_placed : (ps : List (Option Row)) (i : ℕ) (key : Key) → distinct ps ≡ true → i < length ps → Ours (get_or ps i None) key → Sole ps i key → reverse_answer (free ps) (shown ps key.issuer key.number) ≡ Done
done_placed ps i key o h u s =
    let at = present_at ps i o h in
    let moved = free-set ps i (Some (record { key = key; line = Closed })) h in
    rw (shown_sole ps i key h u s) (done_if _ (free ps) (λ w. omega (arith, rw w at at)))

pub present_if : (l : Line) → (l ≡ Absent → ⊥) → present l ≡ true
present_if Absent n = absurd (n refl)
present_if (Posted d) n = refl
present_if (Adrift d) n = refl
present_if (Leaving d) n = refl
present_if Closed n = refl
