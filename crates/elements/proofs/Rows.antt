-- The table's own rule, by one test that is computed over the whole table.
use Rattle.std.proofs.Common.{◌≡◌, ℕ, zero, suc, ◌+◌, ◌<◌, ◌≤◌, Bool, true, false, ◌&&◌, ◌||◌, eqb, ltb, leb, List, [], ◌∷◌, ◌++◌, length, get_or, take, sym, refl, ap, ◌∙◌, ⊎_elim, arith}
use mathlib.Core.Bool.{or-false, or_assoc}
use Rattle.std.proofs.lemmas.List.{take_more}
use Rattle.std.proofs.lemmas.Bool.{and_parts, or_cases, eqb-true, ltb-true, leb-true, both_ways}
use Rattle.elements.specs.declared.table.Length.{Length}
use Rattle.elements.specs.declared.table.Length.TheVariants.{Fixed, UpTo}
use Rattle.elements.specs.declared.table.Row.{Row}
use Rattle.elements.specs.Table.{table, known, admits}

-- two digits can write each length
abbrev pub short : Length → Bool
short (Fixed n) = leb n 99
short (UpTo n) = leb n 99

-- the elements rise, from above `low` up to 128
abbrev pub proper : ℕ → List Row → Bool
proper low [] = true
proper low (r ∷ rs) = ltb low r.element && (leb r.element 128 && (short r.length && proper r.element rs))

pub record Proper (low : ℕ) (r : Row) (rs : List Row) : Type 0 where
  pub above : low < r.element
  pub inside : r.element ≤ 128
  pub brief : short r.length ≡ true
  pub others : proper r.element rs ≡ true

pub proper_table : proper 1 table ≡ true
unfolding table
proper_table = refl

pub proper_first : (low : ℕ) (r : Row) (rs : List Row) → proper low (r ∷ rs) ≡ true → Proper low r rs
proper_first low r rs t =
    let a = and_parts _ _ t in
    let b = and_parts _ _ a.1 in
    let d = and_parts _ _ b.1 in
    record { above = ltb-true low r.element a.0; inside = leb-true r.element 128 b.0; brief = d.0; others = d.1 }

-- every row is in range
pub in_range : (low : ℕ) (rs : List Row) (i : ℕ) (d : Row) → proper low rs ≡ true → i < length rs → (low < (get_or rs i d).element) × ((get_or rs i d).element ≤ 128)
in_range low [] i d t h = absurd (omega arith)
in_range low (r ∷ rs) zero d t h = let p = proper_first low r rs t in (p.above, p.inside)
in_range low (r ∷ rs) (suc i) d t h =
    let p = proper_first low r rs t in
    let q = in_range r.element rs i d p.others (omega arith) in
    (omega (arith, p.above, q.0), q.1)

pub in_table : (i : ℕ) (d : Row) → i < length table → (1 < (get_or table i d).element) × ((get_or table i d).element ≤ 128)
in_table i d h = in_range 1 table i d proper_table h

-- every length can be written in two digits
short_at : (low : ℕ) (rs : List Row) (i : ℕ) (d : Row) → proper low rs ≡ true → i < length rs → short (get_or rs i d).length ≡ true
short_at low [] i d t h = absurd (omega arith)
short_at low (r ∷ rs) zero d t h = (proper_first low r rs t).brief
short_at low (r ∷ rs) (suc i) d t h = short_at r.element rs i d (proper_first low r rs t).others (omega arith)

pub short_in_table : (i : ℕ) (d : Row) → i < length table → short (get_or table i d).length ≡ true
short_in_table i d h = short_at 1 table i d proper_table h

pub admitted_short : (l : Length) (n : ℕ) → short l ≡ true → admits l n ≡ true → n ≤ 99
admitted_short (Fixed m) n s a = omega (arith, eqb-true n m a, leb-true m 99 s)
admitted_short (UpTo m) n s a = omega (arith, leb-true n m (and_parts (leb 1 n) (leb n m) a).1, leb-true m 99 s)

known-push : (rs : List Row) (r : Row) (k : ℕ) → known (rs ++ r ∷ []) k ≡ (known rs k || eqb r.element k)
known-push [] r k = or-false (eqb r.element k)
known-push (q ∷ rs) r k = ap (λ b. eqb q.element k || b) (known-push rs r k) ∙ sym (or_assoc (eqb q.element k) (known rs k) (eqb r.element k))

pub known_more : (rs : List Row) (i : ℕ) (d : Row) (k : ℕ) → i < length rs → known (take (i + 1) rs) k ≡ (known (take i rs) k || eqb (get_or rs i d).element k)
known_more rs i d k h = ap (λ l. known l k) (take_more rs i d h) ∙ known-push (take i rs) (get_or rs i d) k

-- what the table knows is in range
pub known_range : (rows : List Row) (low k : ℕ) → proper low rows ≡ true → known rows k ≡ true → (low < k) × (k ≤ 128)
known_range [] low k p h = absurd (both_ways false refl h)
known_range (row ∷ rows) low k p h =
    let q = proper_first low row rows p in
    ⊎_elim
    (λ t. let e = eqb-true row.element k t in (omega (arith, q.above), omega (arith, q.inside)))
    (λ t. let r = known_range rows row.element k q.others t in (omega (arith, q.above, r.0), r.1))
    (or_cases (eqb row.element k) (known rows k) h)

-- the same of a list that is known to be the table, as the code reads it
pub row_range : (rows : List Row) (i : ℕ) (d : Row) → rows ≡ table → i < length rows → (1 ≤ (get_or rows i d).element) × ((get_or rows i d).element ≤ 128)
row_range rows i d same h =
    let range = in_table i d (omega (arith, ap length same)) in
    let here = ap (λ rs. (get_or rs i d).element) same in
    (omega (arith, here, range.0), omega (arith, here, range.1))
