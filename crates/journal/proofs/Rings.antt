-- The first unsettled place from the mark on and round, found in one pass from it on and one before it.
use Rattle.std.proofs.Common.{◌≡◌, ℕ, ◌+◌, ◌-◌, ◌%◌, ◌<◌, ◌≤◌, Bool, true, false, T, length, get_or, Some, None, Option, MatchOption, sym, refl, subst, ⊎_elim, arith}
use Rattle.std.proofs.lemmas.Bool.{cases_lt}
use Rattle.journal.specs.Entries as entries
use Rattle.journal.specs.declared.entry.Entry.{Entry}
use Rattle.journal.specs.declared.entry.Held.{Held}
use Rattle.journal.specs.Passes.{NonePasses, FirstPassing, Finds}
use Rattle.journal.specs.Places.{Places, Unsettled, First, Next}
use Rattle.journal.proofs.Seeks.{Gives, in_row}

-- the test that the pass makes
abbrev pub still : Entry → Bool
still e = entries.unsettled e.state

shut : (p : Option Entry) → ((e : Entry) → p ≡ Some e → still e ≡ false) → Unsettled p → ⊥
shut None closed u = u
shut (Some e) closed u = subst T (closed e refl) u

stays_open : {p : Option Entry} {e : Entry} → p ≡ Some e → still e ≡ true → Unsettled p
stays_open there passes = subst Unsettled (sym there) (subst T (sym passes) tt)

module _ (ps : Places) (mark : ℕ) (hm : mark < 512) where
  pub from_mark : (i : ℕ) → i < 512 → mark ≤ i → Unsettled (get_or ps i None) → ((k : ℕ) → k < i → mark ≤ k → Unsettled (get_or ps k None) → ⊥) → First ps mark i
  from_mark i hi le here none =
      record {
        distance = i - mark;
        near = omega arith;
        round = omega arith;
        here = here;
        before = λ d lt o.
            let e : (mark + d) % 512 ≡ mark + d = omega arith in
            none (mark + d) (omega arith) (omega arith) (subst (λ (n : ℕ). Unsettled (get_or ps n None)) e o);
      }

  pub round_from_0 : (i : ℕ) → i < mark → Unsettled (get_or ps i None) → ((k : ℕ) → k < 512 → mark ≤ k → Unsettled (get_or ps k None) → ⊥) → ((k : ℕ) → k < i → Unsettled (get_or ps k None) → ⊥) → First ps mark i
  round_from_0 i lt here behind none =
      record {
        distance = i + 512 - mark;
        near = omega arith;
        round = omega arith;
        here = here;
        before = λ d less o.
            ⊎_elim
            (λ q.
            let e : (mark + d) % 512 ≡ mark + d = omega arith in
            behind (mark + d) q (omega arith) (subst (λ (n : ℕ). Unsettled (get_or ps n None)) e o))
            (λ q.
            let e : (mark + d) % 512 ≡ mark + d - 512 = omega arith in
            none (mark + d - 512) (omega arith) (subst (λ (n : ℕ). Unsettled (get_or ps n None)) e o))
            (cases_lt (mark + d) 512);
      }

  -- what a pass finds that looks for the unsettled, from the mark on or else before it, is the next one
  pub ahead : (held : Held) → FirstPassing (Gives still) ps mark 512 held → Next ps mark held.place held.entry
  ahead held f =
      record {
        inside = f.high;
        there = f.there;
        open_still = subst T (sym f.passes) tt;
        first = from_mark held.place f.high f.low (stays_open f.there f.passes) (λ k l h. shut _ (λ e. f.before k e h l));
      }

  pub round : (o : Option Held) → NonePasses (Gives still) ps mark 512 → length ps ≡ 512 → Finds (Gives still) ps 0 mark o
      → MatchOption o ((i : ℕ) → Unsettled (get_or ps i None) → ⊥) (λ held. Next ps mark held.place held.entry)
  round None behind full found = λ i u.
      let inside = in_row ps Unsettled (λ x. x) i u in
      ⊎_elim (λ l. shut _ (λ e. found.first i e (omega arith) l) u) (λ l. shut _ (λ e. behind i e l (omega arith)) u) (cases_lt i mark)
  round (Some held) behind full found =
      let f = found.first in
      record {
        inside = omega (arith, f.high);
        there = f.there;
        open_still = subst T (sym f.passes) tt;
        first = round_from_0 held.place f.high (stays_open f.there f.passes) (λ k l h. shut _ (λ e. behind k e h l)) (λ k l. shut _ (λ e. f.before k e (omega arith) l));
      }
