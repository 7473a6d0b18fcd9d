use Rattle.std.proofs.Common.{◌≡◌, ℕ, zero, suc, ◌+◌, ◌<◌, ◌≤◌, List, get_or, ℤ, pos, ap, sym, refl, ◌∙◌, arith, rules, ⊎_elim}
use Rattle.std.proofs.lemmas.Bool.{cases_eq}
use Rattle.std.specs.Array.{IsFromFnResultFrom}
use denote.Param.Members.{Mut, Called}
use Rattle.sums.specs.Days.{sums_of}
use Rattle.sums.specs.Nets.{position}
use Rattle.sums.proofs.Nets.{positions_balanced}
use Rattle.sums.proofs.day.Day.positions.Goals as goal

-- an array that was made of a closure's answers, at any place, where its calls keep something
filled : {F : Type 0} (g : Mut F (ℕ × Unit {0}) ℤ) (Kept : F → Type 0) (v : ℕ → ℤ)
    → ((p q : F) (i : ℕ) (y : ℤ) → Kept p → Called g p (i, tt) y q → Kept q × (y ≡ v i))
    → (f : F) (ys : List ℤ) (i n : ℕ) → Kept f → IsFromFnResultFrom g f ys i n → (k : ℕ) → i ≤ k → k < i + n → get_or ys k (pos 0) ≡ v k
filled g Kept v step f ys i zero kept turns k h l = absurd (omega arith)
filled g Kept v step f ys i (suc n) kept turns k h l =
    let now = step f turns.0 i turns.1 kept turns.3 in
    ⊎_elim
    (λ e. ap (λ j. get_or ys j (pos 0)) e ∙ turns.2.1 (pos 0) ∙ now.1 ∙ ap v (sym e))
    (λ d. filled g Kept v step turns.0 ys (i + 1) n now.0 turns.4 k (omega arith) (omega arith))
    (cases_eq k i)

pub returns : goal.returns
returns c =
    let s = sums_of c.args.self.now in
    let ys = c.from_fn.result in
    let each : (k : ℕ) → k < 16 → get_or ys k (pos 0) ≡ position s k = λ k l. filled _ (λ p. p.0.now ≡ c.args.self.now) (position s) (λ p q i y same called. search rules) _ ys 0 16 refl c.from_fn.ensures.items.each k (omega arith) (omega arith) in
    record { each = each; balanced = positions_balanced s ys c.from_fn.ensures.items.long each }
