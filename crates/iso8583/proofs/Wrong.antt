-- The first wrong one of some characters.
use Rattle.std.proofs.Common.{◌≡◌, ℕ, zero, suc, ◌+◌, ◌≤◌, Bool, true, false, cond, not, List, [], ◌∷◌, ◌++◌, length, take, Some, None, Option, refl, ap, ◌∙◌, arith}
use Rattle.std.proofs.lemmas.Bool.{cond-true}
use Rattle.std.specs.List.{position_from}
use Rattle.std.specs.Option.{option_map}
use Rattle.iso8583.specs.Reading.{wrong}

pub passed : {x : Option ℕ} (b : Bool) (i : ℕ) → cond b x (Some i) ≡ None → (b ≡ true) × (x ≡ None)
passed true i h = (refl, h)
passed false i h = absurd (let z : ◌≡◌ {A = ℕ} 0 1 = cc in omega arith)

-- characters that pass do so at any place, and with others behind them
pub wrong-append : (good : ℕ → Bool) (n i j : ℕ) (cs rest : List ℕ) → n ≤ length cs → wrong good n i cs ≡ None → wrong good n j (cs ++ rest) ≡ None
wrong-append good zero i j cs rest l w = refl
wrong-append good (suc n) i j [] rest l w = absurd (omega arith)
wrong-append good (suc n) i j (c ∷ cs) rest l w =
    let p = passed (good c) i w in
    cond-true _ _ _ p.0 ∙ wrong-append good n (i + 1) (j + 1) cs rest (omega arith) p.1

pub wrong-take : (good : ℕ → Bool) (n i j : ℕ) (cs : List ℕ) → wrong good n i cs ≡ None → wrong good n j (take n cs) ≡ None
wrong-take good zero i j cs w = refl
wrong-take good (suc n) i j [] w = absurd (let z : ◌≡◌ {A = ℕ} 0 1 = cc in omega arith)
wrong-take good (suc n) i j (c ∷ cs) w =
    let p = passed (good c) i w in
    cond-true _ _ _ p.0 ∙ wrong-take good n (i + 1) (j + 1) cs p.1

pub wrong_long : (good : ℕ → Bool) (n i : ℕ) (cs : List ℕ) → wrong good n i cs ≡ None → n ≤ length cs
wrong_long good zero i cs w = omega arith
wrong_long good (suc n) i [] w = absurd (let z : ◌≡◌ {A = ℕ} 0 1 = cc in omega arith)
wrong_long good (suc n) i (c ∷ cs) w = let r = wrong_long good n (i + 1) cs (passed (good c) i w).1 in omega arith

-- only the first n characters count
pub wrong_taken : (good : ℕ → Bool) (n i : ℕ) (cs : List ℕ) → n ≤ length cs → wrong good (length (take n cs)) i (take n cs) ≡ wrong good n i cs
wrong_taken good zero i cs l = refl
wrong_taken good (suc n) i [] l = absurd (omega arith)
wrong_taken good (suc n) i (c ∷ cs) l = ap (λ o. cond (good c) o (Some i)) (wrong_taken good n (i + 1) cs (omega arith))

-- the first wrong character, by its place among them
wrong_from : (good : ℕ → Bool) (at i : ℕ) (cs : List ℕ) → option_map (λ k. at + k) (position_from (λ c. not (good c)) i cs) ≡ wrong good (length cs) (at + i) cs
wrong_from good at i [] = refl
wrong_from good at i (c ∷ cs) =
    let e : at + (i + 1) ≡ at + i + 1 = omega arith in
    elim (good c) as (λ b. option_map (λ k. at + k) (cond (not b) (Some i) (position_from (λ x. not (good x)) (i + 1) cs)) ≡ cond b (wrong good (length cs) (at + i + 1) cs) (Some (at + i))) [
      | true ↦ wrong_from good at (i + 1) cs ∙ ap (λ m. wrong good (length cs) m cs) e
      | false ↦ refl
    ]

pub wrong_by_position : (good : ℕ → Bool) (at : ℕ) (cs : List ℕ) (o : Option ℕ) → o ≡ position_from (λ c. not (good c)) 0 cs → option_map (λ k. at + k) o ≡ wrong good (length cs) at cs
wrong_by_position good at cs o h =
    let e : at + 0 ≡ at = omega arith in
    ap (λ x. option_map (λ k. at + k) x) h ∙ wrong_from good at 0 cs ∙ ap (λ m. wrong good (length cs) m cs) e
