-- The first number that passes a test.
use Rattle.std.proofs.Common.{◌≡◌, ℕ, zero, suc, ◌+◌, ◌<◌, ◌≤◌, Bool, true, false, cond, Some, None, sym, refl, ap, ◌∙◌, ⊎_elim, arith}
use Rattle.std.proofs.lemmas.Bool.{cond-true, cond-false, cases_eq, cases_Bool}
use Rattle.iso8583.specs.Bitmap.{first}

module _ (test : ℕ → Bool) where
  pub first_finds : (i n k : ℕ) → i ≤ k → k < i + n → ((j : ℕ) → i ≤ j → j < k → test j ≡ false) → test k ≡ true → first test i n ≡ Some k
  first_finds i zero k l h none here = absurd (omega arith)
  first_finds i (suc n) k l h none here =
      ⊎_elim
      (λ e. cond-true _ _ _ (ap test e ∙ here) ∙ ap (λ m. Some m) e)
      (λ e. cond-false _ _ _ (none i (omega arith) (omega arith)) ∙ first_finds (i + 1) n k (omega arith) (omega arith) (λ j a b. none j (omega arith) b) here)
      (cases_eq i k)

  pub first_fails : (i n : ℕ) → ((j : ℕ) → i ≤ j → j < i + n → test j ≡ false) → first test i n ≡ None
  first_fails i zero none = refl
  first_fails i (suc n) none =
      cond-false _ _ _ (none i (omega arith) (omega arith)) ∙ first_fails (i + 1) n (λ j a b. none j (omega arith) (omega arith))

  pub first_none : (i n : ℕ) → first test i n ≡ None → (j : ℕ) → i ≤ j → j < i + n → test j ≡ false
  first_none i zero h j l r = absurd (omega arith)
  first_none i (suc n) h j l r =
      ⊎_elim
      (λ t. absurd (let s : Some i ≡ None = sym (cond-true _ _ _ t) ∙ h in let z : ◌≡◌ {A = ℕ} 0 1 = cc in omega arith))
      (λ f. ⊎_elim (λ e. ap test (sym e) ∙ f) (λ n'. first_none (i + 1) n (sym (cond-false _ _ _ f) ∙ h) j (omega arith) (omega arith)) (cases_eq i j))
      (cases_Bool (test i))

  pub record Found_at (i n k : ℕ) : Type 0 where
    pub from : i ≤ k
    pub to : k < i + n
    pub here : test k ≡ true
    pub none_before : (j : ℕ) → i ≤ j → j < k → test j ≡ false

  pub first_some : (i n k : ℕ) → first test i n ≡ Some k → Found_at i n k
  first_some i zero k h = absurd (let z : ◌≡◌ {A = ℕ} 0 1 = cc in omega arith)
  first_some i (suc n) k h =
      ⊎_elim
      (λ t.
      let s : Some i ≡ Some k = sym (cond-true _ _ _ t) ∙ h in
      let e : i ≡ k = cc in
      record { from = omega arith; to = omega arith; here = ap test (sym e) ∙ t; none_before = λ j a b. absurd (omega arith) })
      (λ f.
      let r = first_some (i + 1) n k (sym (cond-false _ _ _ f) ∙ h) in
      record {
        from = omega (arith, r.from);
        to = omega (arith, r.to);
        here = r.here;
        none_before = λ j a b. ⊎_elim (λ e. ap test (sym e) ∙ f) (λ n'. r.none_before j (omega arith) b) (cases_eq i j);
      })
      (cases_Bool (test i))

pub first_same : (p q : ℕ → Bool) (i n : ℕ) → ((k : ℕ) → p k ≡ q k) → first p i n ≡ first q i n
first_same p q i zero e = refl
first_same p q i (suc n) e = λ j. cond (e i j) (Some i) (first_same p q (i + 1) n e j)
