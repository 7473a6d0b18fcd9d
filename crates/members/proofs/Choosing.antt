-- The walk that keeps the best way so far ends with one that fits and is not outdone.
use Rattle.std.proofs.Common.{◌≡◌, ◌<◌, ◌≤◌, true, false, ◌⊎◌, ℕ, List, [], ◌∷◌, IfSome, Some, None, Option, All, sym, refl, ap, ◌∙◌, subst, inl, inr, ⊎_elim, arith}
use Rattle.std.proofs.lemmas.List.Elements.{All-nil, All-cons, All-contains, Contains-append_right}
use Rattle.std.proofs.lemmas.Bool.{and_parts, cond-true, cond-false, cases_Bool, ltb-true}
use Rattle.std.proofs.lemmas.Bool.Decides.{nat_tests}
use Rattle.std.specs.List.{Contains}
use Rattle.host.specs.declared.line.Card.{Card}
use Rattle.members.specs.declared.routes.Way.{Way}
use Rattle.members.specs.Prefixes.{fits}
use Rattle.members.specs.Routing.{better, longest, route_of, Takes, Issued}

abbrev NotBeyond : Card → Way → Way → Type 0
NotBeyond card w v = fits v.prefix card ≡ true → v.prefix.count ≤ w.prefix.count

abbrev Fitting : List Way → Card → Way → Type 0
Fitting ws card w = Contains ws w × (fits w.prefix card ≡ true)

-- what the walk comes to after a way was found
record Ends (b : Way) (ws : List Way) (card : Card) (w : Way) : Type 0 where
  ends : longest (Some b) ws card ≡ Some w
  from : (b ≡ w) ⊎ Fitting ws card w
  most : All (NotBeyond card w) ws
  start : b.prefix.count ≤ w.prefix.count

later : (v w : Way) (ws : List Way) (card : Card) → Fitting ws card w → Fitting (v ∷ ws) card w
later v w ws card (k, f) = (Contains-append_right (v ∷ []) ws w k, f)

found_first : (v w : Way) (ws : List Way) (card : Card) → fits v.prefix card ≡ true → (v ≡ w) ⊎ Fitting ws card w → Fitting (v ∷ ws) card w
found_first v w ws card f from =
    ⊎_elim (λ e. subst (Fitting (v ∷ ws) card) e ((0, omega arith, refl), f)) (later v w ws card) from

took : (b v w : Way) (ws : List Way) (card : Card) → better v (Some b) card ≡ true → Ends v ws card w → Ends b (v ∷ ws) card w
took b v w ws card h e =
    let p = and_parts _ _ h in
    let l = ltb-true _ _ p.1 in
    record {
      ends = ap (λ o. longest o ws card) (cond-true _ _ _ h) ∙ e.ends;
      from = inr (found_first v w ws card p.0 e.from);
      most = All-cons (NotBeyond card w) v ws (λ _. e.start) e.most;
      start = omega arith;
    }

outdone : (b v w : Way) (card : Card) → better v (Some b) card ≡ false → b.prefix.count ≤ w.prefix.count → NotBeyond card w v
outdone b v w card h s f = grind (arith, nat_tests)

went_by : (b v w : Way) (ws : List Way) (card : Card) → better v (Some b) card ≡ false → Ends b ws card w → Ends b (v ∷ ws) card w
went_by b v w ws card h e =
    record {
      ends = ap (λ o. longest o ws card) (cond-false _ _ _ h) ∙ e.ends;
      from = ⊎_elim inl (λ k. inr (later v w ws card k)) e.from;
      most = All-cons (NotBeyond card w) v ws (outdone b v w card h e.start) e.most;
      start = e.start;
    }

ended : (b : Way) (ws : List Way) (card : Card) → (w : Way) × Ends b ws card w
ended b [] card =
    (b, record { ends = refl; from = inl refl; most = All-nil (NotBeyond card b); start = omega arith })
ended b (v ∷ ws) card =
    ⊎_elim
    (λ h. let e = ended v ws card in (e.0, took b v e.0 ws card h e.1))
    (λ h. let e = ended b ws card in (e.0, went_by b v e.0 ws card h e.1))
    (cases_Bool (better v (Some b) card))

-- a way that does not fit changes nothing
issued_past : (v : Way) (ws : List Way) (card : Card) (r : Option ℕ) → fits v.prefix card ≡ false → Issued ws card r → Issued (v ∷ ws) card r
issued_past v ws card None h n = All-cons (λ u. fits u.prefix card ≡ false) v ws h n
issued_past v ws card (Some i) h (w, t, e) =
    (w, record { kept = Contains-append_right (v ∷ []) ws w t.kept; begins = t.begins; most = All-cons (NotBeyond card w) v ws (λ f. absurd (cc)) t.most }, e)

issued_by : (v w : Way) (ws : List Way) (card : Card) → fits v.prefix card ≡ true → Ends v ws card w → Takes (v ∷ ws) card w
issued_by v w ws card f e =
    let k = found_first v w ws card f e.from in
    record { kept = k.0; begins = k.1; most = All-cons (NotBeyond card w) v ws (λ _. e.start) e.most }

issued_all : (ws : List Way) (card : Card) → Issued ws card (route_of ws card)
issued_all [] card = All-nil (λ v. fits v.prefix card ≡ false)
issued_all (v ∷ ws) card =
    ⊎_elim
    (λ f. let e = ended v ws card in rw f (rw e.1.ends (e.0, issued_by v e.0 ws card f e.1, refl)))
    (λ f. rw f (issued_past v ws card (route_of ws card) f (issued_all ws card)))
    (cases_Bool (fits v.prefix card))

pub issued : (ws : List Way) (card : Card) (r : Option ℕ) → r ≡ route_of ws card → Issued ws card r
issued ws card r e = subst (Issued ws card) (sym e) (issued_all ws card)

issuer_kept : (ws : List Way) (card : Card) (r : Option ℕ) → All (λ w. w.issuer < 16) ws → Issued ws card r → IfSome r (λ i. i < 16)
issuer_kept ws card None n i = tt
issuer_kept ws card (Some i) n (w, t, e) = rw e (All-contains (λ v. v.issuer < 16) ws w n t.kept)

pub issuer_near : (ws : List Way) (card : Card) (r : Option ℕ) → All (λ w. w.issuer < 16) ws → r ≡ route_of ws card → IfSome r (λ i. i < 16)
issuer_near ws card r n e = issuer_kept ws card r n (issued ws card r e)
