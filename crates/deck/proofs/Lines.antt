-- How a loop over the parts between line feeds reads the commands of a deck.
use Rattle.std.proofs.Common.{◌≡◌, ℕ, ◌+◌, ◌<◌, ◌≤◌, true, false, cond, ◌⊎◌, inl, inr, List, [], ◌∷◌, ◌++◌, length, get_or, drop, Some, None, Ok, Err, Option, Result, ◌==◌, refl, sym, ap, subst, ◌∙◌, append_assoc, append-nil, zero-add, arith}
use Rattle.std.specs.List.{slice_split, onto_first, enumerate_from}
use Rattle.std.specs.Iterator.{Yields}
use denote.Ref.{Bor}
use Rattle.std.proofs.lemmas.Iterator.{YieldsList}
use Rattle.std.proofs.lemmas.Iterator.Consumers.{YieldsList-turn, YieldsList-end}
use Rattle.std.proofs.lemmas.List.FromFn.{get_or-enumerate_from, length-enumerate_from}
use Rattle.std.proofs.lemmas.List.{get_or_default, at_drop_more, at_drop_all}
use Rattle.deck.specs.Deck.{Asked, asked, with_line, lines, and_then, asked_from, Blames}
use Rattle.deck.specs.declared.LineFault.{LineFault}
use Rattle.deck.specs.declared.LineFault.TheVariants as fault

abbrev pub parts : List ℕ → List (List ℕ)
parts text = slice_split (λ c. c == 10) text

-- the parts are the lines, with an empty one behind the last line feed
abbrev Ends : List (List ℕ) → List (List ℕ) → Type 0
Ends ps ls = (ps ≡ ls) ⊎ (ps ≡ ls ++ [] ∷ [])

onto : (c : ℕ) (ps ls : List (List ℕ)) → Ends ps ls → Ends (onto_first c ps) (onto_first c ls)
onto c ps ls (inl e) = inl (ap (onto_first c) e)
onto c ps [] (inr e) = inl (ap (onto_first c) e)
onto c ps (l ∷ ls) (inr e) = inr (ap (onto_first c) e)

stop : (ps ls : List (List ℕ)) → Ends ps ls → Ends ([] ∷ ps) ([] ∷ ls)
stop ps ls (inl e) = inl (ap (λ x. [] ∷ x) e)
stop ps ls (inr e) = inr (ap (λ x. [] ∷ x) e)

ends : (text : List ℕ) → Ends (parts text) (lines text)
ends [] = inr refl
ends (c ∷ cs) = elim (c == 10) as (λ b. Ends (cond b ([] ∷ parts cs) (onto_first c (parts cs))) (cond b ([] ∷ lines cs) (onto_first c (lines cs)))) [
  | true ↦ stop (parts cs) (lines cs) (ends cs)
  | false ↦ onto c (parts cs) (lines cs) (ends cs)
]

-- an empty line at the end asks for nothing
one_empty : (n : ℕ) (ls : List (List ℕ)) → asked_from n (ls ++ [] ∷ []) ≡ asked_from n ls
one_empty n [] = refl
one_empty n (l ∷ ls) = ap (and_then (asked l) n) (one_empty (n + 1) ls)

asked_parts : (text : List ℕ) → asked_from 1 (parts text) ≡ asked_from 1 (lines text)
asked_parts text = elim (ends text) [
  | inl e ↦ ap (asked_from 1) e
  | inr e ↦ ap (asked_from 1) e ∙ one_empty 1 (lines text)
]

-- a loop over the parts with their numbers: which part an item is, and that none follows the last
module _ {S : Type 0} {steps : S → Option (ℕ × Bor (List ℕ)) → S → Type 0} {s : S} (text : List ℕ) (road : YieldsList {B = ℕ × List ℕ} steps (λ p. (p.0, p.1.now)) s (enumerate_from 0 (parts text))) {t : S} {r : Option (ℕ × Bor (List ℕ))} {u : S} (xs : List (ℕ × Bor (List ℕ))) (before : Yields steps s xs t) (step : steps t r u) where
  pub turn : (i : ℕ) (line : Bor (List ℕ)) → r ≡ Some (i, line) → (length xs < length (parts text)) × (i ≡ length xs) × (line.now ≡ get_or (parts text) (length xs) [])
  turn i line is =
      let it = YieldsList-turn road xs t before r u (i, line) is step in
      let inside : length xs < length (parts text) = subst (λ n. length xs < n) (length-enumerate_from 0 (parts text)) it.0 in
      let same = it.1 ∙ get_or-enumerate_from 0 (parts text) (length xs) (i, line.now) inside in
      (inside, ap (λ p. p.0) same ∙ zero-add (length xs), ap (λ p. p.1) same ∙ get_or_default (parts text) (length xs) line.now [] inside)

  pub end : r ≡ None → length (parts text) ≤ length xs
  end is = let it = YieldsList-end road xs t before r u is step in omega (arith, it.1, length-enumerate_from 0 (parts text))

-- what was asked for before, and then
abbrev after : List Asked → Result (List Asked) ℕ → Result (List Asked) ℕ
after done (Ok more) = Ok (done ++ more)
after done (Err k) = Err k

after_nothing : (r : Result (List Asked) ℕ) → after [] r ≡ r
after_nothing (Ok more) = refl
after_nothing (Err k) = refl

one_more : (done new : List Asked) (o : Option (Option Asked)) (n : ℕ) (r : Result (List Asked) ℕ) → with_line done o ≡ Some new → after done (and_then o n r) ≡ after new r
one_more done new None n r e = absurd (let z : ◌≡◌ {A = ℕ} 0 1 = cc in omega arith)
one_more done new (Some None) n r e = ap (λ l. after l r) (let z : done ≡ new = cc in z)
one_more done new (Some (Some a)) n (Ok more) e = let z : done ++ a ∷ [] ≡ new = cc in ap Ok (sym (append_assoc done (a ∷ []) more) ∙ ap (λ l. l ++ more) z)
one_more done new (Some (Some a)) n (Err k) e = refl

-- done is what the first n parts ask for
pub record Sofar (text : List ℕ) (n : ℕ) (done : List Asked) : Type 0 where
  pub same : after done (asked_from (n + 1) (drop n (parts text))) ≡ asked_from 1 (lines text)

pub start : (text : List ℕ) (done : List Asked) → done ≡ [] → Sofar text 0 done
start text done e = record { same = rw e (after_nothing _ ∙ asked_parts text) }

module _ {text : List ℕ} {n : ℕ} {done : List Asked} (old : Sofar text n done) where
  here : n < length (parts text) → (line : List ℕ) → line ≡ get_or (parts text) n [] → after done (and_then (asked line) (n + 1) (asked_from (n + 1 + 1) (drop (n + 1) (parts text)))) ≡ asked_from 1 (lines text)
  here inside line is = ap (λ l. after done (and_then (asked l) (n + 1) (asked_from (n + 1 + 1) (drop (n + 1) (parts text))))) is ∙ sym (ap (after done) (at_drop_more (asked_from (n + 1)) (parts text) n [] inside)) ∙ old.same

  pub next : (line : List ℕ) (new : List Asked) → n < length (parts text) → line ≡ get_or (parts text) n [] → with_line done (asked line) ≡ Some new → Sofar text (n + 1) new
  next line new inside is e = record { same = sym (one_more done new (asked line) (n + 1) _ e) ∙ here inside line is }

  pub wrong : (line : List ℕ) → n < length (parts text) → line ≡ get_or (parts text) n [] → asked line ≡ None → asked_from 1 (lines text) ≡ Err (n + 1)
  wrong line inside is e = sym (here inside line is) ∙ ap (λ o. after done (and_then o (n + 1) (asked_from (n + 1 + 1) (drop (n + 1) (parts text))))) e

  pub done_all : length (parts text) ≤ n → asked_from 1 (lines text) ≡ Ok done
  done_all e = sym old.same ∙ ap (after done) (at_drop_all (asked_from (n + 1)) (parts text) n e) ∙ ap Ok (append-nil done)

pub blames_too : {P Q : Type 0} (e : LineFault) → (P → Q) → Blames e P → Blames e Q
blames_too fault.Command so h = so h
blames_too fault.Digits so h = so h
blames_too fault.Number so h = so h
blames_too fault.Memory so h = tt
