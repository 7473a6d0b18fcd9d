-- The elements of a reply, handed to the writer one by one.
use Rattle.std.proofs.lemmas.Bool.Decides.{nat_tests}
use Rattle.std.proofs.Common.{◌≡◌, ℕ, ◌+◌, ◌<◌, ◌≤◌, cond, List, [], ◌∷◌, length, get_or, drop, filter, is_some, Some, None, Ok, Err, Option, sym, refl, ap, ◌∙◌, arith}
use Rattle.std.proofs.lemmas.List.{drop_more, drop_all}
use Rattle.elements.specs.declared.fault.MessageFault.{MessageFault}
use Rattle.elements.specs.Fields.{spelled}
use Rattle.composer.specs.declared.writer.Writer.{Writer}
use Rattle.composer.specs.Contents.{Item, on, all_put}
use Rattle.composer.specs.Writers.{rest_of, state_of}
use Rattle.composer.specs.Writing.{ending}
use Rattle.replies.specs.Picks.{pick, picked, numbers_of, PutTold}
use Rattle.replies.specs.Replies.{code_digits}

-- the numbers of the elements that are there
number_there : (k : ℕ) (o : Option (List ℕ)) (ks : List ℕ) (is : List Item) → ks ≡ numbers_of is → cond (is_some o) (k ∷ ks) ks ≡ numbers_of (pick k o is)
number_there k None ks is e = e
number_there k (Some cs) ks is e = ap (λ l. k ∷ l) e

pub numbers_there : (ks : List ℕ) (says : ℕ → Option (List ℕ)) → filter (λ k. is_some (says k)) ks ≡ numbers_of (picked ks says)
numbers_there [] says = refl
numbers_there (k ∷ ks) says = number_there k (says k) _ (picked ks says) (numbers_there ks says)

-- a response code, spelled
pub code_spelled : (code : ℕ) → code ≤ 99 → spelled 10 2 code ≡ code_digits code
unfolding spelled
code_spelled code h = grind (arith, nat_tests)

-- one element put, before others
module _ (out : List ℕ) (w : Writer) (k : ℕ) (out' : List ℕ) (w' : Writer) (is : List Item) where
  told_on : (o : Option (List ℕ)) (u : Unit {0}) → PutTold out w k o (Ok u) out' w' → all_put (state_of out w) (pick k o is) ≡ all_put (state_of out' w') is
  told_on None u p = (λ j. all_put (state_of (sym p.1 j) (sym p.2 j)) is)
  told_on (Some cs) u p = ap (λ r. on r out (λ t. all_put t is)) p

  told_stops : (o : Option (List ℕ)) (f : MessageFault) → PutTold out w k o (Err f) out' w' → all_put (state_of out w) (pick k o is) ≡ record { answer = Err f; out = out' }
  told_stops None f p = absurd (let z : ◌≡◌ {A = ℕ} 0 1 = let e = p.0 in cc in omega arith)
  told_stops (Some cs) f p = ap (λ r. on r out (λ t. all_put t is)) p.0 ∙ ap (λ l. record { answer = Err f; out = l }) (sym p.1)

-- the next of several
module _ (ks : List ℕ) (i : ℕ) (says : ℕ → Option (List ℕ)) (out : List ℕ) (w : Writer) where
  next : i < length ks → all_put (state_of out w) (picked (drop i ks) says) ≡ all_put (state_of out w) (pick (get_or ks i 0) (says (get_or ks i 0)) (picked (drop (i + 1) ks) says))
  next h = ap (λ l. all_put (state_of out w) (picked l says)) (drop_more ks i 0 h)

  pub goes_on : (u : Unit {0}) (out' : List ℕ) (w' : Writer) → i < length ks → PutTold out w (get_or ks i 0) (says (get_or ks i 0)) (Ok u) out' w' → all_put (state_of out w) (picked (drop i ks) says) ≡ all_put (state_of out' w') (picked (drop (i + 1) ks) says)
  goes_on u out' w' h p = next h ∙ told_on out w (get_or ks i 0) out' w' (picked (drop (i + 1) ks) says) (says (get_or ks i 0)) u p

  pub stops : (f : MessageFault) (out' : List ℕ) (w' : Writer) → i < length ks → PutTold out w (get_or ks i 0) (says (get_or ks i 0)) (Err f) out' w' → all_put (state_of out w) (picked (drop i ks) says) ≡ record { answer = Err f; out = out' }
  stops f out' w' h p = next h ∙ told_stops out w (get_or ks i 0) out' w' (picked (drop (i + 1) ks) says) (says (get_or ks i 0)) f p

  pub ends : length ks ≤ i → all_put (state_of out w) (picked (drop i ks) says) ≡ record { answer = ending w.used (rest_of w); out = out }
  ends h = ap (λ l. all_put (state_of out w) (picked l says)) (drop_all i ks h)
