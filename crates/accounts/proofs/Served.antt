-- Calls made one after the other leave a history.
use Rattle.std.proofs.Common.{◌≡◌, ℕ, zero, suc, ◌+◌, ◌<◌, Bool, List, [], ◌∷◌, ◌++◌, map, length, get_or, take, set, Some, Option, sym, refl, ap, ◌∙◌}
use Rattle.std.proofs.lemmas.List.{take_more_set}
use Rattle.host.specs.Meaning.{Posts, Reverses, Forgets}
use Rattle.host.specs.declared.ask.ForgetAnswer.{ForgetAnswer}
use Rattle.host.specs.declared.ask.PostAnswer.{PostAnswer}
use Rattle.host.specs.declared.ask.ReverseAnswer.{ReverseAnswer}
use Rattle.host.specs.declared.line.Details.{Details}
use Rattle.host.specs.declared.line.Key.{Key}
use Rattle.host.specs.declared.line.Line.{Line}
use Rattle.accounts.specs.Histories.{Ran, post, reverse, forget, line}
use Rattle.accounts.specs.Made.{Made, called}
use Rattle.accounts.specs.Views.{Book, Places, AnswersPost, AnswersReverse}
use Rattle.accounts.specs.declared.exchange.Answer.{Answer}
use Rattle.accounts.specs.declared.exchange.Answer.TheVariants as answer
use Rattle.accounts.specs.declared.exchange.Call.{Call}
use Rattle.accounts.specs.declared.exchange.Call.TheVariants as call
use Rattle.accounts.specs.declared.exchange.Exchange.{Exchange}

module _ (s t : Book) (key : Key) where
  pub post_made : (d : Details) (must : Bool) (r : PostAnswer) → Posts s.host key d must r t.host → AnswersPost s key d must r t → Made s (call.Post key d must) (answer.Post r) t
  post_made d must r p x = record { event = post key d must r; this = refl; step = (p, x) }

  pub reverse_made : (r : ReverseAnswer) → Reverses s.host key r t.host → AnswersReverse s key r t → Made s (call.Reverse key) (answer.Reverse r) t
  reverse_made r p x = record { event = reverse key r; this = refl; step = (p, x) }

  pub forget_made : (r : ForgetAnswer) → Forgets s.host key r t.host → (t.accounts ≡ s.accounts) × Places s key t → Made s (call.Forget key) (answer.Forget r) t
  forget_made r p x = record { event = forget key r; this = refl; step = (p, x) }

  pub line_made : (l : Line) → l ≡ s.host.lines key.issuer key.number → t ≡ s → Made s (call.Line key) (answer.Line l) t
  line_made l p x = record { event = line key l; this = refl; step = (p, x) }

abbrev made : Call → Answer → Exchange
made c r = record { call = c; answer = Some r }

pub ran_none : (s : Book) → Ran s [] s
ran_none s = record { history = []; these = refl; runs = refl }

pub ran_more : (s m t : Book) (xs : List Exchange) (i : ℕ) (c : Call) (r : Answer) → i < length xs → Ran s (take i xs) m → Made m c r t → Ran s (take (i + 1) (set xs i (made c r))) t
ran_more s m t xs i c r h ran did =
    record {
      history = did.event ∷ ran.history;
      these = (λ j. ran.these j ++ did.this j ∷ []) ∙ sym (take_more_set xs i (made c r) h);
      runs = (m, ran.runs, did.step);
    }

-- a call keeps its place
pub same_calls : (xs : List Exchange) (i : ℕ) (d : Exchange) (o : Option Answer) → map called (set xs i (record { call = (get_or xs i d).call; answer = o })) ≡ map called xs
same_calls [] zero d o = refl
same_calls [] (suc i) d o = refl
same_calls (x ∷ xs) zero d o = refl
same_calls (x ∷ xs) (suc i) d o = ap (λ cs. x.call ∷ cs) (same_calls xs i d o)
