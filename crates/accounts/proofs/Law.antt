-- Every balance is what it was, with each booking once and each booking back once.
use Rattle.std.proofs.Common.{◌≡◌, ℕ, Bool, cond, ◌&&◌, ◌==◌, ◌≤◌, ◌⊎◌, List, [], ◌∷◌, ℤ, pos, ◌+ℤ◌, Some, None, Option, take, length, refl, ap, ◌∙◌, arith}
use Rattle.std.proofs.lemmas.Int.{ints}
use Rattle.std.proofs.lemmas.List.{take_all}
use Rattle.std.proofs.lemmas.Bool.Decides.{nat_tests}
use Rattle.host.specs.Meaning.{Meaning, Elsewhere, Posting, reversed, forgotten}
use Rattle.host.specs.declared.ask.ForgetAnswer.{ForgetAnswer}
use Rattle.host.specs.declared.ask.ForgetAnswer.TheVariants as forgetting
use Rattle.host.specs.declared.ask.PostAnswer.{PostAnswer}
use Rattle.host.specs.declared.ask.PostAnswer.TheVariants as posting
use Rattle.host.specs.declared.ask.ReverseAnswer.{ReverseAnswer}
use Rattle.host.specs.declared.line.Card.{Card}
use Rattle.host.specs.declared.line.Details.{Details}
use Rattle.host.specs.declared.line.Key.{Key}
use Rattle.host.specs.declared.line.Line.{Line}
use Rattle.host.specs.declared.line.Line.TheVariants.{Absent, Posted, Leaving, Closed}
use Rattle.host.specs.declared.line.Side.{Side}
use Rattle.host.specs.declared.line.Side.TheVariants.{Debit, Credit}
use Rattle.accounts.specs.Answers.{within_balance, book_answer, accounts_after_post, accounts_after_reverse}
use Rattle.accounts.specs.Balances.{balance_of, booked, with_booking, undoing}
use Rattle.accounts.specs.Histories.{Event, post, reverse, forget, line, turn, Step, Runs, Ran, Standing, unbooked, back, stands, by_post, by_reverse, by_forget, standing, booking, post_adds, reverse_adds, adds, tally, plus, Balanced, NoLines}
use Rattle.accounts.specs.Views.{Book}
use Rattle.accounts.specs.declared.accounts.Account.{Account}
use Rattle.accounts.specs.declared.exchange.Exchange.{Exchange}

plus_none : (b : Option ℤ) → b ≡ plus b (pos 0)
plus_none None = refl
plus_none (Some b) = ap (λ x. Some x) (omega (arith, ints))

plus_plus : (b : Option ℤ) (x y : ℤ) → plus (plus b x) y ≡ plus b (x +ℤ y)
plus_plus None x y = refl
plus_plus (Some b) x y = ap (λ z. Some z) (omega (arith, ints))

booked_more : (side : Side) (amount : ℕ) (b : ℤ) → booked side amount b ≡ b +ℤ booked side amount (pos 0)
booked_more Debit amount b = omega (arith, ints)
booked_more Credit amount b = omega (arith, ints)

-- a booking adds to the balance of its card, and to no other
booked_balance : (xs : List Account) (d : Details) (c : Card) → balance_of (with_booking xs d) c ≡ plus (balance_of xs c) (booking d c)
booked_balance [] d c = refl
booked_balance (a ∷ xs) d c =
    let h = booked_balance xs d c in
    let more = booked_more d.side d.amount a.balance in
    let none = plus_none (balance_of (a ∷ xs) c) in
    grind (arith, nat_tests)

-- what the calls say of a pair, and the line that the book then has
abbrev Fits : Standing → Line → Type 0
Fits unbooked l = l ≡ Absent
Fits back l = l ≡ Closed
Fits (stands d) l = (l ≡ Posted d) ⊎ (l ≡ Leaving d)

-- with no line, the book is not silent
spoken : (b : Option ℤ) (free : ℕ) (d : Details) (must : Bool) → within_balance b free d must ≡ posting.Silence → ⊥
spoken None free d must e = cc
spoken (Some b) free d must e = grind (arith, nat_tests)

-- a post, by the line found
post_fits : (st : Standing) (accounts : List Account) (free : ℕ) (l after : Line) (d : Details) (must : Bool) (r : PostAnswer) → Fits st l → r ≡ book_answer accounts free l d must → Posting l d r after → Fits (by_post d r st) after
post_fits unbooked accounts free l after d must r f is p = let n = spoken (balance_of accounts d.card) free d must in grind (arith, nat_tests)
post_fits back accounts free l after d must r f is p = grind (arith, nat_tests)
post_fits (stands e) accounts free l after d must r f is p = grind (arith, nat_tests)

post_books : (st : Standing) (xs ys : List Account) (l : Line) (d : Details) (r : PostAnswer) (c : Card) → Fits st l → ys ≡ accounts_after_post xs l d r → balance_of ys c ≡ plus (balance_of xs c) (post_adds st d r c)
post_books unbooked xs ys l d r c f is = let h = booked_balance xs d c in let n = plus_none (balance_of xs c) in grind (arith, nat_tests)
post_books back xs ys l d r c f is = let h = plus_none (balance_of xs c) in cc
post_books (stands e) xs ys l d r c f is = let n = plus_none (balance_of xs c) in grind (arith, nat_tests)

-- a reverse, by the line found
reverse_fits : (st : Standing) (l after : Line) (r : ReverseAnswer) → Fits st l → after ≡ reversed l r → Fits (by_reverse r st) after
reverse_fits unbooked l after r f is = grind (arith, nat_tests)
reverse_fits back l after r f is = grind (arith, nat_tests)
reverse_fits (stands e) l after r f is = grind (arith, nat_tests)

reverse_books : (st : Standing) (xs ys : List Account) (l : Line) (r : ReverseAnswer) (c : Card) → Fits st l → ys ≡ accounts_after_reverse xs l r → balance_of ys c ≡ plus (balance_of xs c) (reverse_adds st r c)
reverse_books unbooked xs ys l r c f is = let h = plus_none (balance_of xs c) in cc
reverse_books back xs ys l r c f is = let h = plus_none (balance_of xs c) in cc
reverse_books (stands e) xs ys l r c f is = let h = booked_balance xs (undoing e) c in let n = plus_none (balance_of xs c) in grind (arith, nat_tests)

forget_fits : (st : Standing) (l after : Line) (r : ForgetAnswer) → Fits st l → after ≡ forgotten r l → Fits (by_forget r st) after
forget_fits st l after forgetting.Done f is = is
forget_fits st l after forgetting.NotNow f is = rw is f

-- a call that changes the line of one pair: that pair stands as the call says, and every other as before
pairwise : (change : Standing → Standing) (st : ℕ → ℕ → Standing) (m n : Meaning) (key : Key) → ((a b : ℕ) → Fits (st a b) (m.lines a b)) → Fits (change (st key.issuer key.number)) (n.lines key.issuer key.number) → Elsewhere m key n → (a b : ℕ) → Fits (cond (key.issuer == a && key.number == b) (change (st a b)) (st a b)) (n.lines a b)
pairwise change st m n key fits here elsewhere a b =
    let f = fits a b in
    let e = elsewhere a b in
    grind (arith, nat_tests)

-- history and book together
record Inv (h : List Event) (s t : Book) : Type 0 where
  agrees : (a b : ℕ) → Fits (standing h a b) (t.host.lines a b)
  balanced : Balanced h s t

adding : (h : List Event) (s m t : Book) (e : Event) → Inv h s m → ((c : Card) → balance_of t.accounts c ≡ plus (balance_of m.accounts c) (adds h e c)) → Balanced (e ∷ h) s t
adding h s m t e v more c = more c ∙ (ap (λ b. plus b (adds h e c)) (v.balanced c) ∙ plus_plus (balance_of s.accounts c) (tally h c) (adds h e c))

unchanged : (s t : Book) → t.accounts ≡ s.accounts → (c : Card) → balance_of t.accounts c ≡ plus (balance_of s.accounts c) (pos 0)
unchanged s t e c = let n = plus_none (balance_of s.accounts c) in cc

stepped : (h : List Event) (s m t : Book) (e : Event) → Inv h s m → Step m e t → Inv (e ∷ h) s t
stepped h s m t (post key d must r) v (p, x) =
    record {
      agrees = pairwise (by_post d r) (standing h) m.host t.host key v.agrees (post_fits _ m.accounts m.free _ _ d must r (v.agrees key.issuer key.number) x.answer p.here) p.elsewhere;
      balanced = adding h s m t (post key d must r) v (λ c. post_books _ _ _ _ d r c (v.agrees key.issuer key.number) x.accounts);
    }
stepped h s m t (reverse key r) v (p, x) =
    record {
      agrees = pairwise (by_reverse r) (standing h) m.host t.host key v.agrees (reverse_fits _ _ _ r (v.agrees key.issuer key.number) p.here) p.elsewhere;
      balanced = adding h s m t (reverse key r) v (λ c. reverse_books _ _ _ _ r c (v.agrees key.issuer key.number) x.accounts);
    }
stepped h s m t (forget key r) v (p, x) =
    record {
      agrees = pairwise (by_forget r) (standing h) m.host t.host key v.agrees (forget_fits _ _ _ r (v.agrees key.issuer key.number) p.here) p.elsewhere;
      balanced = adding h s m t (forget key r) v (unchanged m t x.0);
    }
stepped h s m t (line key l) v (p, is) = record { agrees = λ a b. rw is (v.agrees a b); balanced = adding h s m t (line key l) v (unchanged m t cc) }
stepped h s m t turn v (p, x) = record { agrees = λ a b. rw (p.lines a b) (v.agrees a b); balanced = adding h s m t turn v (unchanged m t x.0) }

kept : (h : List Event) (s t : Book) → NoLines s → Runs h s t → Inv h s t
kept [] s t new is = rw is (record { agrees = new; balanced = λ c. plus_none (balance_of s.accounts c) })
kept (e ∷ h) s t new (m, before, step) = stepped h s m t e (kept h s m new before) step

pub balanced : (h : List Event) (s t : Book) → NoLines s → Runs h s t → Balanced h s t
balanced h s t new runs = (kept h s t new runs).balanced

-- all the calls made
pub lawful : (s t : Book) (xs : List Exchange) (i : ℕ) → length xs ≤ i → Ran s (take i xs) t → (r : Ran s xs t) × (NoLines s → Balanced r.history s t)
lawful s t xs i all ran =
    let e = take_all i xs all in
    (record { history = ran.history; these = ran.these ∙ e; runs = ran.runs }, λ new. balanced ran.history s t new ran.runs)
