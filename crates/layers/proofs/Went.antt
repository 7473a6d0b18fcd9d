-- What some asks of one host, one after the other, come to.
use Rattle.std.proofs.Common.{◌≡◌, ℕ, ◌+◌, ◌%◌, ◌^◌, ◌≤◌, Bool, cond, ltb, Some, sym, refl, ap, ◌∙◌, subst, arith, rules}
use Rattle.std.proofs.lemmas.Bool.{cond-true}
use Rattle.host.specs.declared.ask.Ask.TheVariants.{Post, Reverse}
use Rattle.host.specs.declared.ask.PostAnswer.{PostAnswer}
use Rattle.host.specs.declared.ask.PostAnswer.TheVariants.{Posted as Stands, Declined, Silence, Clash}
use Rattle.host.specs.declared.ask.ReverseAnswer.{ReverseAnswer}
use Rattle.host.specs.declared.ask.ReverseAnswer.TheVariants as reversing
use Rattle.host.specs.declared.line.Details.{Details}
use Rattle.host.specs.declared.line.Line.{Line}
use Rattle.host.specs.declared.line.Line.TheVariants.{Absent, Posted, Adrift, Leaving, Closed}
use Rattle.host.specs.declared.line.Key.{Key}
use Rattle.host.specs.Meaning.{Meaning, Elsewhere, Posting, Posts, Reverses, reversed}
use Rattle.layers.specs.Tries.{Tried, Undone, softened}

-- a second ask after a silence, with its decline softened, is an ask of its own
again_here : (a b l : Line) (d : Details) (r : PostAnswer) → Posting a d Silence b → Posting b d r l → Posting a d (softened r) l
again_here Absent b l d Stands h k = search rules
again_here Absent b l d (Declined c) h k = search rules
again_here Absent b l d Silence h k = search rules
again_here Absent b l d Clash h k = search rules
again_here (Posted e) b l d Stands h k = search rules
again_here (Posted e) b l d (Declined c) h k = search rules
again_here (Posted e) b l d Silence h k = search rules
again_here (Posted e) b l d Clash h k = search rules
again_here (Adrift e) b l d Stands h k = search rules
again_here (Adrift e) b l d (Declined c) h k = search rules
again_here (Adrift e) b l d Silence h k = search rules
again_here (Adrift e) b l d Clash h k = search rules
again_here (Leaving e) b l d Stands h k = search rules
again_here (Leaving e) b l d (Declined c) h k = search rules
again_here (Leaving e) b l d Silence h k = search rules
again_here (Leaving e) b l d Clash h k = search rules
again_here Closed b l d Stands h k = search rules
again_here Closed b l d (Declined c) h k = search rules
again_here Closed b l d Silence h k = search rules
again_here Closed b l d Clash h k = search rules

-- i asks after the first, the last of them answered by `said` and passed on as `r`
pub record Went (m : Meaning) (i : ℕ) (key : Key) (d : Details) (must_stand : Bool) (said r : PostAnswer) (n : Meaning) : Type 0 where
  pub asks : n.asks ≡ (m.asks + (i + 1)) % 2 ^ 32
  pub turns : n.turns ≡ m.turns
  pub latest : n.latest ≡ Some (Post key d must_stand said)
  pub passed : r ≡ cond (ltb 1 (i + 1)) (softened said) said
  pub silent : said ≡ Silence → r ≡ Silence
  pub here : Posting (m.lines key.issuer key.number) d r (n.lines key.issuer key.number)
  pub elsewhere : Elsewhere m key n

-- the first ask
pub once : (m : Meaning) (key : Key) (d : Details) (must : Bool) (r : PostAnswer) (n : Meaning) → Posts m key d must r n → Went m 0 key d must r r n
once m key d must r n p = search rules

-- one more ask, after a silence
pub again : (m : Meaning) (i : ℕ) (key : Key) (d : Details) (must : Bool) (said r : PostAnswer) (n : Meaning) (next b : PostAnswer) (o : Meaning) → Went m i key d must said r n → said ≡ Silence → Posts n key d must next o → b ≡ softened next → Went m (i + 1) key d must next b o
again m i key d must said r n next b o w s p is =
    record {
      asks = omega (arith, p.asks, w.asks);
      turns = cc;
      latest = p.latest;
      passed = grind (arith, cond-true);
      silent = λ e. is ∙ ap softened e;
      here = subst (λ x. Posting (m.lines key.issuer key.number) d x (o.lines key.issuer key.number)) (sym is) (again_here (m.lines key.issuer key.number) (n.lines key.issuer key.number) (o.lines key.issuer key.number) d next (subst (λ x. Posting (m.lines key.issuer key.number) d x (n.lines key.issuer key.number)) (w.silent s) w.here) p.here);
      elsewhere = λ j k ne. p.elsewhere j k ne ∙ w.elsewhere j k ne;
    }

-- the asks ended, by the last turn or by an answer
pub ended : (m : Meaning) (i times : ℕ) (key : Key) (d : Details) (must : Bool) (said r : PostAnswer) (n : Meaning) → Went m i key d must said r n → i ≤ times → (said ≡ Silence → i ≡ times) → Tried m times key d must r n
ended m i times key d must said r n w most last =
    record { k = i + 1; said = said; some = omega arith; most = omega arith; asks = w.asks; turns = w.turns; latest = w.latest; passed = w.passed; stopped = λ s. omega (arith, last s) }

-- the same for reversals
pub record Gone (m : Meaning) (i : ℕ) (key : Key) (r : ReverseAnswer) (n : Meaning) : Type 0 where
  pub asks : n.asks ≡ (m.asks + (i + 1)) % 2 ^ 32
  pub turns : n.turns ≡ m.turns
  pub latest : n.latest ≡ Some (Reverse key r)
  pub here : n.lines key.issuer key.number ≡ reversed (m.lines key.issuer key.number) r
  pub elsewhere : Elsewhere m key n

pub gone_once : (m : Meaning) (key : Key) (r : ReverseAnswer) (n : Meaning) → Reverses m key r n → Gone m 0 key r n
gone_once m key r n p = record { asks = p.asks; turns = p.turns; latest = p.latest; here = p.here; elsewhere = p.elsewhere }

reversed_twice : (l : Line) (r : ReverseAnswer) → reversed (reversed l reversing.Silence) r ≡ reversed l r
reversed_twice l reversing.Done = refl
reversed_twice Absent reversing.Silence = refl
reversed_twice (Posted d) reversing.Silence = refl
reversed_twice (Adrift d) reversing.Silence = refl
reversed_twice (Leaving d) reversing.Silence = refl
reversed_twice Closed reversing.Silence = refl

pub gone_again : (m : Meaning) (i : ℕ) (key : Key) (a : ReverseAnswer) (n : Meaning) (r : ReverseAnswer) (o : Meaning) → Gone m i key a n → a ≡ reversing.Silence → Reverses n key r o → Gone m (i + 1) key r o
gone_again m i key a n r o w s p =
    record {
      asks = omega (arith, p.asks, w.asks);
      turns = cc;
      latest = p.latest;
      here = cc (reversed_twice (m.lines key.issuer key.number) r);
      elsewhere = λ j k ne. p.elsewhere j k ne ∙ w.elsewhere j k ne;
    }

pub gone_ended : (m : Meaning) (i times : ℕ) (key : Key) (r : ReverseAnswer) (n : Meaning) → Gone m i key r n → i ≤ times → (r ≡ reversing.Silence → i ≡ times) → Undone m times key r n
gone_ended m i times key r n w most last =
    record { k = i + 1; some = omega arith; most = omega arith; asks = w.asks; turns = w.turns; latest = w.latest; stopped = λ s. omega (arith, last s) }
