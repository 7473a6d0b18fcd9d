-- A request that was posted is entered by its response code.
use Rattle.std.proofs.Common.{◌≡◌, ℕ, ◌≤◌, false, Some, sym, subst, arith}
use Rattle.host.specs.Meaning.{Meaning, Posting, Posts}
use Rattle.host.specs.declared.ask.PostAnswer.{PostAnswer}
use Rattle.host.specs.declared.ask.PostAnswer.TheVariants as posting
use Rattle.host.specs.declared.line.Details.{Details}
use Rattle.host.specs.declared.line.Line.{Line}
use Rattle.host.specs.declared.line.Line.TheVariants.{Absent, Posted, Adrift, Leaving, Closed}
use Rattle.journal.specs.Entries.{details_of}
use Rattle.journal.specs.declared.entry.Terms.{Terms}
use Rattle.journal.specs.declared.entry.Kind.TheVariants.{Request}
use Rattle.switch.specs.Orders.{Coded, EnteredSo}
use Rattle.switch.specs.Requests.{ByKind, code_by, entry_by}
use Rattle.switch.specs.States.{State, entering}

declined_small : (l after : Line) (d : Details) (c : ℕ) → Posting l d (posting.Declined c) after → c ≤ 99
declined_small Absent after d c p = p.0.1
declined_small (Posted e) after d c p = absurd p
declined_small (Adrift e) after d c p = p.1.1
declined_small (Leaving e) after d c p = absurd p
declined_small Closed after d c p = p.0.1

-- every answer to a request comes to a code of two digits
code_small : (l after : Line) (d : Details) (r : PostAnswer) → Posting l d r after → code_by r ≤ 99
code_small l after d posting.Posted p = omega arith
code_small l after d (posting.Declined c) p = declined_small l after d c p
code_small l after d posting.Silence p = omega arith
code_small l after d posting.Clash p = omega arith

pub requested : (s t : State) (number issuer place : ℕ) (x : Terms) (answer : PostAnswer) (after : Meaning) (code : ℕ) → x.kind ≡ Request → Posts s.host (record { issuer = issuer; number = number }) (details_of x) false answer after → code ≡ code_by answer → t ≡ entering s place (entry_by number issuer x answer) after → EnteredSo s number issuer place x code t
requested s t number issuer place x answer after code kind posts is state =
    subst (λ k. Coded (λ r. ByKind k s number issuer place x r t) code) (sym kind)
    (record {
      asked = Some answer;
      comes = record { answer = answer; after = after; posts = posts; said = λ i. record { code = is i; asked = Some answer }; state = state };
      small = subst (λ n. n ≤ 99) (sym is) (code_small (s.host.lines issuer number) (after.lines issuer number) (details_of x) answer posts.here);
    })
