-- An ask after a turn is a forwarding.
use Rattle.std.proofs.Common.{◌≡◌, ℕ, T, Some, sym, refl, ap}
use Rattle.host.specs.Meaning.{Meaning, Turns}
use Rattle.journal.specs.Entries.{unsettled}
use Rattle.journal.specs.Places.{Next}
use Rattle.journal.specs.declared.entry.Entry.{Entry}
use Rattle.journal.specs.declared.entry.State.{State as Standing}
use Rattle.journal.specs.declared.entry.State.TheVariants.{Waiting, Completed, Declined, Owed, Reversed, Barred}
use Rattle.switch.specs.Forwardings.{put, undone, PutNow, UndoneNow, Forwarded}
use Rattle.switch.specs.States.{State, with}
use Rattle.switch.specs.declared.forward.Told.{Told}

-- unsettled and not owed is waiting
waits : (st : Standing) → T (unsettled st) → (st ≡ Owed → ⊥) → st ≡ Waiting
waits Waiting u n = refl
waits Completed u n = absurd u
waits Declined u n = absurd u
waits Owed u n = absurd (n refl)
waits Reversed u n = absurd u
waits Barred u n = absurd u

pub put_forwards : (s : State) (m : Meaning) (place : ℕ) (e : Entry) (told : Told) (t : State) → Turns s.host m → Next s.books.places s.books.mark place e → (e.state ≡ Owed → ⊥) → PutNow (with s s.books m) place e told t → Forwarded s (Some told) t
put_forwards s m place e told t turn next n p =
    record {
      done = put e.number p.answer;
      tells = ap (λ x. Some x) (sym p.tells);
      does = record { place = place; entry = e; number = refl; next = next; waits = waits e.state next.open_still n; turned = m; turn = turn; after = p.after; posts = p.posts; state = p.state };
    }

pub undone_forwards : (s : State) (m : Meaning) (place : ℕ) (e : Entry) (told : Told) (t : State) → Turns s.host m → Next s.books.places s.books.mark place e → e.state ≡ Owed → UndoneNow (with s s.books m) place e told t → Forwarded s (Some told) t
undone_forwards s m place e told t turn next is p =
    record {
      done = undone e.number p.answer;
      tells = ap (λ x. Some x) (sym p.tells);
      does = record { place = place; entry = e; number = refl; next = next; owes = is; turned = m; turn = turn; after = p.after; reverses = p.reverses; state = p.state };
    }
