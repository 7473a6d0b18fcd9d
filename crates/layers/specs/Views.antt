-- What the layers mean, by the meaning of the hosts below them.
use Rattle.std.specs.Prelude.{◌≡◌, ℕ, ◌<◌, ◌≤◌, cond, nat_lt}
use Rattle.host.specs.Meaning.{Meaning}
use Rattle.layers.specs.declared.pair.Pair.{Pair}
use Rattle.layers.specs.declared.retry.Retry.{Retry}

-- a pair shows the lines and held pairs of the host that an issuer is sent to; asks, turns and the latest ask are its own
abbrev pub paired : {L R : Type 0} → (L → Meaning) → (R → Meaning) → Pair L R → Meaning
paired left right s =
    record {
      lines = λ i k. cond (nat_lt i s.split) ((left s.left).lines i k) ((right s.right).lines i k);
      held = λ i k. cond (nat_lt i s.split) ((left s.left).held i k) ((right s.right).held i k);
      asks = s.log.asks;
      turns = s.log.turns;
      latest = s.log.latest;
    }

-- an issuer below the split is sent to the left host, which goes as it says, any other to the right one; nothing else changes
pub record Sent {L R : Type 0} (left : L → Meaning) (right : R → Meaning) (Goes : Meaning → Meaning → Type 0) (issuer : ℕ) (s t : Pair L R) : Type 0 where
  pub to_left : issuer < s.split → Goes (left s.left) (left t.left) × (t.right ≡ s.right)
  pub to_right : s.split ≤ issuer → Goes (right s.right) (right t.right) × (t.left ≡ s.left)
  pub split : t.split ≡ s.split

-- a retry shows the lines and held pairs of the host below; asks, turns and the latest ask are its own
abbrev pub retried : {H : Type 0} → (H → Meaning) → Retry H → Meaning
retried below s =
    record {
      lines = (below s.below).lines;
      held = (below s.below).held;
      asks = s.log.asks;
      turns = s.log.turns;
      latest = s.log.latest;
    }
