use Rattle.std.proofs.Common.{◌≡◌}
use Rattle.layers.proofs.Went.{Went}
use Rattle.layers.proofs.retry.RetryHost.post.Given as goal

abbrev pub invariant-loop : goal.invariant-loop
invariant-loop g l =
    record {
      went : Went (g.H.Host.meaning l.fn.self.below) l.counter l.key l.details l.must_stand l.last l.answer (g.H.Host.meaning l.self.below);
      times : l.self.times ≡ l.fn.self.times;
      log : l.self.log ≡ l.fn.self.log;
    }
