use Rattle.std.proofs.Common.{◌≡◌}
use Rattle.layers.proofs.Went.{Gone}
use Rattle.layers.proofs.retry.RetryHost.reverse.Given as goal

abbrev pub invariant-loop : goal.invariant-loop
invariant-loop g l =
    record {
      gone : Gone (g.H.Host.meaning l.fn.self.below) l.counter l.key l.answer (g.H.Host.meaning l.self.below);
      times : l.self.times ≡ l.fn.self.times;
      log : l.self.log ≡ l.fn.self.log;
    }
