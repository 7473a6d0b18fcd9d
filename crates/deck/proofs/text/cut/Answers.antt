use Rattle.std.proofs.Common.{◌≡◌, ◌+◌, ◌≤◌, length, arith, rules, ◌==◌}
use Rattle.std.specs.List.{position_or_len}
use Rattle.std.proofs.lemmas.List.{take_all, drop_all, take_rest}
use Rattle.std.proofs.lemmas.List.Sums.{position_or_len_is}
use Rattle.deck.proofs.text.cut.Goals as goal

pub returns-in-Some : goal.returns-in-Some
returns-in-Some c =
    let text = c.args.text.now in
    let at : position_or_len (λ b. b == c.args.stop) text ≡ c.in-Some.i = position_or_len_is _ text c.in-Some.i 0 (search rules) (λ k before. search rules) (λ inside. search rules) in
    record { front = rw at; back = rw (at, take_rest) }

pub returns-in-None : goal.returns-in-None
returns-in-None c =
    let text = c.args.text.now in
    let at : position_or_len (λ b. b == c.args.stop) text ≡ length text = position_or_len_is _ text (length text) 0 (omega arith) (λ k before. search rules) (λ inside. absurd (omega arith)) in
    let past : length text ≤ length text + 1 = omega arith in
    record { front = rw (at, take_all (length text) text (omega arith)); back = rw (at, drop_all (length text + 1) text past) }
