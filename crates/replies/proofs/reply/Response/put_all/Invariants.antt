use Rattle.std.proofs.Common.{◌≡◌, drop}
use Rattle.composer.specs.Contents.{all_put}
use Rattle.composer.specs.Writers.{state_of}
use Rattle.replies.specs.Picks.{picked, told_by}
use Rattle.replies.specs.Replies.{replied}
use Rattle.replies.proofs.reply.Response.put_all.Given as goal

abbrev pub invariant-loop-number : goal.invariant-loop-number
invariant-loop-number l =
    all_put (state_of l.initial.out l.initial.writer) (picked replied (told_by l.self))
    ≡ all_put (state_of l.out l.writer) (picked (drop l.number-index replied) (told_by l.self))
