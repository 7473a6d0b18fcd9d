use Rattle.std.proofs.Common.{◌≡◌, length, take, is_ok, sym, ap, ◌∙◌, subst, arith}
use Rattle.iso8583.proofs.Outcomes.{same_ok}
use Rattle.replies.specs.Replies.{Reads, answer, bytes_of}
use Rattle.replies.proofs.Wholes.{whole}
use Rattle.replies.proofs.reply.reply.Goals as goal

pub unwrap-requires : goal.unwrap-requires
unwrap-requires c =
    ap is_ok (whole c.args.message.now c.args.code c.args.out.now c.write.new.out c.write.result c.requires.1.0 c.requires.1.1 c.requires.0 c.write.ensures).answered

pub returns : goal.returns
returns c =
    let m = c.args.message.now in
    let w = whole m c.args.code c.args.out.now c.write.new.out c.write.result c.requires.1.0 c.requires.1.1 c.requires.0 c.write.ensures in
    let long : c.unwrap.result ≡ length (answer (bytes_of m) c.args.code) = same_ok (sym c.unwrap.ensures ∙ w.answered) in
    record {
      long = long;
      short = omega (arith, w.short);
      written = w.written;
      reads = subst (λ n. Reads (bytes_of m) c.args.code (take n c.write.new.out)) (sym long) w.reads;
    }
