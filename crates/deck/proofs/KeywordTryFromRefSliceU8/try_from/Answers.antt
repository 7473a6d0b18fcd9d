use Rattle.std.proofs.Common.{◌≡◌, codes, sym, ap, rules}
use Rattle.std.specs.Option.{ok_or}
use Rattle.std.proofs.lemmas.Slice.Eq.{text_from_reads}
use Rattle.deck.specs.Deck.{keyword_of}
use Rattle.deck.specs.declared.LineFault.TheVariants.{Command}
use Rattle.deck.proofs.KeywordTryFromRefSliceU8.try_from.Goals as goal

pub returns-in-message : goal.returns-in-message
returns-in-message c =
    let same : c.args.word.now ≡ codes "message" = text_from_reads _ _ (search rules) (search rules) in
    sym (ap (λ w. ok_or (keyword_of w) Command) same)
