use Rattle.std.proofs.Common.{sym, rules}
use Rattle.iso8583.proofs.Strangers.{strange_refused, empty_refused, all_known}
use Rattle.iso8583.proofs.bitmap.known_marks.Goals as goal

pub returns-then-strange-ne0 : goal.returns-then-strange-ne0
returns-then-strange-ne0 c = search (rules, strange_refused)

pub returns-then-second_is_empty : goal.returns-then-second_is_empty
returns-then-second_is_empty c = let e = sym c.if-second_is_empty.ensures in search (rules, empty_refused)

pub returns : goal.returns
returns c = let e = sym c.if-second_is_empty.ensures in search (rules, all_known)
