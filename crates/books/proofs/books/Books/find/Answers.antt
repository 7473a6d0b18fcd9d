use Rattle.books.proofs.Bounds.{found_small}
use Rattle.books.proofs.books.Books.find.Goals as goal

pub returns-clause-size : goal.returns-clause-size
returns-clause-size c = found_small c.args.self.now.journal.places c.args.number c.find.result c.args.self.now.small c.find.ensures
