use Rattle.rules_steps.proofs.UsingLaws.{book_records}
use Rattle.rules_steps.proofs.terms.by_term.Goals as goal

pub derive-requires-clause-book : goal.derive-requires-clause-book
derive-requires-clause-book c = book_records c.args.pl.now.slots.now c.args.book.now c.requires.book
