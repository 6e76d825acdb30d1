use Rattle.basics.proofs.Places.{at_then}
use Rattle.book_layout.proofs.put_entry.Goals as goal

pub returns : goal.returns
returns c = at_then c.well_formed.1.1.1.0.0 c.put_word-next.ensures c.put_word.ensures
