use borrow.Author.Tests.{lt-leb, le-leb}
use Rattle.book_contents.specs.Contents.{laid_out}
use Rattle.book_contents.proofs.laid_out.Goals as goal

pub returns-then-book-ge-CONTENTS : goal.returns-then-book-ge-CONTENTS
unfolding laid_out
returns-then-book-ge-CONTENTS c = rw (le-leb _ _ c.if-book-ge-CONTENTS.true) c.in_order.ensures

pub returns-else-book-ge-CONTENTS : goal.returns-else-book-ge-CONTENTS
unfolding laid_out
returns-else-book-ge-CONTENTS c = rw (lt-leb _ _ c.if-book-ge-CONTENTS.false)
