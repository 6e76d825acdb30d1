use Rattle.book.proofs.Sections.{tabled}
use Rattle.book_contents.specs.Contents.{count_fits}
use Rattle.book_contents.proofs.count_fits.Goals as goal

pub returns : goal.returns
unfolding count_fits
returns c = rw (c.count.ensures.is, (tabled _ c.requires.1).most)
