use Prim.Native.Nat.{◌+◌, ◌*◌, ◌≤◌}
use mathlib.Core.Path.{◌≡◌}
use lib.ListN.{drop}
use Rattle.book.specs.Book.{sections, contents_size}
use Rattle.book_contents.specs.Contents.{laid_from}
-- the place grows by at most 28 bytes times a 32-bit count for each section
use Rattle.book_contents.proofs.in_order.Given as goal

abbrev pub invariant-loop-n : goal.invariant-loop-n
invariant-loop-n l = (l.at ≤ contents_size + 28 * 4294967296 * l.n) × (laid_from l.book l.at (drop l.n sections) ≡ laid_from l.book contents_size sections)
