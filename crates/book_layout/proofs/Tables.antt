-- The table of contents by the counts of the bodies.
use Prim.Native.Nat.{ℕ, zero, suc, ◌≤◌, ◌<◌}
use native.Mathlib.Omega.{arith}
use mathlib.Core.Path.{◌≡◌, refl}
use mathlib.Core.List.{List}
use lib.ListN.{get_or}
use Rattle.basics.specs.Lists.{join_below}
use Rattle.book.specs.Laid.{section_at, section_count}
use Rattle.book_layout.specs.Layout.{Bodies, count_of, start_of, entry_of, Fits}
use Rattle.book_layout.specs.Table.{start_by, line_by, table_by}
use Rattle.book_layout.proofs.Agree.{join_agree}

-- the table of bodies whose counts are these
module _ (f : Bodies) (F : Fits f) (counts : List ℕ) (are : (n : ℕ) → n < section_count → get_or counts n 0 ≡ count_of f (section_at n)) where
  start-by : (n : ℕ) → n ≤ section_count → start_of f n ≡ start_by counts n
  unfolding start_of start_by
  start-by zero h = refl
  start-by (suc n) h = rw (start-by n (omega arith), F.whole n h, are n h)

  line-by : (n : ℕ) → n < section_count → entry_of f n ≡ line_by counts n
  unfolding entry_of line_by
  line-by n h = rw (start-by n (omega arith), are n h)

  pub table-by : join_below section_count (entry_of f) ≡ table_by counts
  unfolding table_by
  table-by = join_agree section_count (entry_of f) (line_by counts) line-by
