use mathlib.Core.Bool.{true}
use mathlib.Core.Path.{◌≡◌}
use Rattle.basics.specs.Lists.{all_below}
use Rattle.book_depth.specs.Depth.{is_shallow}
use Rattle.book_depth.proofs.Path.{Known}
use Rattle.book_depth.proofs.shallow.Given as goal

abbrev pub invariant-loop-i : goal.invariant-loop-i
invariant-loop-i l = (all_below l.i (is_shallow l.book) ≡ true) × Known l.book l.depths l.i
