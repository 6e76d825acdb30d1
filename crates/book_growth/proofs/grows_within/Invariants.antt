use mathlib.Core.Path.{◌≡◌}
use mathlib.Core.Bool.{true}
use Rattle.basics.specs.Lists.{all_below}
use Rattle.book_growth.specs.Growth.{grows_by}
use Rattle.book_growth.specs.Parts.{addition_by}
use Rattle.book_growth.proofs.grows_within.Given as goal

abbrev pub invariant-loop-section : goal.invariant-loop-section
invariant-loop-section l = all_below l.section (grows_by l.book (addition_by l.more)) ≡ true
