use Rattle.number_lists.specs.Numbers.{numbers}
use Rattle.nodes_test.proofs.Failing.{Moving}
use Rattle.nodes_test.proofs.first_failing.Given as goal

abbrev pub invariant-loop-i : goal.invariant-loop-i
invariant-loop-i l = Moving l.book (numbers l.nodes) l.i l.at l.levels
