use Rattle.number_lists.specs.Numbers.{numbers}
use Rattle.question_lists.specs.Questions.{questions_of}
use Rattle.question_lists.proofs.Complete.{Asking}
use Rattle.question_lists.proofs.all_complete.Given as goal

abbrev pub invariant-loop-i : goal.invariant-loop-i
invariant-loop-i l = Asking l.book (questions_of (numbers l.list)) l.i l.at l.levels
