use native.Mathlib.Omega.{arith}
use Rattle.question_lists.proofs.Complete.{asking_start, asking_wide, asking_on, asking_more, asking_stop, asking_done}
use Rattle.question_lists.proofs.all_complete.Goals as goal

pub loop-i-init : goal.loop-i-init
loop-i-init c = asking_start _ _ c.blank-levels.ensures

pub slice_bounds-question-end : goal.slice_bounds-question-end
slice_bounds-question-end c = asking_wide _ _ c.requires.0 c.loop-i.invariant

pub question-done-requires : goal.question-done-requires
question-done-requires c = asking_on _ _ c.requires.0 c.loop-i.invariant c.requires.1 (omega (arith, c.question_count-i-end.ensures, c.loop-i-test.true)) c.question_at-asked.ensures.node c.question_at-asked.ensures.goal

pub returns-then-done : goal.returns-then-done
returns-then-done c = asking_stop _ _ c.requires.0 c.loop-i.invariant c.requires.1 (omega (arith, c.question_count-i-end.ensures, c.loop-i-test.true)) c.question_at-asked.ensures.node c.question_at-asked.ensures.goal c.question-done.ensures c.if-done.true

pub loop-i-preserved : goal.loop-i-preserved
loop-i-preserved c = asking_more _ _ c.requires.0 c.loop-i.invariant c.requires.1 (omega (arith, c.question_count-i-end.ensures, c.loop-i-test.true)) c.question_at-asked.ensures.node c.question_at-asked.ensures.goal c.question-done.ensures c.if-done.false

pub returns : goal.returns
returns c = asking_done _ _ c.loop-i.invariant (omega (arith, c.question_count-i-end.ensures, c.loop-i-test.false))
