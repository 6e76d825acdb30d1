use native.Mathlib.Omega.{arith}
use lib.ListN.{length-take}
use Rattle.basics.proofs.Places.{at_length}
use Rattle.own_levels.proofs.Own.{root_levels, root_clear, long_enough, too_long, own_short, own_read}
use Rattle.own_levels.proofs.is_question.Goals as goal

pub question-done-requires : goal.question-done-requires
question-done-requires c = record { promise = c.requires.promise; from = omega arith; to = c.requires.inside; levels = root_levels _ c.blank-levels.ensures; clear = root_clear _; goal = c.requires.asked }

pub returns-then-at-end : goal.returns-then-at-end
returns-then-at-end c = too_long _ c.requires.promise _ _ c.requires.asked c.question-done.ensures.text c.requires (omega (arith, c.if-at-end.true))

pub overflow_sub-before : goal.overflow_sub-before
overflow_sub-before c = omega (arith, long_enough _ c.requires.promise _ _ c.requires.asked c.question-done.ensures.text)

pub slice_bounds-same_text-end : goal.slice_bounds-same_text-end
slice_bounds-same_text-end c = simp length-take (omega (arith, at_length c.question-done.ensures.text, c.blank_text-own.ensures, c.requires.room, c.if-at-end.false))

pub same_text-requires : goal.same_text-requires
same_text-requires c = own_short _ c.requires.promise _ _ c.requires.asked c.question-done.ensures.text c.blank_text-own.ensures (omega (arith, c.requires.room, c.if-at-end.false))

pub returns : goal.returns
returns c = c.same_text.ensures _ (own_read _ c.requires.promise _ _ c.requires.asked c.question-done.ensures.text c.blank_text-own.ensures (omega (arith, c.requires.room, c.if-at-end.false)))
