use native.Mathlib.Omega.{arith}
use Rattle.basics.proofs.Bool.{passed, failed}
use Rattle.smt_engines.specs.SmtEngines.{CMD_CHECK_SAT}
use Rattle.command_lines.proofs.Slices.{check_line}
use Rattle.audit.proofs.Taking.{no_question, to_compare, agrees_here, differs_here}
use Rattle.std.proofs.lemmas.Bool.{not_from_false, not_from_true}
use Rattle.audit.proofs.compare.take_line.Goals as goal

pub returns-then-not-is_line : goal.returns-then-not-is_line
unfolding CMD_CHECK_SAT
returns-then-not-is_line c = no_question _ _ _ _ _ _ _ (failed c.is_line.ensures (not_from_false _ c.if-not-is_line.true))

pub question_at-requires : goal.question_at-requires
unfolding CMD_CHECK_SAT
question_at-requires c = (c.requires.asked (passed c.is_line.ensures (not_from_true _ c.if-not-is_line.false))).0

pub is_question-requires : goal.is_question-requires
unfolding CMD_CHECK_SAT
is_question-requires c = to_compare _ _ _ _ _ _ _ (passed c.is_line.ensures (not_from_true _ c.if-not-is_line.false)) c.question_at.ensures.node c.question_at.ensures.goal c.requires

pub overflow_add-result : goal.overflow_add-result
unfolding CMD_CHECK_SAT
overflow_add-result c = omega (arith, c.requires.counted)

pub returns-then-is_question : goal.returns-then-is_question
unfolding CMD_CHECK_SAT
returns-then-is_question c = agrees_here _ _ _ _ _ _ _ (passed c.is_line.ensures (not_from_true _ c.if-not-is_line.false)) c.question_at.ensures.node c.question_at.ensures.goal c.is_question.ensures c.if-is_question.true

pub returns : goal.returns
unfolding CMD_CHECK_SAT
returns c = differs_here _ _ _ _ _ _ _ (passed c.is_line.ensures (not_from_true _ c.if-not-is_line.false)) c.question_at.ensures.node c.question_at.ensures.goal c.is_question.ensures c.if-is_question.false

pub is_line-requires : goal.is_line-requires
unfolding CMD_CHECK_SAT
is_line-requires c = check_line
