use Rattle.std.proofs.Common.{◌∙◌}
use Rattle.smt_engines.specs.SmtEngines.{CMD_PUSH, CMD_POP, CMD_CHECK_SAT, CMD_GET_MODEL}
use Rattle.command_lines.proofs.Slices.{pointwise_same}
use Rattle.command_lines.proofs.Telling.{kind_push, kind_pop, kind_check, kind_model, kind_context}
use Rattle.command_lines.proofs.kinds.line_kind.Goals as goal

pub returns-then-eq : goal.returns-then-eq
unfolding CMD_PUSH
returns-then-eq c = kind_push _ (c.eq.ensures ∙ pointwise_same _ _) c.if-eq.true

pub returns-then-eq-2 : goal.returns-then-eq-2
unfolding CMD_PUSH CMD_POP
returns-then-eq-2 c = kind_pop _ (c.eq.ensures ∙ pointwise_same _ _) c.if-eq.false (c.eq-else-eq.ensures ∙ pointwise_same _ _) c.if-eq-2.true

pub returns-then-eq-3 : goal.returns-then-eq-3
unfolding CMD_PUSH CMD_POP CMD_CHECK_SAT
returns-then-eq-3 c = kind_check _ (c.eq.ensures ∙ pointwise_same _ _) c.if-eq.false (c.eq-else-eq.ensures ∙ pointwise_same _ _) c.if-eq-2.false (c.eq-else-eq-2.ensures ∙ pointwise_same _ _) c.if-eq-3.true

pub returns-then-eq-4 : goal.returns-then-eq-4
unfolding CMD_PUSH CMD_POP CMD_CHECK_SAT CMD_GET_MODEL
returns-then-eq-4 c = kind_model _ (c.eq.ensures ∙ pointwise_same _ _) c.if-eq.false (c.eq-else-eq.ensures ∙ pointwise_same _ _) c.if-eq-2.false (c.eq-else-eq-2.ensures ∙ pointwise_same _ _) c.if-eq-3.false (c.eq-else-eq-3.ensures ∙ pointwise_same _ _) c.if-eq-4.true

pub returns-then-is_context : goal.returns-then-is_context
unfolding CMD_PUSH CMD_POP CMD_CHECK_SAT CMD_GET_MODEL
returns-then-is_context c = kind_context _ _ (c.eq.ensures ∙ pointwise_same _ _) c.if-eq.false (c.eq-else-eq.ensures ∙ pointwise_same _ _) c.if-eq-2.false (c.eq-else-eq-2.ensures ∙ pointwise_same _ _) c.if-eq-3.false (c.eq-else-eq-3.ensures ∙ pointwise_same _ _) c.if-eq-4.false c.is_context.ensures (rw c.if-is_context.true)

pub returns-else-is_context : goal.returns-else-is_context
unfolding CMD_PUSH CMD_POP CMD_CHECK_SAT CMD_GET_MODEL
returns-else-is_context c = kind_context _ _ (c.eq.ensures ∙ pointwise_same _ _) c.if-eq.false (c.eq-else-eq.ensures ∙ pointwise_same _ _) c.if-eq-2.false (c.eq-else-eq-2.ensures ∙ pointwise_same _ _) c.if-eq-3.false (c.eq-else-eq-3.ensures ∙ pointwise_same _ _) c.if-eq-4.false c.is_context.ensures (rw c.if-is_context.false)
