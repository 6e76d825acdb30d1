use native.Mathlib.Omega.{arith}
use borrow.Author.Tests.{not-true, not-false}
use Rattle.session_test.proofs.Tests.{no_node, no_goal, unreachable, levels_tell, standing_fresh}
use Rattle.std.proofs.lemmas.Bool.{not_from_false, not_from_true}
use mathlib.Core.Path.{◌∙◌}
use Rattle.session_test.proofs.is_session.Goals as goal

pub returns-then-count-node : goal.returns-then-count-node
returns-then-count-node c = no_node _ c.requires _ (omega (arith, c.count.ensures.is, c.if-count-node.true))

pub returns-then-not-goal_fits : goal.returns-then-not-goal_fits
returns-then-not-goal_fits c = no_goal _ c.requires _ c.count-2.ensures.is c.goal_fits.ensures (not-true _ (not_from_false _ c.if-not-goal_fits.true))

pub set_context-done-requires : goal.set_context-done-requires
set_context-done-requires c = standing_fresh _ c.requires _ (omega (arith, c.count.ensures.is, c.if-count-node.false)) c.blank-levels.ensures

pub returns-else-not-done : goal.returns-else-not-done
returns-else-not-done c = c.if-not-done.false ∙ unreachable _ c.requires _ c.set_context-done.ensures.state.missing (not-false _ c.if-not-done.false)

pub returns-then-not-done : goal.returns-then-not-done
returns-then-not-done c = levels_tell _ c.requires _ (omega (arith, c.count.ensures.is, c.if-count-node.false)) c.count-2.ensures.is c.goal_fits.ensures (not-false _ (not_from_true _ c.if-not-goal_fits.false)) c.set_context-done.ensures.state.missing (not-true _ c.if-not-done.true) c.set_context-done.ensures.state.levels c.same.ensures
