use native.Mathlib.Omega.{arith}
use mathlib.Core.Path.{◌∙◌}
use Rattle.number_lists.specs.Numbers.{numbers}
use Rattle.number_lists.proofs.Numbers as number-lists
use Rattle.question_lists.proofs.Places.{counted, node_at, goal_at, goal_cut}
use Rattle.question_lists.proofs.question_at.Goals as goal

pub overflow_mul-at : goal.overflow_mul-at
overflow_mul-at c = omega (arith, (counted (numbers c.args.list.now)).close, (number-lists.counted c.args.list.now).close, c.requires)

pub number_at-node-requires : goal.number_at-node-requires
number_at-node-requires c = omega (arith, (counted (numbers c.args.list.now)).close, c.requires)

pub overflow_add-at : goal.overflow_add-at
overflow_add-at c = omega (arith, (counted (numbers c.args.list.now)).close, (number-lists.counted c.args.list.now).close, c.requires)

pub returns-then-at-number_count-clause-node : goal.returns-then-at-number_count-clause-node
returns-then-at-number_count-clause-node c = c.number_at-node.ensures ∙ node_at _ _ c.requires

pub returns-then-at-number_count-clause-goal : goal.returns-then-at-number_count-clause-goal
returns-then-at-number_count-clause-goal c = c.number_at-goal.ensures ∙ goal_at _ _ (omega (arith, c.number_count.ensures, c.if-at-number_count.true))

pub returns-else-at-number_count-clause-node : goal.returns-else-at-number_count-clause-node
returns-else-at-number_count-clause-node c = c.number_at-node.ensures ∙ node_at _ _ c.requires

pub returns-else-at-number_count-clause-goal : goal.returns-else-at-number_count-clause-goal
returns-else-at-number_count-clause-goal c = goal_cut _ _ c.requires (omega (arith, c.number_count.ensures, c.if-at-number_count.false))
