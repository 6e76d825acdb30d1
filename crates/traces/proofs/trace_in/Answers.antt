use borrow.Author.Rules.{rules}
use native.Mathlib.Omega.{arith}
use borrow.Author.Tests.{lt-ltb, le-ltb}
use Rattle.solver_expr.proofs.Answers.{measured, fitted_done, fitted_long, answered_outside, answered_inside}
use Rattle.book.specs.Book.{contexts, size}
use Rattle.traces.specs.Call.{trace_in}
use Rattle.traces.proofs.trace_in.Goals as goal

pub returns-then-count-node : goal.returns-then-count-node
unfolding trace_in
returns-then-count-node c = answered_outside _ _ (lt-ltb (size c.args.book.now contexts) c.args.node (omega (arith, c.count.ensures.is, c.if-count-node.true)))

pub returns : goal.returns
unfolding trace_in
returns c = answered_inside (le-ltb (size c.args.book.now contexts) c.args.node (omega (arith, c.count.ensures.is, c.if-count-node.false))) (c.fitted.ensures _ (λ p r q l h. search rules))
