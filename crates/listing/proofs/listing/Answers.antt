use Rattle.std.proofs.Common.{of_calls}
use borrow.Author.Rules.{rules}
use native.Mathlib.Omega.{arith}
use Prim.Native.Nat.{◌<◌}
use Rattle.book.specs.Book.{terms, size}
use Rattle.contexts.specs.Path.{IsNode}
use Rattle.rsolver.specs.Listing.{listing_text, listing_call}
use Rattle.solver_expr.proofs.Answers.{answered_outside, answered_inside}
use Rattle.solver_expr.proofs.BookCalls.{book_good, call_refused, call_good}
use Rattle.listing.proofs.Outside.{no_node, no_goal, both_inside}
use Rattle.listing.proofs.listing.Goals as goal

pub count-requires : goal.count-requires
count-requires c = (omega arith, (book_good _ _ c.book_test.ensures c.in_ok-book_test.was).contexts_laid.contents)

pub returns-then-count-node : goal.returns-then-count-node
unfolding listing_call listing_text
returns-then-count-node c = call_good _ _ c.book_test.ensures c.in_ok-book_test.was (answered_outside _ _ (no_node c.args.book.now c.args.node c.args.goal (omega (arith, c.count.ensures.is, c.if-count-node.true))))

pub count-requires-2 : goal.count-requires-2
count-requires-2 c = (omega arith, (book_good _ _ c.book_test.ensures c.in_ok-book_test.was).terms_laid.contents)

pub returns-then-count-goal : goal.returns-then-count-goal
unfolding listing_call listing_text
returns-then-count-goal c = call_good _ _ c.book_test.ensures c.in_ok-book_test.was (answered_outside _ _ (no_goal c.args.book.now c.args.node c.args.goal (omega (arith, c.count.ensures.is, c.if-count-node.false)) (omega (arith, c.count-2.ensures.is, c.if-count-goal.true))))

pub fitted-requires : goal.fitted-requires
fitted-requires c = let h : (IsNode c.args.book.now c.args.node) × (c.args.goal < size c.args.book.now terms) = (record { promise = book_good _ _ c.book_test.ensures c.in_ok-book_test.was; inside = omega (arith, c.count.ensures.is, c.if-count-node.false) }, omega (arith, c.count-2.ensures.is, c.if-count-goal.false)) in search (of_calls, h)

pub returns-in_err-book_test : goal.returns-in_err-book_test
unfolding listing_call listing_text
returns-in_err-book_test c = call_refused _ _ c.book_test.ensures _ _ _ c.in_err-book_test.was c.from_residual.ensures.1

pub returns : goal.returns
unfolding listing_call listing_text
returns c = call_good _ _ c.book_test.ensures c.in_ok-book_test.was (answered_inside (both_inside c.args.book.now c.args.node c.args.goal (omega (arith, c.count.ensures.is, c.if-count-node.false)) (omega (arith, c.count-2.ensures.is, c.if-count-goal.false))) (c.fitted.ensures _ (λ p r q l h. search rules)))
