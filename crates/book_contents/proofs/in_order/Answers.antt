use native.Mathlib.Nat.{mul-le-mul_right}
use native.Mathlib.Omega.{arith}
use mathlib.Core.Path.{refl, sym, ◌∙◌}
use Rattle.book.proofs.Sections.{tabled}
use Rattle.book_contents.proofs.Order.{order_stop, order_more, order_done}
-- the place grows by at most 28 bytes times a 32-bit count for each section
use borrow.Author.Rules.{rules}
use Rattle.book_contents.proofs.in_order.Goals as goal

pub loop-n-init : goal.loop-n-init
loop-n-init c = (search rules, refl)

pub returns-then-offset-at : goal.returns-then-offset-at
returns-then-offset-at c =
    sym (order_stop c.args.book.now c.loop-n.at c.loop-n.n (omega arith) (λ e. c.if-offset-at.true (c.offset.ensures.is ∙ e)))
    ∙ c.loop-n.invariant.1

pub overflow_mul-at : goal.overflow_mul-at
overflow_mul-at c = omega (arith, mul-le-mul_right c.count.result (tabled c.loop-n.n (omega arith)).narrow)

pub overflow_add-at : goal.overflow_add-at
overflow_add-at c = omega (arith, mul-le-mul_right c.count.result (tabled c.loop-n.n (omega arith)).narrow)

pub loop-n-preserved : goal.loop-n-preserved
loop-n-preserved c = (
  omega (arith, mul-le-mul_right c.count.result (tabled c.loop-n.n (omega arith)).narrow),
  rw c.count.ensures.is (order_more c.args.book.now c.loop-n.at c.loop-n.n (omega arith) (sym c.offset.ensures.is ∙ c.if-offset-at.false)) ∙ c.loop-n.invariant.1,
)

pub returns : goal.returns
returns c = sym (order_done c.args.book.now c.loop-n.at c.loop-n.n (omega arith)) ∙ c.loop-n.invariant.1
