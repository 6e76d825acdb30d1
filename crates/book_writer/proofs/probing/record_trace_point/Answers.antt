use Rattle.std.specs.Prelude.{Ok, Err}
use native.Mathlib.Omega.{arith}
use mathlib.Core.Path.{◌≡◌, refl, sym, ap, ◌∙◌}
use borrow.Author.Rules.{rules}
use Rattle.book_writer.specs.Growths.{outside, handed_right, number_of}
use Rattle.book_writer.specs.Coded.{grow_below}
use Rattle.book_writer.proofs.Calls.{ready_for, call_refused, call_outside, call_good, is_outside, is_inside}
use borrow.Author.Tests.{lt-ltb, le-ltb}
use Rattle.book.specs.Book.{contexts, size}
use Rattle.book_writer.specs.Growths.{record_trace_point}
use Rattle.book_writer.proofs.Probes.{pointed}
use Rattle.book_writer.proofs.probing.record_trace_point.Goals as goal

pub returns-in_err-book_test : goal.returns-in_err-book_test
returns-in_err-book_test c = call_refused _ _ _ _ c.in_err-book_test.ensures (search rules)

pub count-requires : goal.count-requires
count-requires c = (omega arith, omega (arith, (ready_for _ _ c.in_ok-book_test.ensures).promise.contexts_laid.contents))

pub returns-then-count-parent : goal.returns-then-count-parent
unfolding outside
returns-then-count-parent c = call_outside _ _ (record_trace_point c.args.parent c.args.trace.now) _ c.in_ok-book_test.ensures (lt-ltb (size c.args.book.now contexts) c.args.parent (omega (arith, c.count.ensures.is, c.if-count-parent.true))) refl

pub record_below-requires : goal.record_below-requires
record_below-requires c = (ready_for _ _ c.in_ok-book_test.ensures, omega (arith, c.count.ensures.is, c.if-count-parent.false))

pub returns : goal.returns
unfolding outside
returns c = call_good _ _ (record_trace_point c.args.parent c.args.trace.now) _ c.in_ok-book_test.ensures (le-ltb (size c.args.book.now contexts) c.args.parent (omega (arith, c.count.ensures.is, c.if-count-parent.false))) (pointed _ _ _ c.args.trace c.record_below.ensures)
