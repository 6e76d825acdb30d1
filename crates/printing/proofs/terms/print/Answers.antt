use Rattle.std.proofs.Common.{of_calls}
use borrow.Author.Rules.{rules}
use native.Mathlib.Omega.{arith}
use borrow.Author.Tests.{le-leb, lt-leb}
use Rattle.book.specs.Book.{terms, size}
use Rattle.solver_expr.specs.Print.{print_text, print_call}
use Rattle.solver_expr.proofs.Answers.{answered_outside, answered_inside}
use Rattle.solver_expr.proofs.BookCalls.{book_good, call_refused, call_good}
use Rattle.printer.specs.Printing.{ReadyExpr}
use Rattle.printing.proofs.PrintCalls.{term_wrote}
use Rattle.printing.specs.Calls.{term_text}
use Rattle.printing.proofs.terms.print.Goals as goal

pub count-requires : goal.count-requires
count-requires c = (omega arith, (book_good _ _ c.book_test.ensures c.in_ok-book_test.was).terms_laid.contents)

pub returns-then-count-t : goal.returns-then-count-t
unfolding print_call print_text
returns-then-count-t c =
    let e = call_good _ _ c.book_test.ensures c.in_ok-book_test.was (answered_outside _ _ (le-leb (size c.args.book.now terms) c.args.t (omega (arith, c.count.ensures.is, c.if-count-t.true)))) in record { answer = e.0; text = e.1; scratch = e.2 }

pub to_sexpr-e-requires : goal.to_sexpr-e-requires
to_sexpr-e-requires c = record { promise = book_good _ _ c.book_test.ensures c.in_ok-book_test.was; here = omega (arith, c.count.ensures.is, c.if-count-t.false) }

pub fitted-requires : goal.fitted-requires
fitted-requires c = let h : ReadyExpr c.args.book.now c.to_sexpr-e.result = record { promise = book_good _ _ c.book_test.ensures c.in_ok-book_test.was; fine = c.to_sexpr-e.ensures.fine } in search (of_calls, h)

pub returns-in_err-book_test : goal.returns-in_err-book_test
unfolding print_call print_text
returns-in_err-book_test c =
    let e = call_refused _ _ c.book_test.ensures _ _ _ c.in_err-book_test.was c.from_residual.ensures.1 in record { answer = e.0; text = e.1; scratch = e.2 }

pub returns : goal.returns
unfolding print_call print_text term_text
returns c =
    let e = call_good _ _ c.book_test.ensures c.in_ok-book_test.was (answered_inside (lt-leb (size c.args.book.now terms) c.args.t (omega (arith, c.count.ensures.is, c.if-count-t.false))) (c.fitted.ensures _ (λ p r q l h. term_wrote _ c.to_sexpr-e.ensures (omega arith) (search rules)))) in record { answer = e.0; text = e.1; scratch = e.2 }
