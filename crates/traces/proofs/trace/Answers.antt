use Rattle.rsolver.specs.Trace.{trace_text, trace_call}
use Rattle.solver_expr.proofs.BookCalls.{book_good, call_refused, call_good}
use Rattle.traces.specs.Call.{trace_in}
use Rattle.traces.proofs.trace.Goals as goal

pub trace_in-requires : goal.trace_in-requires
trace_in-requires c = book_good _ _ c.book_test.ensures c.in_ok-book_test.was

pub returns-in_err-book_test : goal.returns-in_err-book_test
unfolding trace_call trace_text
returns-in_err-book_test c = call_refused _ _ c.book_test.ensures _ _ _ c.in_err-book_test.was c.from_residual.ensures.1

pub returns : goal.returns
unfolding trace_call trace_text trace_in
returns c = call_good _ _ c.book_test.ensures c.in_ok-book_test.was c.trace_in.ensures
