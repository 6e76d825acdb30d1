use Rattle.std.proofs.lemmas.Result.{err_from_is_err_and}
use Rattle.solvers.proofs.Returned.{stops, passes, book_good}
use Rattle.nodes_test.proofs.Calls.{call_stops, call_passes}
use Rattle.nodes_test.proofs.nodes_test.Goals as goal

pub test_in-requires : goal.test_in-requires
test_in-requires c = book_good _ _ c.book_test.ensures.0 c.in_ok-book_test.was

pub returns-in_err-book_test : goal.returns-in_err-book_test
returns-in_err-book_test c =
    let p = err_from_is_err_and c.from_residual.result c.from_residual.ensures.1 in
    rw (p.1, p.2) (call_stops _ _ _ c.book_test.ensures.1 _ (stops _ _ c.book_test.ensures.0 c.in_err-book_test.was))

pub returns : goal.returns
returns c = call_passes _ _ _ c.book_test.ensures.1 c.test_in.result (passes _ _ c.book_test.ensures.0 c.in_ok-book_test.was) c.test_in.ensures
