use Rattle.std.proofs.lemmas.Result.{err_from_is_err_and}
use Rattle.solvers.proofs.Returned.{book_good}
use Rattle.narrow_sessions.proofs.Behind.{widen_turn, turn_stops, turn_passes}
use Rattle.narrow_sessions.proofs.turning.widen.Goals as goal

pub widen_in-requires : goal.widen_in-requires
widen_in-requires c = book_good _ _ c.book_test.ensures.0 c.in_ok-book_test.was

pub returns-in_err-book_test : goal.returns-in_err-book_test
returns-in_err-book_test c =
    let p = err_from_is_err_and c.from_residual.result c.from_residual.ensures.1 in
    rw (p.1, p.2) (turn_stops _ c.args.scratch.now _ _ (widen_turn _ c.args.s.now c.args.scratch.now) c.book_test.ensures c.in_err-book_test.was)

pub returns : goal.returns
returns c = turn_passes _ c.args.scratch.now _ _ (widen_turn _ c.args.s.now c.args.scratch.now) c.book_test.ensures c.in_ok-book_test.was c.widen_in.ensures
