use mathlib.Core.List.{[]}
use Rattle.std.proofs.lemmas.Result.{err_from_is_err_and}
use Rattle.solvers.specs.Calls.{move_to, host_of}
use Rattle.solvers.specs.Returned.{lent}
use Rattle.solvers.proofs.Returned.{book_good, call_stops, call_passes}
use Rattle.moves.specs.Moves.{move_in}
use Rattle.moves.proofs.MoveCall.{is_call}
use Rattle.moves.proofs.moving.move_mut.Goals as goal

pub move_in-requires : goal.move_in-requires
move_in-requires c = book_good _ _ c.book_test.ensures.0 c.in_ok-book_test.was

pub returns-in_err-book_test : goal.returns-in_err-book_test
unfolding host_of
returns-in_err-book_test c =
    let p = err_from_is_err_and c.from_residual.result c.from_residual.ensures.1 in
    rw (p.1, p.2) (call_stops _ _ (move_to (lent c.args.scratch.now c.args.text.now []) c.args.node) (move_in c.args.book.now c.args.session.now (lent [] c.args.text.now []) c.args.node) (is_call c.args.book.now c.args.session.now c.args.node c.args.scratch.now c.args.text.now) c.book_test.ensures c.in_err-book_test.was)

pub returns : goal.returns
unfolding host_of
returns c = call_passes _ _ (move_to (lent c.args.scratch.now c.args.text.now []) c.args.node) (move_in c.args.book.now c.args.session.now (lent [] c.args.text.now []) c.args.node) (is_call c.args.book.now c.args.session.now c.args.node c.args.scratch.now c.args.text.now) c.book_test.ensures c.in_ok-book_test.was c.move_in.ensures
