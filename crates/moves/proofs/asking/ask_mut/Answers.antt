use mathlib.Core.List.{[]}
use Rattle.std.proofs.lemmas.Result.{err_from_is_err_and}
use Rattle.solvers.specs.Calls.{ask_for, host_of}
use Rattle.solvers.specs.Returned.{lent}
use Rattle.solvers.proofs.Returned.{book_good, call_stops, call_passes}
use Rattle.moves.specs.Moves.{ask_in}
use Rattle.moves.proofs.AskCall.{is_call}
use Rattle.moves.proofs.asking.ask_mut.Goals as goal

pub ask_in-requires : goal.ask_in-requires
ask_in-requires c = book_good _ _ c.book_test.ensures.0 c.in_ok-book_test.was

pub returns-in_err-book_test : goal.returns-in_err-book_test
unfolding host_of
returns-in_err-book_test c =
    let p = err_from_is_err_and c.from_residual.result c.from_residual.ensures.1 in
    rw (p.1, p.2) (call_stops _ _ (ask_for (lent c.args.scratch.now c.args.text.now []) c.args.node c.args.goal) (ask_in c.args.book.now c.args.session.now (lent [] c.args.text.now []) c.args.node c.args.goal) (is_call c.args.book.now c.args.session.now c.args.node c.args.goal c.args.scratch.now c.args.text.now) c.book_test.ensures c.in_err-book_test.was)

pub returns : goal.returns
unfolding host_of
returns c = call_passes _ _ (ask_for (lent c.args.scratch.now c.args.text.now []) c.args.node c.args.goal) (ask_in c.args.book.now c.args.session.now (lent [] c.args.text.now []) c.args.node c.args.goal) (is_call c.args.book.now c.args.session.now c.args.node c.args.goal c.args.scratch.now c.args.text.now) c.book_test.ensures c.in_ok-book_test.was c.ask_in.ensures
