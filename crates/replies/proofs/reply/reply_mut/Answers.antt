use mathlib.Core.Path.{refl}
use mathlib.Core.List.{[]}
use Rattle.std.specs.Prelude.{is_ok}
use Rattle.std.proofs.lemmas.Result.{err_from_is_err_and}
use Rattle.solvers.specs.Calls.{reply_with, host_of, call, reply_call, fitting}
use Rattle.solvers.specs.Returned.{lent, heard}
use Rattle.solvers.proofs.Returned.{book_good, call_stops, call_passes}
use Rattle.replies.specs.Replies.{reply_in}
use Rattle.replies.proofs.reply.reply_mut.Goals as goal

pub reply_in-requires : goal.reply_in-requires
reply_in-requires c = book_good _ _ c.book_test.ensures.0 c.in_ok-book_test.was

pub returns-in_err-book_test : goal.returns-in_err-book_test
unfolding host_of call reply_call reply_in fitting
returns-in_err-book_test c =
    let p = err_from_is_err_and c.from_residual.result c.from_residual.ensures.1 in
    rw (p.1, p.2) (call_stops _ _ (reply_with (lent c.args.scratch.now c.args.text.now c.args.reason.now) (is_ok c.args.check) (heard c.args.check)) (reply_in c.args.book.now c.args.session.now (lent [] c.args.text.now c.args.reason.now) (is_ok c.args.check) (heard c.args.check)) refl c.book_test.ensures c.in_err-book_test.was)

pub returns : goal.returns
unfolding host_of call reply_call reply_in fitting
returns c = call_passes _ _ (reply_with (lent c.args.scratch.now c.args.text.now c.args.reason.now) (is_ok c.args.check) (heard c.args.check)) (reply_in c.args.book.now c.args.session.now (lent [] c.args.text.now c.args.reason.now) (is_ok c.args.check) (heard c.args.check)) refl c.book_test.ensures c.in_ok-book_test.was c.reply_in.ensures
