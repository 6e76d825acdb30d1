use mathlib.Core.Path.{refl}
use mathlib.Core.List.{[]}
use Rattle.std.proofs.lemmas.Result.{err_from_is_err_and}
use Rattle.solvers.specs.Calls.{model_with, host_of, call, model_call, fitting}
use Rattle.solvers.specs.Returned.{lent, lent_text}
use Rattle.solvers.proofs.Returned.{book_good, call_stops, call_passes}
use Rattle.replies.specs.Replies.{model_in, model_owed}
use Rattle.replies.proofs.model.model_mut.Goals as goal

pub model_in-requires : goal.model_in-requires
model_in-requires c = book_good _ _ c.book_test.ensures.0 c.in_ok-book_test.was

pub returns-in_err-book_test : goal.returns-in_err-book_test
unfolding host_of call model_call model_in model_owed fitting
returns-in_err-book_test c =
    let p = err_from_is_err_and c.from_residual.result c.from_residual.ensures.1 in
    rw (p.1, p.2) (call_stops _ _ (model_with (lent c.args.scratch.now c.args.text.now c.args.reason.now) c.args.reply.now (lent_text c.args.model)) (model_in c.args.book.now c.args.session.now (lent [] c.args.text.now c.args.reason.now) c.args.reply.now (lent_text c.args.model)) refl c.book_test.ensures c.in_err-book_test.was)

pub returns : goal.returns
unfolding host_of call model_call model_in model_owed fitting
returns c = call_passes _ _ (model_with (lent c.args.scratch.now c.args.text.now c.args.reason.now) c.args.reply.now (lent_text c.args.model)) (model_in c.args.book.now c.args.session.now (lent [] c.args.text.now c.args.reason.now) c.args.reply.now (lent_text c.args.model)) refl c.book_test.ensures c.in_ok-book_test.was c.model_in.ensures
