use Rattle.std.proofs.lemmas.Result.{err_from_is_err_and}
use Rattle.solvers.specs.Calls.{model_with}
use Rattle.solvers.specs.Returned.{lent, lent_text}
use Rattle.image_calls.proofs.OnImages.{stopped, room, stored}
use Rattle.image_calls.proofs.model_image.Goals as goal

pub returns-in_err-answer : goal.returns-in_err-answer
returns-in_err-answer c =
    let p = err_from_is_err_and c.from_residual.result c.from_residual.ensures.1 in
    rw (p.1, p.2) (stopped c.args.book.now c.args.image.now (model_with (lent c.args.scratch.now c.args.text.now c.args.reason.now) c.args.reply.now (lent_text c.args.model)) c.load-session.ensures c.model_mut.ensures c.in_err-answer.was)

pub save-requires : goal.save-requires
save-requires c = room c.args.book.now c.args.image.now (model_with (lent c.args.scratch.now c.args.text.now c.args.reason.now) c.args.reply.now (lent_text c.args.model)) c.load-session.ensures c.model_mut.ensures c.in_ok-answer.was

pub returns : goal.returns
returns c = stored c.args.book.now c.args.image.now (model_with (lent c.args.scratch.now c.args.text.now c.args.reason.now) c.args.reply.now (lent_text c.args.model)) c.load-session.ensures c.model_mut.ensures c.in_ok-answer.was c.save.ensures
