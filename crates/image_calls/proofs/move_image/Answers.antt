use mathlib.Core.List.{[]}
use Rattle.std.proofs.lemmas.Result.{err_from_is_err_and}
use Rattle.solvers.specs.Calls.{move_to}
use Rattle.solvers.specs.Returned.{lent}
use Rattle.image_calls.proofs.OnImages.{stopped, room, stored}
use Rattle.image_calls.proofs.move_image.Goals as goal

pub returns-in_err-answer : goal.returns-in_err-answer
returns-in_err-answer c =
    let p = err_from_is_err_and c.from_residual.result c.from_residual.ensures.1 in
    rw (p.1, p.2) (stopped c.args.book.now c.args.image.now (move_to (lent c.args.scratch.now c.args.text.now []) c.args.node) c.load-session.ensures c.move_mut.ensures c.in_err-answer.was)

pub save-requires : goal.save-requires
save-requires c = room c.args.book.now c.args.image.now (move_to (lent c.args.scratch.now c.args.text.now []) c.args.node) c.load-session.ensures c.move_mut.ensures c.in_ok-answer.was

pub returns : goal.returns
returns c = stored c.args.book.now c.args.image.now (move_to (lent c.args.scratch.now c.args.text.now []) c.args.node) c.load-session.ensures c.move_mut.ensures c.in_ok-answer.was c.save.ensures
