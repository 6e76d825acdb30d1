use native.Mathlib.Omega.{arith}
use mathlib.Core.Path.{ap, ◌∙◌}
use borrow.Author.Rules.{rules}
use Rattle.solvers.proofs.Image.{length_written}
use Rattle.narrow_sessions.specs.Turned.{widened_in}
use Rattle.std.proofs.lemmas.Result.{err_from_is_err_and}
use Rattle.solvers.proofs.Returned.{book_good}
use Rattle.narrow_sessions.proofs.OnImages.{stopped, no_room, not_turned, turned, widens}
use Rattle.narrow_sessions.proofs.image_turns.widen_image.Goals as goal

pub returns-in_err-book_test : goal.returns-in_err-book_test
returns-in_err-book_test c =
    let p = err_from_is_err_and c.from_residual.result c.from_residual.ensures.1 in
    rw (p.1, p.2) (stopped _ _ _ _ c.args.scratch.now c.args.image.now (widens c.args.book.now c.args.scratch.now c.args.narrow.now c.args.image.now) c.book_test.ensures c.in_err-book_test.was)

pub returns-then-image-ne-IMAGE : goal.returns-then-image-ne-IMAGE
returns-then-image-ne-IMAGE c = no_room _ _ _ _ c.args.scratch.now c.args.image.now (widens c.args.book.now c.args.scratch.now c.args.narrow.now c.args.image.now) c.book_test.ensures c.in_ok-book_test.was (λ e. omega (arith, e, c.if-image-ne-IMAGE.true))

pub widen_in-requires : goal.widen_in-requires
widen_in-requires c = book_good _ _ c.book_test.ensures.0 c.in_ok-book_test.was

pub returns-in_err-wide : goal.returns-in_err-wide
returns-in_err-wide c =
    let p = err_from_is_err_and c.from_residual-in_err-wide.result c.from_residual-in_err-wide.ensures.1 in
    rw (p.1, p.2) (not_turned _ _ _ _ c.args.scratch.now c.args.image.now (widens c.args.book.now c.args.scratch.now c.args.narrow.now c.args.image.now) c.book_test.ensures c.in_ok-book_test.was (omega (arith, c.if-image-ne-IMAGE.false)) (c.widen_in.ensures ∙ ap (widened_in c.args.book.now) c.load_narrow.ensures) c.in_err-wide.was)

pub returns : goal.returns
returns c = turned _ _ _ _ c.args.scratch.now c.args.image.now (widens c.args.book.now c.args.scratch.now c.args.narrow.now c.args.image.now) c.book_test.ensures c.in_ok-book_test.was (omega (arith, c.if-image-ne-IMAGE.false)) (c.widen_in.ensures ∙ ap (widened_in c.args.book.now) c.load_narrow.ensures) c.in_ok-wide.was (length_written _ (search rules)) c.save.ensures
