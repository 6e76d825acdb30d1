use native.Mathlib.Omega.{arith}
use mathlib.Core.Path.{refl, sym, ap, ◌∙◌}
use borrow.Author.Rules.{rules}
use Rattle.solvers.proofs.NarrowImage.{length_narrow}
use Rattle.narrow_sessions.specs.Turned.{narrowed_in}
use Rattle.narrow_sessions.proofs.ForRoom.{room_fits}
use Rattle.std.proofs.lemmas.Result.{err_from_is_err_and}
use Rattle.solvers.proofs.Returned.{book_good}
use Rattle.narrow_sessions.proofs.OnImages.{stopped, no_room, not_turned, turned, narrows}
use Rattle.narrow_sessions.proofs.image_turns.narrow_image.Goals as goal

pub returns-in_err-book_test : goal.returns-in_err-book_test
returns-in_err-book_test c =
    let p = err_from_is_err_and c.from_residual.result c.from_residual.ensures.1 in
    rw (p.1, p.2) (stopped _ _ _ _ c.args.scratch.now c.args.narrow.now (narrows c.args.book.now c.args.scratch.now c.args.image.now c.args.narrow.now) c.book_test.ensures c.in_err-book_test.was)

pub returns-then-narrow-ne-NARROW_IMAGE : goal.returns-then-narrow-ne-NARROW_IMAGE
returns-then-narrow-ne-NARROW_IMAGE c = no_room _ _ _ _ c.args.scratch.now c.args.narrow.now (narrows c.args.book.now c.args.scratch.now c.args.image.now c.args.narrow.now) c.book_test.ensures c.in_ok-book_test.was (λ e. omega (arith, e, c.if-narrow-ne-NARROW_IMAGE.true))

pub narrow_in-requires : goal.narrow_in-requires
narrow_in-requires c = book_good _ _ c.book_test.ensures.0 c.in_ok-book_test.was

pub returns-in_err-turned : goal.returns-in_err-turned
returns-in_err-turned c =
    let p = err_from_is_err_and c.from_residual-in_err-turned.result c.from_residual-in_err-turned.ensures.1 in
    rw (p.1, p.2) (not_turned _ _ _ _ c.args.scratch.now c.args.narrow.now (narrows c.args.book.now c.args.scratch.now c.args.image.now c.args.narrow.now) c.book_test.ensures c.in_ok-book_test.was (omega (arith, c.if-narrow-ne-NARROW_IMAGE.false)) (c.narrow_in.ensures ∙ ap (narrowed_in c.args.book.now) c.load.ensures) c.in_err-turned.was)

pub returns : goal.returns
returns c = turned _ _ _ _ c.args.scratch.now c.args.narrow.now (narrows c.args.book.now c.args.scratch.now c.args.image.now c.args.narrow.now) c.book_test.ensures c.in_ok-book_test.was (omega (arith, c.if-narrow-ne-NARROW_IMAGE.false)) (c.narrow_in.ensures ∙ ap (narrowed_in c.args.book.now) c.load.ensures) c.in_ok-turned.was (length_narrow _ (search rules)) (c.save_narrow.ensures ∙ sym (room_fits _ _ _ _ (omega (arith, c.if-narrow-ne-NARROW_IMAGE.false)) refl))
