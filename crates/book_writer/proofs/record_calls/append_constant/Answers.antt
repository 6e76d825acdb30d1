use Rattle.std.specs.Prelude.{Ok, Err}
use native.Mathlib.Omega.{arith}
use mathlib.Core.Path.{◌≡◌, refl, sym, ap, ◌∙◌}
use borrow.Author.Rules.{rules}
use Rattle.book_writer.specs.Growths.{outside, handed_right, number_of}
use Rattle.book_writer.specs.Coded.{grow_below}
use Rattle.book_writer.proofs.Calls.{ready_for, call_refused, call_outside, call_good, is_outside, is_inside}
use Rattle.book_writer.specs.Growths.{append_constant}
use Rattle.book_writer.proofs.Additions.{whole_as, append_as, constant_added}
use Rattle.book_writer.proofs.record_calls.append_constant.Goals as goal

pub returns-in_err-book_test : goal.returns-in_err-book_test
returns-in_err-book_test c = call_refused _ _ _ _ c.in_err-book_test.ensures (search rules)

pub count-number-requires : goal.count-number-requires
count-number-requires c = (omega arith, omega (arith, (ready_for _ _ c.in_ok-book_test.ensures).promise.constants_laid.contents))

pub append-requires : goal.append-requires
append-requires c = (ready_for _ _ c.in_ok-book_test.ensures, whole_as c.args.book.now (append_constant c.args.name c.args.typ) (constant_added _ _ _ c.row-constants.ensures))

pub returns : goal.returns
unfolding outside grow_below handed_right number_of
returns c = call_good _ _ (append_constant c.args.name c.args.typ) _ c.in_ok-book_test.ensures refl (append_as _ _ _ (constant_added _ _ _ c.row-constants.ensures) c.count-number.ensures.is c.append.ensures)
