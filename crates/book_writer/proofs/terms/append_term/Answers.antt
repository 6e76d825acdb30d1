use Rattle.std.specs.Prelude.{Ok, Err}
use native.Mathlib.Omega.{arith}
use mathlib.Core.Path.{◌≡◌, refl, sym, ap, ◌∙◌}
use borrow.Author.Rules.{rules}
use Rattle.book_writer.specs.Growths.{outside, handed_right, number_of}
use Rattle.book_writer.specs.Coded.{grow_below}
use Rattle.book_writer.proofs.Calls.{ready_for, call_refused, call_outside, call_good, is_outside, is_inside}
use lib.Seq.{length-take-le}
use Rattle.book_writer.specs.Growths.{append_term}
use Rattle.book_writer.specs.Coded.{fields_of}
use Rattle.book_writer.proofs.Fields.{listed_within}
use Rattle.book_writer.proofs.Additions.{whole_as, append_as, right_as, term_added}
use Rattle.book_writer.proofs.terms.append_term.Goals as goal

pub returns-in_err-book_test : goal.returns-in_err-book_test
returns-in_err-book_test c = call_refused _ _ _ _ c.in_err-book_test.ensures (search rules)

pub count-requires : goal.count-requires
count-requires c = (omega arith, omega (arith, (ready_for _ _ c.in_ok-book_test.ensures).promise.lists_laid.contents))

pub term_row-row-requires : goal.term_row-row-requires
term_row-row-requires c = (omega (arith, c.count.ensures.is, (ready_for _ _ c.in_ok-book_test.ensures).promise.lists_laid.few), omega (arith, c.well_formed))

pub count-number-requires : goal.count-number-requires
count-number-requires c = (omega arith, omega (arith, (ready_for _ _ c.in_ok-book_test.ensures).promise.terms_laid.contents))

pub slice_bounds-more-end-2 : goal.slice_bounds-more-end-2
slice_bounds-more-end-2 c = sym (length-take-le _ _ (listed_within _ _ c.listed-first_end.ensures))

pub slice_bounds-more-end-3 : goal.slice_bounds-more-end-3
slice_bounds-more-end-3 c = sym (length-take-le _ _ (listed_within _ _ c.listed-second_end.ensures))

pub append-requires : goal.append-requires
append-requires c = (ready_for _ _ c.in_ok-book_test.ensures, whole_as _ (append_term (fields_of c.args.term) c.args.first.now c.args.second.now) (term_added _ _ _ _ c.ranges_of-ranges.ensures c.count.ensures.is c.term_row-row.ensures c.listed-first_end.ensures c.listed-second_end.ensures))

pub returns : goal.returns
unfolding outside grow_below handed_right number_of
returns c = call_good _ _ (append_term (fields_of c.args.term) c.args.first.now c.args.second.now) _ c.in_ok-book_test.ensures refl (append_as _ _ _ (term_added _ _ _ _ c.ranges_of-ranges.ensures c.count.ensures.is c.term_row-row.ensures c.listed-first_end.ensures c.listed-second_end.ensures) c.count-number.ensures.is (right_as _ _ (fields_of c.args.term) _ _ _ _ c.ranges_of-ranges.ensures c.term_right-right.ensures c.append.ensures))
