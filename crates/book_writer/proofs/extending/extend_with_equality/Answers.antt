use Rattle.std.specs.Prelude.{Ok, Err}
use native.Mathlib.Omega.{arith}
use mathlib.Core.Path.{◌≡◌, refl, sym, ap, ◌∙◌}
use borrow.Author.Rules.{rules}
use Rattle.book_writer.specs.Growths.{outside, handed_right, number_of}
use Rattle.book_writer.specs.Coded.{grow_below}
use Rattle.book_writer.proofs.Calls.{ready_for, call_refused, call_outside, call_good, is_outside, is_inside}
use Rattle.new_records.specs.Naming.{equals}
use Rattle.new_records.proofs.Names.{handed_on}
use Rattle.book_writer.specs.Growths.{extend_with_equality}
use Rattle.book_writer.proofs.Additions.{whole_as, append_as, equated_added}
use Rattle.book_writer.proofs.extending.extend_with_equality.Goals as goal

pub returns-in_err-book_test : goal.returns-in_err-book_test
returns-in_err-book_test c = call_refused _ _ _ _ c.in_err-book_test.ensures (search rules)

pub inside-requires : goal.inside-requires
inside-requires c = (ready_for _ _ c.in_ok-book_test.ensures).promise

pub returns-in_err-inside : goal.returns-in_err-inside
unfolding outside
returns-in_err-inside c =
    let o = is_outside _ c.in_err-inside.ensures in
    call_outside _ _ _ _ c.in_ok-book_test.ensures o.0 (let e : c.from_residual-in_err-inside.result ≡ Err c.in_err-inside.field-0.0 = search rules in e ∙ ap Err o.1)

pub named-operator-requires : goal.named-operator-requires
named-operator-requires c = (ready_for _ _ c.in_ok-book_test.ensures).promise

pub count-requires : goal.count-requires
count-requires c = (omega arith, omega (arith, (ready_for _ _ c.in_ok-book_test.ensures).promise.letters_laid.contents))

pub name_parts-parts-requires : goal.name_parts-parts-requires
unfolding equals
name_parts-parts-requires c = (omega (arith, c.count.ensures.is, (ready_for _ _ c.in_ok-book_test.ensures).promise.letters_laid.few), rw (handed_on _ _ c.then_some.ensures) (omega (arith, c.named-operator.ensures.short)))

pub count-requires-2 : goal.count-requires-2
count-requires-2 c = (omega arith, omega (arith, (ready_for _ _ c.in_ok-book_test.ensures).promise.lists_laid.contents))

pub count-id-requires : goal.count-id-requires
count-id-requires c = (omega arith, omega (arith, (ready_for _ _ c.in_ok-book_test.ensures).promise.terms_laid.contents))

pub next_node-requires : goal.next_node-requires
next_node-requires c = (ready_for _ _ c.in_ok-book_test.ensures).promise

pub append-requires : goal.append-requires
unfolding equals
append-requires c = (ready_for _ _ c.in_ok-book_test.ensures, whole_as c.args.book.now (extend_with_equality c.args.parent c.args.constant c.args.term) (equated_added _ _ _ _ _ _ _ c.count.ensures.is c.count-2.ensures.is c.count-id.ensures.is refl c.named-operator.ensures (rw (handed_on _ _ c.then_some.ensures) at c.name_parts-parts.ensures) c.as_slice.ensures.value c.as_slice-2.ensures.value c.equality-terms.ensures c.row-contexts.ensures c.row-entries.ensures))

pub returns : goal.returns
unfolding outside grow_below handed_right number_of equals
returns c = call_good _ _ (extend_with_equality c.args.parent c.args.constant c.args.term) _ c.in_ok-book_test.ensures (is_inside _ c.in_ok-inside.ensures) (append_as _ _ _ (equated_added _ _ _ _ _ _ _ c.count.ensures.is c.count-2.ensures.is c.count-id.ensures.is refl c.named-operator.ensures (rw (handed_on _ _ c.then_some.ensures) at c.name_parts-parts.ensures) c.as_slice.ensures.value c.as_slice-2.ensures.value c.equality-terms.ensures c.row-contexts.ensures c.row-entries.ensures) c.next_node.ensures c.append.ensures)
