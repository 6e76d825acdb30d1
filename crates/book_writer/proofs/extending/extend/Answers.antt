use Rattle.std.specs.Prelude.{Ok, Err}
use native.Mathlib.Omega.{arith}
use mathlib.Core.Path.{◌≡◌, refl, sym, ap, ◌∙◌}
use borrow.Author.Rules.{rules}
use Rattle.book_writer.specs.Growths.{outside, handed_right, number_of}
use Rattle.book_writer.specs.Coded.{grow_below}
use Rattle.book_writer.proofs.Calls.{ready_for, call_refused, call_outside, call_good, is_outside, is_inside}
use denote.Bor.{Bor}
use Rattle.basics.specs.Text.{Text}
use Rattle.new_records.specs.Drafts.{all_letters}
use Rattle.new_records.specs.NewNames.{maybe_text}
use Rattle.book_writer.specs.Growths.{extend}
use Rattle.book_writer.proofs.Additions.{whole_as, append_as, extend_added, text_now}
use Rattle.book_writer.proofs.extending.extend.Goals as goal

pub returns-in_err-book_test : goal.returns-in_err-book_test
returns-in_err-book_test c = call_refused _ _ _ _ c.in_err-book_test.ensures (search rules)

pub inside-requires : goal.inside-requires
inside-requires c = (ready_for _ _ c.in_ok-book_test.ensures).promise

pub returns-in_err-inside : goal.returns-in_err-inside
unfolding outside
returns-in_err-inside c =
    let o = is_outside _ c.in_err-inside.ensures in
    call_outside _ _ _ _ c.in_ok-book_test.ensures o.0 (let e : c.from_residual-in_err-inside.result ≡ Err c.in_err-inside.field-0.0 = search rules in e ∙ ap Err o.1)

pub traced-field-requires : goal.traced-field-requires
traced-field-requires c = (ready_for _ _ c.in_ok-book_test.ensures).promise

pub count-requires : goal.count-requires
count-requires c = (omega arith, omega (arith, (ready_for _ _ c.in_ok-book_test.ensures).promise.letters_laid.contents))

pub name_parts-parts-requires : goal.name_parts-parts-requires
name_parts-parts-requires c = (omega (arith, c.count.ensures.is, (ready_for _ _ c.in_ok-book_test.ensures).promise.letters_laid.few), unfold all_letters in omega arith)

pub next_node-requires : goal.next_node-requires
next_node-requires c = (ready_for _ _ c.in_ok-book_test.ensures).promise

pub append-requires : goal.append-requires
append-requires c = (ready_for _ _ c.in_ok-book_test.ensures, whole_as c.args.book.now (extend c.args.parent c.args.term (maybe_text c.args.trace)) (extend_added _ _ _ _ c.count.ensures.is c.traced-field.ensures c.name_parts-parts.ensures (ap (λ (t : Bor Text). t.now) c.unwrap_or.ensures ∙ text_now c.traced-field.result.1 _ refl) c.as_slice.ensures.value c.row-contexts.ensures))

pub returns : goal.returns
unfolding outside grow_below handed_right number_of
returns c = call_good _ _ (extend c.args.parent c.args.term (maybe_text c.args.trace)) _ c.in_ok-book_test.ensures (is_inside _ c.in_ok-inside.ensures) (append_as _ _ _ (extend_added _ _ _ _ c.count.ensures.is c.traced-field.ensures c.name_parts-parts.ensures (ap (λ (t : Bor Text). t.now) c.unwrap_or.ensures ∙ text_now c.traced-field.result.1 _ refl) c.as_slice.ensures.value c.row-contexts.ensures) c.next_node.ensures c.append.ensures)
