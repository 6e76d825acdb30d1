use Rattle.std.specs.Prelude.{Ok, Err}
use native.Mathlib.Omega.{arith}
use mathlib.Core.Path.{◌≡◌, refl, sym, ap, ◌∙◌}
use borrow.Author.Rules.{rules}
use Rattle.book_writer.specs.Growths.{outside, handed_right, number_of}
use Rattle.book_writer.specs.Coded.{grow_below}
use Rattle.book_writer.proofs.Calls.{ready_for, call_refused, call_outside, call_good, is_outside, is_inside}
use Rattle.book_writer.specs.Growths.{append_node}
use Rattle.book_writer.proofs.Additions.{whole_as, append_as, node_added}
use Rattle.book_writer.proofs.record_calls.append_node.Goals as goal

pub returns-in_err-book_test : goal.returns-in_err-book_test
returns-in_err-book_test c = call_refused _ _ _ _ c.in_err-book_test.ensures (search rules)

pub inside-requires : goal.inside-requires
inside-requires c = (ready_for _ _ c.in_ok-book_test.ensures).promise

pub returns-in_err-inside : goal.returns-in_err-inside
unfolding outside
returns-in_err-inside c =
    let o = is_outside _ c.in_err-inside.ensures in
    call_outside _ _ _ _ c.in_ok-book_test.ensures o.0 (let e : c.from_residual-in_err-inside.result ≡ Err c.in_err-inside.field-0.0 = search rules in e ∙ ap Err o.1)

pub next_node-requires : goal.next_node-requires
next_node-requires c = (ready_for _ _ c.in_ok-book_test.ensures).promise

pub append-requires : goal.append-requires
append-requires c = (ready_for _ _ c.in_ok-book_test.ensures, whole_as c.args.book.now (append_node c.args.parent c.args.term c.args.trace) (node_added _ _ _ _ c.row-contexts.ensures))

pub returns : goal.returns
unfolding outside grow_below handed_right number_of
returns c = call_good _ _ (append_node c.args.parent c.args.term c.args.trace) _ c.in_ok-book_test.ensures (is_inside _ c.in_ok-inside.ensures) (append_as _ _ _ (node_added _ _ _ _ c.row-contexts.ensures) c.next_node.ensures c.append.ensures)
