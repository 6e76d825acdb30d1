use mathlib.Core.Path.{sym}
use Rattle.book.specs.contracts.kind.Kind.{the_type}
use denote.Enum.Bare.{same_false}
use Rattle.book.specs.declared.kind.Kind.TheVariants.{IfThenElse, LetExpr, QuantifierExpr}
use Rattle.book_forest.proofs.Children.{by_same, leaf_children, leaf_kind, kindless}
use Rattle.book_forest.proofs.Marking.{nothing}
use Rattle.book_forest.proofs.mark_term.Goals as goal

pub returns-in_default : goal.returns-in_default
returns-in_default c = rw (kindless c.args.book.now c.args.t c.field.result c.field.ensures.is c.in_default.ensures) (nothing _)

pub returns-then-eq-3 : goal.returns-then-eq-3
returns-then-eq-3 c = rw (by_same c.args.book.now c.args.t c.in-Ok.kind IfThenElse c.field.ensures.is c.in-Ok.ensures c.if-eq-3.ensures) at c.mark_if.ensures

pub returns-then-eq-4 : goal.returns-then-eq-4
returns-then-eq-4 c = rw (by_same c.args.book.now c.args.t c.in-Ok.kind LetExpr c.field.ensures.is c.in-Ok.ensures c.if-eq-4.ensures) at c.mark_let.ensures

pub returns-then-eq-5 : goal.returns-then-eq-5
returns-then-eq-5 c = rw (by_same c.args.book.now c.args.t c.in-Ok.kind QuantifierExpr c.field.ensures.is c.in-Ok.ensures c.if-eq-5.ensures) at c.mark_quantifier.ensures

pub returns : goal.returns
returns c =
    let no = leaf_kind c.in-Ok.kind (same_false the_type _ _ (sym c.if-eq.ensures)) (same_false the_type _ _ (sym c.if-eq-2.ensures)) (same_false the_type _ _ (sym c.if-eq-3.ensures)) (same_false the_type _ _ (sym c.if-eq-4.ensures))
    (same_false the_type _ _ (sym c.if-eq-5.ensures)) in
    rw (leaf_children c.args.book.now c.args.t c.field.result c.field.ensures.is c.in-Ok.ensures no) (nothing _)
