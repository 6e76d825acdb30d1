use Rattle.book.specs.declared.kind.Kind.TheVariants.{Boolean, Integer, CustomLiteral, Id, BuiltIn, Application, IfThenElse, LetExpr, QuantifierExpr}
use Rattle.book_terms.specs.Terms.{kind_in_range}
use Rattle.book_terms.proofs.Kind.{by_kind, no_kind}
use Rattle.book_terms.proofs.term_in_range.Goals as goal

pub returns-in_default : goal.returns-in_default
returns-in_default c = no_kind c.args.book.now c.args.t c.field.ensures.is c.in_default.ensures

pub returns-in-Boolean : goal.returns-in-Boolean
returns-in-Boolean c = rw (by_kind c.args.book.now c.args.t Boolean c.field.ensures.is (rw c.in-Boolean.is at c.in-Ok.ensures)) at c.boolean_in_range.ensures

pub returns-in-Integer : goal.returns-in-Integer
unfolding kind_in_range
returns-in-Integer c = rw (by_kind c.args.book.now c.args.t Integer c.field.ensures.is (rw c.in-Integer.is at c.in-Ok.ensures)) at c.uses.ensures

pub returns-in-CustomLiteral : goal.returns-in-CustomLiteral
returns-in-CustomLiteral c = rw (by_kind c.args.book.now c.args.t CustomLiteral c.field.ensures.is (rw c.in-CustomLiteral.is at c.in-Ok.ensures)) at c.literal_in_range.ensures

pub returns-in-Id : goal.returns-in-Id
returns-in-Id c = rw (by_kind c.args.book.now c.args.t Id c.field.ensures.is (rw c.in-Id.is at c.in-Ok.ensures)) at c.id_in_range.ensures

pub returns-in-BuiltIn : goal.returns-in-BuiltIn
returns-in-BuiltIn c = rw (by_kind c.args.book.now c.args.t BuiltIn c.field.ensures.is (rw c.in-BuiltIn.is at c.in-Ok.ensures)) at c.built_in_in_range.ensures

pub returns-in-Application : goal.returns-in-Application
returns-in-Application c = rw (by_kind c.args.book.now c.args.t Application c.field.ensures.is (rw c.in-Application.is at c.in-Ok.ensures)) at c.application_in_range.ensures

pub returns-in-IfThenElse : goal.returns-in-IfThenElse
returns-in-IfThenElse c = rw (by_kind c.args.book.now c.args.t IfThenElse c.field.ensures.is (rw c.in-IfThenElse.is at c.in-Ok.ensures)) at c.if_then_else_in_range.ensures

pub returns-in-LetExpr : goal.returns-in-LetExpr
returns-in-LetExpr c = rw (by_kind c.args.book.now c.args.t LetExpr c.field.ensures.is (rw c.in-LetExpr.is at c.in-Ok.ensures)) at c.let_expr_in_range.ensures

pub returns-in-QuantifierExpr : goal.returns-in-QuantifierExpr
returns-in-QuantifierExpr c = rw (by_kind c.args.book.now c.args.t QuantifierExpr c.field.ensures.is (rw c.in-QuantifierExpr.is at c.in-Ok.ensures)) at c.quantifier_in_range.ensures
