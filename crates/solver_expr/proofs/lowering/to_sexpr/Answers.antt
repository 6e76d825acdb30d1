use native.Mathlib.Omega.{arith}
use mathlib.Core.Path.{refl, sym}
use Rattle.solver_expr.proofs.Values.{literal_here, id_here, function_here, lowered_boolean, lowered_integer, lowered_literal, lowered_id, lowered_builtin, lowered_application, lowered_ite, lowered_let, lowered_quantifier, bared}
use Rattle.solver_expr.proofs.lowering.to_sexpr.Goals as goal

pub literal-requires : goal.literal-requires
literal-requires c = record { promise = c.requires.promise; here = literal_here _ c.requires.promise c.bare-x.ensures.here c.in-CustomLiteral.ensures refl }

pub id-requires : goal.id-requires
id-requires c = id_here _ c.requires.promise c.bare-x.ensures.here c.in-Id.ensures refl c.field-in-Id.ensures.is

pub overflow_cast-x : goal.overflow_cast-x
overflow_cast-x c = omega (arith, c.bare-x.ensures.here, c.requires.promise.terms_laid.few)

pub field-requires-in-Application : goal.field-requires-in-Application
field-requires-in-Application c = (omega arith, record { laid = c.requires.promise.functions_laid; here = function_here _ c.requires.promise c.bare-x.ensures.here c.in-Application.ensures refl c.field-f.ensures.is; within = omega arith })

pub overflow_cast-x-in-Application : goal.overflow_cast-x-in-Application
overflow_cast-x-in-Application c = omega (arith, c.bare-x.ensures.here, c.requires.promise.terms_laid.few)

pub returns-in-Boolean : goal.returns-in-Boolean
returns-in-Boolean c = bared _ c.bare-x.ensures (lowered_boolean _ c.requires.promise c.bare-x.ensures.here c.in-Boolean.ensures refl c.field.ensures.is c.boolean.ensures)

pub returns-in-Integer : goal.returns-in-Integer
returns-in-Integer c = bared _ c.bare-x.ensures (lowered_integer _ c.requires.promise c.bare-x.ensures.here c.in-Integer.ensures refl c.integer_bits.ensures c.integer.ensures)

pub returns-in-CustomLiteral : goal.returns-in-CustomLiteral
returns-in-CustomLiteral c = bared _ c.bare-x.ensures (lowered_literal _ c.requires.promise c.bare-x.ensures.here c.in-CustomLiteral.ensures refl c.literal.ensures)

pub returns-in-Id : goal.returns-in-Id
returns-in-Id c = bared _ c.bare-x.ensures (lowered_id _ c.requires.promise c.bare-x.ensures.here c.in-Id.ensures refl c.field-in-Id.ensures.is c.id.ensures)

pub returns-in-BuiltIn : goal.returns-in-BuiltIn
returns-in-BuiltIn c = bared _ c.bare-x.ensures (lowered_builtin _ c.requires.promise c.bare-x.ensures.here c.in-BuiltIn.ensures refl c.field-in-BuiltIn.ensures.is c.field-in-BuiltIn-2.ensures.is c.func_appl.ensures)

pub returns-in-Application : goal.returns-in-Application
returns-in-Application c = bared _ c.bare-x.ensures (lowered_application _ c.requires.promise c.bare-x.ensures.here c.in-Application.ensures refl c.field-f.ensures.is c.field-in-Application.ensures.is c.field-in-Application-2.ensures.is c.func_appl-in-Application.ensures)

pub returns-in-IfThenElse : goal.returns-in-IfThenElse
returns-in-IfThenElse c = bared _ c.bare-x.ensures (lowered_ite _ c.requires.promise c.bare-x.ensures.here c.in-IfThenElse.ensures refl)

pub returns-in-LetExpr : goal.returns-in-LetExpr
returns-in-LetExpr c = bared _ c.bare-x.ensures (lowered_let _ c.requires.promise c.bare-x.ensures.here c.in-LetExpr.ensures refl)

pub returns-in-QuantifierExpr : goal.returns-in-QuantifierExpr
returns-in-QuantifierExpr c = bared _ c.bare-x.ensures (lowered_quantifier _ c.requires.promise c.bare-x.ensures.here (sym c.in-QuantifierExpr.ensures) c.bare-x.ensures.some)
