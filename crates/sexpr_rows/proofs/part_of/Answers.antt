use Rattle.sexpr_rows.proofs.Parts.{bindings_only}
use Rattle.sexpr_rows.proofs.Turns.{place_as, element_as}
use Rattle.sexpr_rows.proofs.part_of.Goals as goal

pub negation_part-requires : goal.negation_part-requires
negation_part-requires c = place_as _ c.in-Negation.is c.requires

pub minus_part-requires : goal.minus_part-requires
minus_part-requires c = place_as _ c.in-Minus.is c.requires

pub appl_part-requires : goal.appl_part-requires
appl_part-requires c = place_as _ c.in-Appl.is c.requires

pub ite_part-requires : goal.ite_part-requires
ite_part-requires c = place_as _ c.in-Ite.is c.requires

pub let_part-requires : goal.let_part-requires
let_part-requires c = place_as _ c.in-Let.is c.requires

pub binding_part-requires : goal.binding_part-requires
binding_part-requires c = place_as _ c.in-Binding.is c.requires

pub quantifier_part-requires : goal.quantifier_part-requires
quantifier_part-requires c = place_as _ c.in-Quantifier.is c.requires

pub vars_part-requires : goal.vars_part-requires
vars_part-requires c = place_as _ c.in-BoundVars.is c.requires

pub var_part-requires : goal.var_part-requires
var_part-requires c = place_as _ c.in-BoundVar.is c.requires

pub annotated_part-requires : goal.annotated_part-requires
annotated_part-requires c = place_as _ c.in-Annotated.is c.requires

pub terms_part-requires : goal.terms_part-requires
terms_part-requires c = place_as _ c.in-Terms.is c.requires

pub types_part-requires : goal.types_part-requires
types_part-requires c = place_as _ c.in-Types.is c.requires

pub returns-in-Negation : goal.returns-in-Negation
returns-in-Negation c = element_as _ c.in-Negation.is c.negation_part.ensures

pub returns-in-Minus : goal.returns-in-Minus
returns-in-Minus c = element_as _ c.in-Minus.is c.minus_part.ensures

pub returns-in-Appl : goal.returns-in-Appl
returns-in-Appl c = element_as _ c.in-Appl.is c.appl_part.ensures

pub returns-in-Ite : goal.returns-in-Ite
returns-in-Ite c = element_as _ c.in-Ite.is c.ite_part.ensures

pub returns-in-Let : goal.returns-in-Let
returns-in-Let c = element_as _ c.in-Let.is c.let_part.ensures

pub returns-in-Bindings : goal.returns-in-Bindings
returns-in-Bindings c = element_as _ c.in-Bindings.is (bindings_only _ _ _ (place_as _ c.in-Bindings.is c.requires))

pub returns-in-Binding : goal.returns-in-Binding
returns-in-Binding c = element_as _ c.in-Binding.is c.binding_part.ensures

pub returns-in-Quantifier : goal.returns-in-Quantifier
returns-in-Quantifier c = element_as _ c.in-Quantifier.is c.quantifier_part.ensures

pub returns-in-BoundVars : goal.returns-in-BoundVars
returns-in-BoundVars c = element_as _ c.in-BoundVars.is c.vars_part.ensures

pub returns-in-BoundVar : goal.returns-in-BoundVar
returns-in-BoundVar c = element_as _ c.in-BoundVar.is c.var_part.ensures

pub returns-in-Annotated : goal.returns-in-Annotated
returns-in-Annotated c = element_as _ c.in-Annotated.is c.annotated_part.ensures

pub returns-in-Terms : goal.returns-in-Terms
returns-in-Terms c = element_as _ c.in-Terms.is c.terms_part.ensures

pub returns-in-Types : goal.returns-in-Types
returns-in-Types c = element_as _ c.in-Types.is c.types_part.ensures
