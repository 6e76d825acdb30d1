use Rattle.solver_expr.specs.Values.{FineRow}
use Rattle.sexpr_rows.proofs.Parts.{body_ready, quantifier_head, quantifier_vars, quantifier_body}
use Rattle.sexpr_rows.proofs.quantifier_part.Goals as goal

pub quantifier_word-requires : goal.quantifier_word-requires
unfolding FineRow
quantifier_word-requires c = record { promise = c.requires.promise; here = c.requires.fine.here }

pub body_part-requires : goal.body_part-requires
body_part-requires c = body_ready _ _ _ c.requires c.in_default.in_default-own.rest.0.1 c.in_default.in_default-own.rest.1

pub returns-in-0 : goal.returns-in-0
returns-in-0 c = quantifier_head _ _ c.in-0.is c.quantifier_word.ensures c.keyword.ensures

pub returns-in-1 : goal.returns-in-1
returns-in-1 c = quantifier_vars _ _ c.requires c.in-1.is

pub returns-in_default : goal.returns-in_default
returns-in_default c = quantifier_body _ _ _ c.requires c.in_default.in_default-own.rest.0.1 c.in_default.in_default-own.rest.1 c.body_part.ensures
