use native.Mathlib.Omega.{arith}
use Rattle.basics.proofs.Laws.{wrote_then, wrote_as}
use Rattle.sexpr_names.proofs.NameText.{literal_text, literal-name, literal_type}
use Rattle.sexpr_names.proofs.put_literal.Goals as goal

pub field-requires : goal.field-requires
field-requires c = (omega arith, record { laid = c.requires.promise.terms_laid; here = c.requires.here.here; within = omega arith })

pub literal_front-front-requires : goal.literal_front-front-requires
literal_front-front-requires c = literal-name _ _ c.requires c.field.ensures.is

pub field-requires-2 : goal.field-requires-2
field-requires-2 c = (omega arith, record { laid = c.requires.promise.terms_laid; here = c.requires.here.here; within = omega arith })

pub literal_rest-rest-requires : goal.literal_rest-rest-requires
literal_rest-rest-requires c = literal_type _ _ c.requires c.field-2.ensures.is

pub returns : goal.returns
returns c = wrote_as (literal_text _ _ c.field.ensures.is c.field-2.ensures.is) (wrote_then c.well_formed.1.1.0.0 c.literal_front-front.ensures c.clip-k.ensures c.literal_rest-rest.ensures c.sum.ensures)
