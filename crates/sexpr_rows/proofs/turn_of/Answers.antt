use native.Mathlib.Omega.{arith}
use mathlib.Core.Path.{refl}
use Rattle.sexpr_rows.proofs.Turns.{place_ready, known_stands, term_ready, term_stands, turn_end, turned}
use Rattle.sexpr_rows.proofs.turn_of.Goals as goal

pub returns-then-n-i : goal.returns-then-n-i
returns-then-n-i c = turn_end _ _ _ c.row_length-n.ensures c.if-n-i.true

pub part_of-requires : goal.part_of-requires
part_of-requires c = place_ready c.requires c.row_length-n.ensures c.if-n-i.false

pub to_sexpr-requires : goal.to_sexpr-requires
to_sexpr-requires c = term_ready c.part_of.ensures c.requires c.in-Term.is

pub returns-in-Known : goal.returns-in-Known
returns-in-Known c = turned _ _ _ c.row_length-n.ensures c.if-n-i.false (omega (arith, c.row_length-n.type_inv)) refl (known_stands c.part_of.ensures c.in-Known.is) c.turn_for.ensures

pub returns-in-Term : goal.returns-in-Term
returns-in-Term c = turned _ _ _ c.row_length-n.ensures c.if-n-i.false (omega (arith, c.row_length-n.type_inv)) refl (term_stands c.part_of.ensures c.in-Term.is c.to_sexpr.ensures) c.turn_for-in-Term.ensures
