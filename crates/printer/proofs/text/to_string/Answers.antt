use Rattle.printer.proofs.RowText.{ready_name, ready_row, expr_name, expr_row}
use Rattle.printer.proofs.text.to_string.Goals as goal

pub name_to_string-requires : goal.name_to_string-requires
name_to_string-requires c = ready_name _ c.in-S.is c.requires

pub parts_to_string-rest-requires : goal.parts_to_string-rest-requires
parts_to_string-rest-requires c = ready_row _ c.in-PP.is c.requires

pub returns-in-S : goal.returns-in-S
returns-in-S c = expr_name _ _ c.in-S.is c.name_to_string.ensures

pub returns-in-PP : goal.returns-in-PP
returns-in-PP c = expr_row _ _ c.well_formed.1.1.1.1.0.0 c.in-PP.is c.put-open.ensures c.clip-k.ensures c.parts_to_string-rest.ensures c.sum.ensures
