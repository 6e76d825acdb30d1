use Rattle.sexpr_names.proofs.NameText.{ready_operator, ready_symbol, ready_literal, wrote_word, wrote_operator, wrote_symbol, wrote_numeral, wrote_literal, wrote_tag}
use Rattle.sexpr_names.proofs.name_to_string.Goals as goal

pub put_name-requires : goal.put_name-requires
put_name-requires c = ready_operator c.in-Operator.is c.requires

pub put_symbol-requires : goal.put_symbol-requires
put_symbol-requires c = ready_symbol c.in-Symbol.is c.requires

pub put_literal-requires : goal.put_literal-requires
put_literal-requires c = ready_literal c.in-Literal.is c.requires

pub returns-in-Word : goal.returns-in-Word
returns-in-Word c = wrote_word _ _ c.in-Word.is c.text.ensures c.put_all.ensures

pub returns-in-Operator : goal.returns-in-Operator
returns-in-Operator c = wrote_operator _ _ c.in-Operator.is c.put_name.ensures

pub returns-in-Symbol : goal.returns-in-Symbol
returns-in-Symbol c = wrote_symbol _ _ c.in-Symbol.is c.put_symbol.ensures

pub returns-in-Numeral : goal.returns-in-Numeral
returns-in-Numeral c = wrote_numeral _ _ c.in-Numeral.is c.put_u64.ensures

pub returns-in-Literal : goal.returns-in-Literal
returns-in-Literal c = wrote_literal _ _ c.in-Literal.is c.put_literal.ensures

pub returns-in-Tag : goal.returns-in-Tag
returns-in-Tag c = wrote_tag _ _ c.in-Tag.is c.put_u64-in-Tag.ensures
