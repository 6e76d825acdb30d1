use mathlib.Core.Path.{sym, ◌∙◌}
use Rattle.book_names.proofs.Looked.{no_literal, by_literal}
use Rattle.book_names.proofs.term_named.Goals as goal

pub returns-then-field : goal.returns-then-field
returns-then-field c = no_literal _ _ c.field.ensures.is c.if-field.true

pub literal_named-requires : goal.literal_named-requires
literal_named-requires c = (c.requires.0, c.requires.1, c.requires.2, sym c.field.ensures.is ∙ c.if-field.false)

pub returns : goal.returns
returns c = by_literal _ _ c.field.ensures.is c.if-field.false c.literal_named.ensures
