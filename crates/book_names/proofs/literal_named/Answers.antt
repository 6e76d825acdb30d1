use native.Mathlib.Omega.{arith}
use mathlib.Core.Path.{ap, ◌∙◌}
use Rattle.book.specs.Book.{name_text}
use Rattle.book_names.proofs.Looked.{reads_name, tag_named, barred_text, plain_text}
use Rattle.book_names.proofs.literal_named.Goals as goal

pub name-s-requires : goal.name-s-requires
name-s-requires c = rw c.field.ensures.is (reads_name _ c.requires.0 c.requires.1 _ (c.requires.1.literal _ c.requires.2 c.requires.3))

pub returns-then-same : goal.returns-then-same
returns-then-same c = tag_named _ _ (c.name-s.ensures ∙ ap (name_text _) c.field.ensures.is) c.same.ensures c.if-same.true

pub returns-then-has_bar : goal.returns-then-has_bar
returns-then-has_bar c = barred_text _ _ (c.name-s.ensures ∙ ap (name_text _) c.field.ensures.is) c.same.ensures c.if-same.false c.has_bar.ensures c.if-has_bar.true

pub plain_type-requires : goal.plain_type-requires
plain_type-requires c = (c.requires.0, c.requires.1, omega (arith, c.field-typ.ensures.is, c.requires.1.literal_type _ c.requires.2 c.requires.3))

pub returns : goal.returns
returns c = plain_text _ _ (c.name-s.ensures ∙ ap (name_text _) c.field.ensures.is) c.same.ensures c.if-same.false c.has_bar.ensures c.if-has_bar.false c.field-typ.ensures.is c.plain_type.ensures
