use mathlib.Core.Path.{ap, ◌∙◌}
use Rattle.symbols.specs.Symbols.{is_name}
use Rattle.book.specs.Book.{name_text}
use Rattle.book_names.specs.Names.{record_named}
use Rattle.book_names.proofs.Looked.{reads_name}
use Rattle.book_names.proofs.record_named.Goals as goal

pub name-requires : goal.name-requires
name-requires c = rw c.field.ensures.is (reads_name _ c.requires.0 c.requires.1 _ (c.requires.2.named _ c.requires.3))

pub returns : goal.returns
unfolding record_named
returns c = c.is_name.ensures ∙ ap is_name (c.name.ensures ∙ ap (name_text _) c.field.ensures.is)
