use mathlib.Core.Path.{ap, ◌∙◌}
use Rattle.book.specs.Book.{name_text}
use Rattle.records.proofs.Readers.{reads_name}
use Rattle.records.proofs.named.Goals as goal

pub name-requires : goal.name-requires
name-requires c = rw c.field.ensures.is (reads_name c.requires.promise _ c.requires.inside)

pub returns : goal.returns
returns c = c.name.ensures ∙ ap (name_text _) c.field.ensures.is
