use native.Mathlib.Omega.{arith}
use mathlib.Core.Path.{ap, ◌∙◌}
use Rattle.basics.specs.Text.{Text, same}
use Rattle.basics.proofs.Texts.{same_length}
use Rattle.book_test.proofs.Names.{name-length}
use Rattle.records.proofs.Readers.{reads_name}
use Rattle.name_search.proofs.has_text.Goals as goal

pub returns-then-field-text : goal.returns-then-field-text
returns-then-field-text c = same_length _ _ (λ e. c.if-field-text.true (omega (arith, c.field.ensures.is, name-length _ c.requires.0 _ c.requires.1, e)))

pub name-requires : goal.name-requires
name-requires c = reads_name c.requires.0 _ c.requires.1

pub returns : goal.returns
returns c = c.same.ensures ∙ ap (λ (t : Text). same t c.args.text.now) c.name.ensures
