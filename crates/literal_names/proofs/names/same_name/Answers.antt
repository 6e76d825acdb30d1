use native.Mathlib.Omega.{arith}
use mathlib.Core.Path.{sym, ap, ◌∙◌}
use lib.ListN.{length}
use Rattle.basics.specs.Text.{same}
use Rattle.records.proofs.Readers.{reads_name}
use Rattle.basics.proofs.Texts.{same_yes, same_length}
use Rattle.book_test.proofs.Names.{name-length}
use Rattle.literal_names.proofs.Naming.{reads_record, one_place}
use Rattle.literal_names.proofs.names.same_name.Goals as goal

pub field-requires : goal.field-requires
field-requires c = reads_record _ c.requires.0 1 (omega arith) c.requires.2

pub returns-then-field-s : goal.returns-then-field-s
returns-then-field-s c = same_length _ _ (λ e. c.if-field-s.true (c.field.ensures.is ∙ sym (name-length _ c.requires.0 _ c.requires.2) ∙ sym e))

pub field-requires-2 : goal.field-requires-2
field-requires-2 c = reads_record _ c.requires.0 0 (omega arith) c.requires.2

pub field-requires-3 : goal.field-requires-3
field-requires-3 c = reads_record _ c.requires.0 0 (omega arith) c.requires.1

pub returns-then-field : goal.returns-then-field
returns-then-field c = same_yes (c.requires.3 ∙ one_place _ _ _ (sym c.field-3.ensures.is ∙ sym c.if-field.true ∙ c.field-2.ensures.is) (sym (name-length _ c.requires.0 _ c.requires.1) ∙ ap length (sym c.requires.3) ∙ sym c.if-field-s.false ∙ c.field.ensures.is))

pub name-requires : goal.name-requires
name-requires c = reads_name c.requires.0 _ c.requires.2

pub returns : goal.returns
returns c = c.same.ensures ∙ ap (same _) c.name.ensures
