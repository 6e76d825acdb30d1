use Prim.Native.Nat.{ℕ}
use native.Mathlib.Omega.{arith}
use mathlib.Core.Path.{sym, ap, ◌∙◌}
use lib.ListN.{length}
use Rattle.basics.specs.Text.{same}
use Rattle.basics.proofs.Bool.{failed}
use Rattle.book.specs.Book.{name_text}
use Rattle.records.proofs.Readers.{reads_term}
use Rattle.book_test.proofs.Names.{name-length}
use Rattle.literal_names.proofs.Naming.{reads_record, by_length, by_front}
use Rattle.std.proofs.lemmas.Bool.{not_from_false}
use Rattle.literal_names.proofs.names.has_name_of_other_type.Goals as goal

pub name_length-requires : goal.name_length-requires
name_length-requires c = (c.requires.0, c.requires.1, c.requires.2)

pub returns-then-s-typ : goal.returns-then-s-typ
returns-then-s-typ c = by_length _ c.args.k c.args.s.now c.args.typ.now (λ e. c.if-s-typ.true (e ∙ sym c.name_length.ensures))

pub field-n-requires : goal.field-n-requires
field-n-requires c = reads_term c.requires.0 1 (omega arith) c.requires.1

pub field-requires : goal.field-requires
field-requires c = reads_record _ c.requires.0 1 (omega arith) (omega (arith, c.field-n.ensures.is, c.requires.2.name))

pub has_name-requires : goal.has_name-requires
has_name-requires c = (c.requires.0, c.requires.1, c.requires.2)

pub returns-then-field-s : goal.returns-then-field-s
returns-then-field-s c = c.has_name.ensures

pub same_name-requires : goal.same_name-requires
same_name-requires c = (c.requires.0, c.requires.3.here, omega (arith, c.field-n.ensures.is, c.requires.2.name), c.requires.3.name)

pub returns-then-not-same_name : goal.returns-then-not-same_name
returns-then-not-same_name c = by_front _ c.args.k c.args.s.now c.args.typ.now (sym c.if-field-s.false ∙ c.field.ensures.is ∙ sym (name-length _ c.requires.0 _ (omega (arith, c.field-n.ensures.is, c.requires.2.name))) ∙ ap (λ (n : ℕ). length (name_text c.args.book.now n)) c.field-n.ensures.is) (ap (λ (n : ℕ). same c.args.s.now (name_text c.args.book.now n)) (sym c.field-n.ensures.is) ∙ failed c.same_name.ensures (not_from_false _ c.if-not-same_name.true))

pub has_name-requires-2 : goal.has_name-requires-2
has_name-requires-2 c = (c.requires.0, c.requires.1, c.requires.2)

pub returns : goal.returns
returns c = c.has_name-2.ensures
