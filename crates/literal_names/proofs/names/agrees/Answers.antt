use Prim.Native.Nat.{ℕ}
use native.Mathlib.Omega.{arith}
use mathlib.Core.Path.{sym, ap, ◌∙◌}
use Rattle.basics.specs.Text.{same}
use Rattle.book.specs.Book.{name_text}
use Rattle.book.specs.Decode.{type_of}
use Rattle.solver_expr.specs.SolverExpr.{type_to_string}
use Rattle.records.proofs.Readers.{reads_term}
use Rattle.literal_names.proofs.Naming.{by_name}
use Rattle.literal_names.proofs.names.agrees.Goals as goal

pub field-requires : goal.field-requires
field-requires c = reads_term c.requires.0 2 (omega arith) c.requires.1

pub field-requires-then-field-sought : goal.field-requires-then-field-sought
field-requires-then-field-sought c = reads_term c.requires.0 1 (omega arith) c.requires.1

pub same_name-requires : goal.same_name-requires
same_name-requires c = (c.requires.0, c.requires.3.here, omega (arith, c.field-then-field-sought.ensures.is, c.requires.2.name), c.requires.3.name)

pub returns-then-field-sought : goal.returns-then-field-sought
returns-then-field-sought c = c.same_name.ensures ∙ ap (λ (n : ℕ). same c.args.s.now (name_text c.args.book.now n)) c.field-then-field-sought.ensures.is ∙ sym (by_name _ c.args.k c.args.s.now c.args.typ.now (c.requires.3.type ∙ ap (λ (n : ℕ). type_to_string (type_of c.args.book.now n)) (sym c.if-field-sought.true ∙ c.field.ensures.is)))

pub has_name_of_other_type-requires : goal.has_name_of_other_type-requires
has_name_of_other_type-requires c = c.requires

pub returns : goal.returns
returns c = c.has_name_of_other_type.ensures
