use native.Mathlib.Omega.{arith}
use mathlib.Core.Path.{ap, ◌∙◌}
use Rattle.basics.specs.Text.{same}
use Rattle.book.specs.Decode.{type_of}
use Rattle.records.proofs.Readers.{named_term, reads_term}
use Rattle.solver_expr.specs.SolverExpr.{type_to_string}
use Rattle.literal_names.proofs.Naming.{name_is}
use Rattle.literal_names.proofs.names.has_name.Goals as goal

pub named-other-requires : goal.named-other-requires
named-other-requires c = named_term c.requires.0 c.requires.1 c.requires.2.name

pub field-requires : goal.field-requires
field-requires c = reads_term c.requires.0 2 (omega arith) c.requires.1

pub type_text-other_type-requires : goal.type_text-other_type-requires
type_text-other_type-requires c = (c.requires.0, omega (arith, c.field.ensures.is, c.requires.2.typ))

pub returns : goal.returns
returns c =
    c.same_pair.ensures
    ∙ ap (same _) (name_is _ _ c.named-other.ensures (c.type_text-other_type.ensures ∙ ap (λ k. type_to_string (type_of c.args.book.now k)) c.field.ensures.is))
