use mathlib.Core.Path.{sym, ◌∙◌}
use native.Mathlib.Omega.{arith}
use mathlib.Core.Bool.{false≢true}
use Rattle.literals.proofs.Declaring.{literal_tag, literal_old, literal_sent}
use Rattle.literals.proofs.declare_literal.Goals as goal
use Rattle.literals.proofs.declare_literal.Goals.{then-is_tag, else-is_tag}

pub returns-then-is_named : goal.returns-then-is_named
returns-then-is_named c = elim c.if-is_tag.branch [
  | then-is_tag w ↦ literal_tag _ _ _ _ _ _ (sym c.is_tag.ensures ∙ w.if-is_tag.true) (omega (arith, c.well_formed.1.1.1.1.0))
  | else-is_tag w ↦ literal_old _ _ _ _ _ _ (sym c.is_tag.ensures ∙ w.if-is_tag.false) (sym w.is_named.ensures ∙ sym w.value-is ∙ c.if-is_named.true) (omega (arith, c.well_formed.1.1.1.1.0))
]

pub returns-else-is_named : goal.returns-else-is_named
returns-else-is_named c = elim c.if-is_tag.branch [
  | then-is_tag w ↦ absurd (false≢true (sym c.if-is_named.false ∙ w.value-is ∙ w.if-is_tag.true))
  | else-is_tag w ↦ literal_sent _ _ (sym c.is_tag.ensures ∙ w.if-is_tag.false) (sym w.is_named.ensures ∙ sym w.value-is ∙ c.if-is_named.false) c.send_literal.ensures
]
