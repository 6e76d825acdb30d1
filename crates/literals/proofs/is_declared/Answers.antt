use mathlib.Core.Path.{◌∙◌}
use Rattle.literals.proofs.Searching.{answered, named_by}
use Rattle.literals.proofs.is_declared.Goals as goal

pub returns : goal.returns
returns c = named_by _ _ _ (c.is_some.ensures ∙ answered c.find_literal.result.found) c.find_literal.ensures
