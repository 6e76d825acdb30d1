use mathlib.Core.Path.{ap, ◌∙◌}
use lib.ListN.{drop}
use Rattle.basics.specs.Text.{Text}
use Rattle.book.specs.Decode.{program, type_of}
use Rattle.solver_expr.specs.SolverExpr.{type_to_string}
use Rattle.rsolver.specs.LevelState.{literal_places, name_in}
use Rattle.literal_names.proofs.Naming.{name_is}
use Rattle.literals.proofs.is_named.Goals as goal

pub returns : goal.returns
returns c = c.is_declared.ensures ∙ ap (λ (x : Text). name_in x (program c.args.book.now).literals (drop literal_places c.args.levels.now)) (name_is _ _ c.named-s.ensures (c.type_text.ensures ∙ ap (λ k. type_to_string (type_of c.args.book.now k)) c.field-typ.ensures.is))
