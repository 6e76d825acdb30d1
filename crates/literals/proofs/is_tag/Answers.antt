use Rattle.basics.specs.Text.{Text, same, ascii}
use Rattle.book.specs.Decode.{literal_of}
use Rattle.book.specs.RExpr.{is_tag}
use mathlib.Core.Path.{ap, ◌∙◌}
use Rattle.literals.proofs.is_tag.Goals as goal

pub returns : goal.returns
unfolding is_tag literal_of
returns c = c.same.ensures ∙ ap (λ (x : Text). same x (ascii "%tag")) c.named.ensures
