use Rattle.book_forest.proofs.Right.{forest_right}
use Rattle.book_forest.proofs.Marking.{after}
use Rattle.book_forest.specs.Forest.{references}
use lib.ListN.{replicate}
use mathlib.Core.Path.{ap, ◌∙◌}
use Prim.Native.Nat.{ℕ}
use Rattle.book_forest.proofs.is_forest.Goals as goal

pub returns : goal.returns
unfolding references
returns c =
    let marks = after _ _ (after _ _ c.mark_terms.ensures c.mark_axioms.ensures) c.mark_contexts.ensures in
    (marks.is ∙ forest_right _ _ c.requires.3 c.requires.2, c.clear.ensures ∙ ap (λ (n : ℕ). replicate n 0) marks.long)
