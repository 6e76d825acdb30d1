use Rattle.contexts.proofs.Climb.{parent_is, parent_smaller}
use Rattle.contexts.proofs.parent.Goals as goal

pub returns : goal.returns
returns c =
    let e = parent_is _ _ _ c.requires.below c.requires.inside c.field.ensures.is in
    record { is = e; smaller = parent_smaller _ c.requires.promise _ _ c.requires.below e }
