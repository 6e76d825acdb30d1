use Rattle.basics.proofs.Texts.{same_length}
use Rattle.basics.proofs.letters.same.Goals as goal

pub returns-then-a-b : goal.returns-then-a-b
returns-then-a-b c = same_length _ _ c.if-a-b.true
