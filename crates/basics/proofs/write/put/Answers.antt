use borrow.Author.Rules.{rules}
use Rattle.basics.proofs.Writing.{put_some, put_none}
use Rattle.basics.proofs.write.put.Goals as goal

pub returns-in-Some : goal.returns-in-Some
returns-in-Some c = put_some _ _ (search rules)

pub returns-in_default : goal.returns-in_default
returns-in_default c = put_none _ _ (search rules)
