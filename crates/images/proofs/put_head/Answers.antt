use native.Mathlib.Omega.{arith}
use Rattle.images.proofs.Stored.{head_put}
use Rattle.images.proofs.put_head.Goals as goal

pub returns : goal.returns
returns c = head_put _ _ _ _ (omega arith) c.put_word-node_at.ensures c.put_word-goal_at.ensures c.put_word-owed_at.ensures c.put_word.ensures
