use Rattle.solvers.specs.Returned.{heard}
use Rattle.script_text.proofs.Turning.{reply_closes}
use Rattle.script_text.proofs.turns.reply_turn.Goals as goal

pub returns : goal.returns
unfolding heard
returns c = reply_closes c.args.book.now c.args.s.now c.requires c.args.written c.reply_mut-answer.ensures c.tell-closed.ensures
