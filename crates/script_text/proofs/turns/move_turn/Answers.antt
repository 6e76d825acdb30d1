use Rattle.std.proofs.Common.{[]}
use Rattle.script_text.proofs.Turning.{move_turned}
use Rattle.script_text.proofs.turns.move_turn.Goals as goal

pub returns : goal.returns
returns c = move_turned c.args.book.now c.args.s.now c.requires c.args.node [] c.move_mut-answer.ensures c.tell.ensures c.alone.ensures
