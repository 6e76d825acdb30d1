use Rattle.script_text.specs.Turned.{wants}
use Rattle.script_text.proofs.Shapes.{by_shape, widened}
use Rattle.script_text.proofs.Turning.{stop_turned}
use Rattle.script_text.proofs.turns.call_turn.Goals as goal

pub returns-in-Move : goal.returns-in-Move
unfolding wants
returns-in-Move c = by_shape c.args.book.now c.args.s.now c.in-Move.ensures (widened c.args.closing.now c.move_turn.ensures)

pub returns-in-Ask : goal.returns-in-Ask
unfolding wants
returns-in-Ask c = by_shape c.args.book.now c.args.s.now c.in-Ask.ensures c.ask_turn.ensures

pub returns-in-Stop : goal.returns-in-Stop
unfolding wants
returns-in-Stop c = by_shape c.args.book.now c.args.s.now c.in-Stop.ensures (stop_turned c.args.book.now c.args.s.now c.args.closing.now c.put_stopped.ensures)
