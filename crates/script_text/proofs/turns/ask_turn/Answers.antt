use Rattle.script_text.proofs.Turning.{ask_refused, ask_replied}
use Rattle.script_text.proofs.turns.ask_turn.Goals as goal

pub returns-in-Ok : goal.returns-in-Ok
returns-in-Ok c =
    ask_replied c.args.book.now c.args.s.now c.args.node c.args.term c.requires.0 c.ask_mut-answer.ensures c.tell-written.ensures c.in-Ok.is c.reply_turn.ensures

pub returns-in-Err : goal.returns-in-Err
returns-in-Err c =
    ask_refused c.args.book.now c.args.s.now c.args.node c.args.term c.requires.0 c.ask_mut-answer.ensures c.tell-written.ensures c.args.closing.now c.in-Err.is c.alone.ensures
