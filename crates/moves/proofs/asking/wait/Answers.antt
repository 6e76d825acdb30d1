use Rattle.moves.proofs.Known.{node_in, node-levels, node_clear}
use Rattle.moves.specs.Moves.{ask_commands}
use Rattle.basics.specs.Write.{overlay_at}
use Rattle.moves.proofs.AskCall.{there}
use Rattle.moves.proofs.asking.wait.Goals as goal

pub question-requires : goal.question-requires
question-requires c = record { promise = c.requires.promise; from = node_in _ c.requires.promise _ c.requires.known c.requires.free; to = c.requires.here; levels = node-levels _ c.requires.promise _ c.requires.known c.requires.free; clear = node_clear _ c.requires.promise _ c.requires.known c.requires.free; goal = c.requires.term }

pub returns : goal.returns
unfolding ask_commands overlay_at
returns c = record { is = there _ c.args.session.now _ _ c.question.ensures.levels; text = c.question.ensures.text.shown }
