use Rattle.moves.proofs.Known.{node_in, node-levels, node_clear}
use Rattle.moves.specs.Moves.{ask_commands}
use Rattle.moves.proofs.asking.measure.Goals as goal

pub question-requires : goal.question-requires
question-requires c = record { promise = c.requires.promise; from = node_in _ c.requires.promise _ c.requires.known c.requires.free; to = c.requires.here; levels = node-levels _ c.requires.promise _ c.requires.known c.requires.free; clear = node_clear _ c.requires.promise _ c.requires.known c.requires.free; goal = c.requires.term }

pub returns : goal.returns
unfolding ask_commands
returns c = record { missing = c.question.ensures.missing; counted = c.question.ensures.text.counted }
