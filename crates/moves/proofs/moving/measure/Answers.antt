use Rattle.moves.proofs.Known.{node_in, node-levels, node_clear}
use Rattle.moves.proofs.moving.measure.Goals as goal

pub set_context-requires : goal.set_context-requires
set_context-requires c = record { promise = c.requires.promise; from = node_in _ c.requires.promise _ c.requires.known c.requires.free; to = c.requires.here; levels = node-levels _ c.requires.promise _ c.requires.known c.requires.free; clear = node_clear _ c.requires.promise _ c.requires.known c.requires.free }
