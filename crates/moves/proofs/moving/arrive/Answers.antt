use Rattle.moves.proofs.Known.{node_in, node-levels, node_clear}
use Rattle.basics.specs.Write.{overlay_at}
use Rattle.moves.proofs.MoveCall.{there}
use Rattle.moves.proofs.moving.arrive.Goals as goal

pub set_context-requires : goal.set_context-requires
set_context-requires c = record { promise = c.requires.promise; from = node_in _ c.requires.promise _ c.requires.known c.requires.free; to = c.requires.here; levels = node-levels _ c.requires.promise _ c.requires.known c.requires.free; clear = node_clear _ c.requires.promise _ c.requires.known c.requires.free }

pub returns : goal.returns
unfolding overlay_at
returns c = record { is = there _ c.args.session.now _ c.set_context.ensures.state.levels; text = c.set_context.ensures.text.shown }
